-- The names of accounts are none of the store's, and differ.
use Rattle.std.proofs.Common.{◌≢◌, refl}
use Rattle.spool_shows.proofs.NameLemmas.{differ_by}
use Rattle.spool_store.specs.Beside.{IsNoSpoolName}
use Rattle.spool_store.proofs.BesideLemmas.{AreBeside, beside_by, two_beside}
use Rattle.whole_file.specs.Others.{IsEither}
use Rattle.at_account.specs.Names.{account_file, account_temp}

pub file_beside : IsNoSpoolName account_file
file_beside = beside_by account_file refl refl refl refl

pub temp_beside : IsNoSpoolName account_temp
temp_beside = beside_by account_temp refl refl refl refl

pub both_beside : AreBeside (IsEither account_temp account_file)
both_beside = two_beside account_temp account_file temp_beside file_beside

pub temp_apart : account_temp ≢ account_file
temp_apart = differ_by account_temp account_file refl
