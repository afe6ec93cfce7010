-- The names of the mark are none of the store's, and differ.
use Rattle.std.proofs.Common.{◌≢◌, refl}
use Rattle.spool_shows.proofs.NameLemmas.{differ_by}
use Rattle.spool_store.specs.Beside.{IsNoSpoolName}
use Rattle.spool_store.proofs.BesideLemmas.{AreBeside, beside_by, two_beside}
use Rattle.whole_file.specs.Others.{IsEither}
use Rattle.cron_session.specs.MarkNames.{mark_file, mark_temp}

pub file_beside : IsNoSpoolName mark_file
file_beside = beside_by mark_file refl refl refl refl

pub temp_beside : IsNoSpoolName mark_temp
temp_beside = beside_by mark_temp refl refl refl refl

pub both_beside : AreBeside (IsEither mark_temp mark_file)
both_beside = two_beside mark_temp mark_file temp_beside file_beside

pub temp_apart : mark_temp ≢ mark_file
temp_apart = differ_by mark_temp mark_file refl
