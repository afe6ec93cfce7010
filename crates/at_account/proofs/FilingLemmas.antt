-- How the file of accounts is replaced.
use Rattle.std.proofs.Common.{◌≡◌, ℕ, List, [], inl, inr, sym, subst}
use Rattle.std.specs.Prelude.{Option, Some}
use Rattle.std.specs.FinMap as finite
use Rattle.host_calls.specs.Directory.{Directory}
use Rattle.host_calls.specs.World.{World}
use Rattle.record_lines.specs.Lines.{AreLegalAfter, AreSpelled}
use Rattle.at_account.specs.declared.record.AccountRecord.{AccountRecord}
use Rattle.at_account.specs.Lines.{SpellsRecord}
use Rattle.at_account.specs.Records.{IsRecordAllowed}
use Rattle.whole_file.specs.Others.{ChangesFiles}
use Rattle.whole_file.specs.Placement.{IsPlaced, IsPlacing}
use Rattle.whole_file.proofs.ChangesJoined.{changes_weaker}
use Rattle.at_account.specs.UpdatedRecords.{GivesRecords}
use Rattle.at_account.specs.Names.{account_file, account_temp}
use Rattle.at_account.specs.inside.AccountFile.{IsWriting, AreRecordsWritten}

-- what is placed is a file of records
module _ (bytes : List ℕ) (records : List AccountRecord) (spelled : AreSpelled SpellsRecord bytes records)
    (in_turn : AreLegalAfter IsRecordAllowed [] records) where
  gives : (content : Option (List ℕ)) → content ≡ Some bytes → GivesRecords content records
  gives content is = subst (λ c. GivesRecords c records) (sym is) (record { spelled = spelled; in_turn = in_turn })

  pub writes : (old new : World) → ChangesFiles (IsPlacing account_temp account_file bytes old.now.directory) old new
      → ChangesFiles (IsWriting records old.now.directory) old new
  writes old new changes =
      changes_weaker (IsPlacing account_temp account_file bytes old.now.directory) (IsWriting records old.now.directory) old new
      (λ image is. record {
        alone = is.alone;
        account = elim is.placed [ inl same ↦ inl same | inr put ↦ inr (gives (finite.get image account_file) put) ];
      }) changes

  pub written : (old new : Directory) → IsPlaced account_temp account_file bytes old new → AreRecordsWritten records old new
  written old new placed = record {
    gives = λ image is. gives (finite.get image account_file) (placed.placed image is);
    no_temp = placed.no_temp;
    others = placed.others;
  }
