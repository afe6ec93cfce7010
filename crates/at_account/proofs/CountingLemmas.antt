-- What is counted and written in a session, since its start.
use Rattle.std.proofs.Common.{◌≡◌, ◌∙◌, ℕ, Bool, List, inl, inr, refl, ap, subst}
use Rattle.std.specs.Prelude.{Option, Some, None}
use Rattle.std.specs.FinMap as finite
use Rattle.std.specs.Option.{option_map}
use Rattle.host_calls.specs.Directory.{Files, Directory, IsImage}
use Rattle.host_calls.specs.World.{TimePasses, World, reading}
use Rattle.host_calls.proofs.WorldLemmas.{leaves_weaker}
use Rattle.at_account.specs.declared.record.AccountRecord.{AccountRecord}
use Rattle.at_account.specs.News.{known_job, news_of}
use Rattle.at_account.specs.ObservedTable.{AreNews, known_in}
use Rattle.listing_text.specs.declared.cause.Cause.{Cause}
use Rattle.listing_text.specs.declared.cause.Cause.TheVariants.{Refused, FileFault, Memory, Damaged}
use Rattle.listing_text.specs.declared.refusal.Refusal.TheVariants as refusal
use Rattle.spool_model.specs.declared.entry.Entry.TheVariants.{Live, Done as DoneEntry}
use Rattle.spool_model.specs.JobTable.{JobEntry, JobTable, entry_at}
use Rattle.host_calls.specs.declared.store_fault.StoreFault.TheVariants as store
use Rattle.spool_store.specs.Recovery.{IsRecovered}
use Rattle.spool_store.proofs.BesideLemmas.{shows_the_same}
use Rattle.step_runs.specs.Calls.{ShowsAsBefore}
use Rattle.step_runs.specs.Current.{Kept}
use Rattle.step_runs.specs.WithoutScripts.{entry_without_script, without_scripts}
use Rattle.step_runs.proofs.WithoutScriptsLemmas.{entries_are_without_scripts}
use Rattle.whole_file.specs.Others.{ChangesFiles, IsEither}
use Rattle.whole_file.specs.TempFiles.{IsDurableAt}
use Rattle.whole_file.proofs.ChangesJoined.{changes_end, changes_on, changes_weaker, left_alone}
use Rattle.at_account.specs.AccountOutcome.{IsAccounted, IsAccounting}
use Rattle.at_account.specs.UpdatedRecords.{AreUpdatedRecords, GivesRecords, IsAccountDamage}
use Rattle.at_account.specs.Names.{account_file, account_temp}
use Rattle.at_account.specs.TotalLines.{IsShown}
use Rattle.at_account.specs.inside.AccountFile as file
use Rattle.at_account.specs.inside.AccountFile.{IsWriting, AreRecordsWritten}
use Rattle.at_account.specs.inside.Inside.{AreUpdatedContent, StopsCounting, StopsInside}
use Rattle.at_account.proofs.NameLemmas.{both_beside, file_beside, temp_beside}

-- an entry is known without its script
same_known : (entry : Option JobEntry) → option_map known_job (option_map entry_without_script entry) ≡ option_map known_job entry
same_known None = refl
same_known (Some (Live job state)) = refl
same_known (Some (DoneEntry fate)) = refl

known_without_scripts : (kept table : JobTable) (number : ℕ) → kept ≡ without_scripts table → known_in kept number ≡ known_in table number
known_without_scripts kept table number is =
    ap (λ (of : JobTable). known_in of number) is ∙ ap (option_map known_job) (entries_are_without_scripts table number)
    ∙ same_known (entry_at table number)

-- what is new by the table that a store keeps is so by the table itself
news_with_scripts : (before new_records : List AccountRecord) (kept table : JobTable) → kept ≡ without_scripts table
    → AreNews before kept new_records → AreNews before table new_records
news_with_scripts before new_records kept table is are = record {
  each = λ number. are.each number ∙ ap (news_of before number) (known_without_scripts kept table number is);
  by_number = are.by_number;
}

-- a start as it was
as_before : (start : Directory) (image : Files) → IsImage start image → ShowsAsBefore start image
as_before start image is = record { from = image; was = is; same = refl; others = λ name other. refl }

-- an image on the way of a recovery
recovery_is_accounting : (start : Directory) (image : Files) → ShowsAsBefore start image → IsAccounting start image
recovery_is_accounting start image is = record {
  from = is.from;
  was = is.was;
  same = is.same;
  account = inl (is.others account_file file_beside);
  others = λ name beside other. is.others name beside;
}

-- nothing but a recovery was begun
pub accounting_alone : (old new : World) → ChangesFiles (ShowsAsBefore old.now.directory) old new
    → ChangesFiles (IsAccounting old.now.directory) old new
accounting_alone old new recovery =
    changes_weaker (ShowsAsBefore old.now.directory) (IsAccounting old.now.directory) old new
    (recovery_is_accounting old.now.directory) recovery

-- a fault of a file, or an out-of-memory error, leaves what it leaves
pub host_stops : (old new : World) (cause : Cause) → file.IsHostCause cause → StopsInside old new cause
host_stops old new FileFault is = tt
host_stops old new Memory is = tt
host_stops old new cause is = absurd is

-- the spool was recovered, and what it keeps is this
module _ (old middle : World) (kept : Kept) (recovery : ChangesFiles (ShowsAsBefore old.now.directory) old middle)
    (recovered : IsRecovered old.now.directory middle.now.directory kept) where
  -- the file of accounts reads as before
  pub reads_on : finite.get (reading middle) account_file ≡ finite.get (reading old) account_file
  reads_on = recovered.others account_file file_beside

  -- and the one that is being made is durable
  pub temp_durable : IsDurableAt account_temp middle.now.directory
  temp_durable image is = recovered.durable_others image is account_temp temp_beside

  -- why nothing was counted
  pub stops : (cause : Cause) → StopsCounting kept.table (finite.get (reading middle) account_file) cause → StopsInside old middle cause
  stops (Damaged damage) stopped =
      (inr (recovered.table, recovered.shown, subst (λ content. IsAccountDamage content damage) reads_on stopped), recovery)
  stops (Refused refusal.AccountsFull) stopped = (
    record {
      table = recovered.table;
      read = stopped.read;
      shown = recovered.shown;
      gives = subst (λ content. GivesRecords content stopped.read) reads_on stopped.gives;
      many = record {
        new_records = stopped.many.new_records;
        are = news_with_scripts stopped.read stopped.many.new_records kept.table recovered.table
            recovered.current.without_scripts_is stopped.many.are;
        many = stopped.many.many;
      };
    },
    recovery,
  )
  stops FileFault stopped = tt
  stops Memory stopped = tt
  stops _ stopped = absurd stopped

  module _ (records : List AccountRecord) (counts : AreUpdatedContent kept.table (finite.get (reading middle) account_file) records) where
    counted : AreUpdatedRecords (reading old) recovered.table records
    counted = record {
      read = counts.read;
      new_records = counts.new_records;
      shown = recovered.shown;
      gives = subst (λ content. GivesRecords content counts.read) reads_on counts.gives;
      are = news_with_scripts counts.read counts.new_records kept.table recovered.table recovered.current.without_scripts_is counts.are;
      all = counts.all;
      few = counts.few;
    }

    module _ (new : World) (writes : ChangesFiles (IsWriting records middle.now.directory) middle new) where
      -- an image on the way to the new file
      since_start : (image : Files) → IsWriting records middle.now.directory image → IsAccounting old.now.directory image
      since_start image is =
          let from =
          changes_end (ShowsAsBefore old.now.directory) old middle recovery (as_before old.now.directory) is.alone.from is.alone.was in
          record {
            from = from.from;
            was = from.was;
            same = shows_the_same (IsEither account_temp account_file) both_beside middle.now.directory image is.alone ∙ from.same;
            account = elim is.account [
              | inl same ↦ inl (same ∙ from.others account_file file_beside)
              | inr gives ↦ inr (record { table = recovered.table; records = records; counted = counted; gives = gives })
            ];
            others = λ name beside other. is.alone.others name other ∙ from.others name beside;
          }

      pub accounting_since : ChangesFiles (IsAccounting old.now.directory) old new
      accounting_since =
          changes_on (ShowsAsBefore old.now.directory) (IsWriting records middle.now.directory)
          (IsAccounting old.now.directory) old middle new
          (recovery_is_accounting old.now.directory) since_start recovery writes

      -- all was done
      pub accounted : (show : Bool) (text : List ℕ) → IsShown show records text
          → AreRecordsWritten records middle.now.directory new.now.directory → IsAccounted show old new text
      accounted show text shown written = record {
        table = recovered.table;
        records = records;
        counted = counted;
        is_accounted = λ image is.
            let writing = changes_end (IsWriting records middle.now.directory) middle new writes
            (λ files was. record {
              alone = left_alone (IsEither account_temp account_file) middle.now.directory files was;
              account = inl refl;
            }) image is in (
              shows_the_same (IsEither account_temp account_file) both_beside middle.now.directory image writing.alone
                  ∙ recovered.current.shows writing.alone.from writing.alone.was,
              written.gives image is,
            );
        shown = shown;
        no_temp = written.no_temp;
        others = λ name beside other. written.others name other ∙ recovered.others name beside;
      }

-- what changes only files goes on
pub goes_on_by : (P : Files → Type 0) (old new : World) → ChangesFiles P old new → TimePasses old new
goes_on_by P old new changes = record {
  asked = changes.asked;
  handed = changes.handed;
  leaves = leaves_weaker _ _ old new (λ image handed is. is.1) changes.leaves;
}
