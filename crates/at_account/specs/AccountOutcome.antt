-- What the program leaves (own): what each image of each moment has, what is put and said, and each cause.
use Rattle.std.specs.Prelude.{◌≡◌, ◌⊎◌, ℕ, Bool, true, List, Option, Result, Ok, Err}
use Rattle.std.specs.FinMap as finite
use Rattle.at_words.specs.declared.fault.WordsFault.{WordsFault}
use Rattle.tool_output.specs.Causes.{words_cause}
use Rattle.tool_output.specs.Outside.{OutsideAt, no_inputs, no_readings, no_sink, outside_at}
use Rattle.tool_output.specs.Sinks.{IsCut, IsPut, IsPutInPart, IsSilent, SinkAt}
use Rattle.host_calls.specs.Causes.{Rose}
use Rattle.host_calls.specs.declared.damage.Damage.{Damage}
use Rattle.host_calls.specs.declared.host.Host as host
use Rattle.host_calls.specs.declared.sink.Sink as sink
use Rattle.host_calls.specs.Directory.{Files, Directory, IsImage, IsInNoImage, reading_of}
use Rattle.host_calls.specs.Session.{IsLeft}
use Rattle.host_calls.specs.World.{TimePasses, World, reading}
use Rattle.listing_text.specs.declared.cause.Cause.{Cause}
use Rattle.listing_text.specs.declared.cause.Cause.TheVariants.{Done, Refused, FileFault, OutputFault, Busy, Memory, Damaged}
use Rattle.listing_text.specs.declared.refusal.Refusal.{Refusal}
use Rattle.listing_text.specs.declared.refusal.Refusal.TheVariants.{AccountsFull}
use Rattle.at_account.specs.declared.record.AccountRecord.{AccountRecord}
use Rattle.spool_model.specs.JobTable.{JobTable}
use Rattle.spool_shows.specs.Shown.{Shows, shown_by}
use Rattle.step_runs.specs.Calls.{ShowsAsBefore}
use Rattle.step_runs.specs.Current.{IsSpoolName}
use Rattle.whole_file.specs.Others.{ChangesFiles, IsEither}
use Rattle.at_account.specs.UpdatedRecords.{AreUpdatedRecords, AreTooManyRecords, GivesRecords, IsAccountDamage}
use Rattle.at_account.specs.Names.{account_file, account_temp}
use Rattle.at_account.specs.TotalLines.{IsShown}

-- the content of the file of accounts has the records that were counted over these files
pub record HasCounted (files : Files) (content : Option (List ℕ)) : Type 0 where
  pub table : JobTable
  pub records : List AccountRecord
  pub counted : AreUpdatedRecords files table records
  pub gives : GivesRecords content records

-- The image shows what an image of the start shows and has its other files. Its file of accounts is that one's, or has
-- the records that were counted over the reading of the start.
pub record IsAccounting (start : Directory) (image : Files) : Type 0 where
  pub from : Files
  pub was : IsImage start from
  pub same : shown_by image ≡ shown_by from
  pub account : (finite.get image account_file ≡ finite.get from account_file) ⊎ HasCounted (reading_of start)
      (finite.get image account_file)
  pub others : (name : List ℕ) → ¬ (IsSpoolName name) → ¬ (IsEither account_temp account_file name) → finite.get image name
      ≡ finite.get from name

-- each image of the directory shows the table, and its file of accounts has the records
abbrev pub EachIsAccounted : Directory → JobTable → List AccountRecord → Type 0
EachIsAccounted directory table records =
    (image : Files) → IsImage directory image → Shows image table × GivesRecords (finite.get image account_file) records

-- The records were counted over the reading of the start, each image has them, and the text is what is shown of them. The
-- file that was made before is gone, and files that are not the spool's read as before.
pub record IsAccounted (show : Bool) (old new : World) (text : List ℕ) : Type 0 where
  pub table : JobTable
  pub records : List AccountRecord
  pub counted : AreUpdatedRecords (reading old) table records
  pub is_accounted : EachIsAccounted new.now.directory table records
  pub shown : IsShown show records text
  pub no_temp : IsInNoImage new.now.directory account_temp
  pub others : (name : List ℕ) → ¬ (IsSpoolName name) → ¬ (IsEither account_temp account_file name)
      → finite.get (reading new) name ≡ finite.get (reading old) name

-- nothing was changed but what a recovery changes: each image has the file of accounts of the one that it comes of
abbrev pub IsLeftAlone : World → World → Type 0
IsLeftAlone old new = ChangesFiles (ShowsAsBefore old.now.directory) old new

-- the spool is damaged, or else the file of accounts
abbrev pub IsSpoolOrAccountDamage : Files → Damage → Type 0
IsSpoolOrAccountDamage files damage =
    (shown_by files ≡ Err damage)
    ⊎ ((table : JobTable) × (shown_by files ≡ Ok table) × IsAccountDamage (finite.get files account_file) damage)

-- what a refusal leaves: there would be too many records, and nothing was placed
abbrev pub AccountRefusalLeaves : Refusal → World → World → Type 0
AccountRefusalLeaves AccountsFull old new = AreTooManyRecords (reading old) × IsLeftAlone old new
AccountRefusalLeaves _ old new = ⊥

-- What is left in the directory and put on the output, by the cause: all of the text where it is done, a prefix of it where
-- the put failed or ran out of memory, and else nothing.
abbrev pub AccountLeaves : Bool → Bool → World → World → SinkAt → SinkAt → Cause → Type 0
AccountLeaves show tells old new was now Done = (text : List ℕ) × IsAccounted show old new text ×
    (tells ≡ true → IsPut text was now)
AccountLeaves show tells old new was now OutputFault = (text : List ℕ) × IsAccounted show old new text ×
    (tells ≡ true → IsCut text was now)
AccountLeaves show tells old new was now Memory = tells ≡ true →
    IsSilent was now ⊎ ((text : List ℕ) × IsAccounted show old new text × IsPutInPart text was now)
AccountLeaves show tells old new was now FileFault = tells ≡ true → IsSilent was now
AccountLeaves show tells old new was now (Refused refusal) = AccountRefusalLeaves refusal old new ×
    (tells ≡ true → IsSilent was now)
AccountLeaves show tells old new was now (Damaged damage) = IsSpoolOrAccountDamage (reading old) damage × IsLeftAlone old new
    × (tells ≡ true → IsSilent was now)
AccountLeaves show tells old new was now Busy = (new ≡ old) × (tells ≡ true → IsSilent was now)
AccountLeaves show tells old new was now _ = ⊥

-- the causes for which the program may end, where its words request something
abbrev pub MayEndAccount : Cause → Type 0
MayEndAccount Done = Unit {0}
MayEndAccount (Refused AccountsFull) = Unit {0}
MayEndAccount FileFault = Unit {0}
MayEndAccount OutputFault = Unit {0}
MayEndAccount Busy = Unit {0}
MayEndAccount Memory = Unit {0}
MayEndAccount (Damaged damage) = Unit {0}
MayEndAccount _ = ⊥

-- all that the program is handed before it says its cause: no readings, no inputs, and nothing to say it on
abbrev pub account_outside : {H O : Type 0} → host.Ghosts H → sink.Ghosts O → H → O → OutsideAt
account_outside h o host out = outside_at h no_readings no_inputs o no_sink host tt tt out tt

-- Words that request nothing are said to be wrong, or ran out of memory; the directory and the output are left alone.
pub record IsUnasked (fault : WordsFault) (old new : OutsideAt) (cause : Cause) : Type 0 where
  pub because : (cause ≡ words_cause fault) ⊎ (cause ≡ Memory)
  pub session : new.session ≡ old.session
  pub spool : new.holds.spool ≡ old.holds.spool
  pub unchecked : old.tells.output ≡ true → IsSilent old.holds.output new.holds.output

-- How the program ends, by what its words request. It starts no child and starts nothing; each fault comes only where
-- its count rose; what each image of each moment has; what is left; and what is put.
pub record Accounting (asked : Result Bool WordsFault) (old new : OutsideAt) (cause : Cause) : Type 0 where
  pub left : IsLeft old.session new.session
  pub goes_on : old.tells.files ≡ true → TimePasses old.holds.spool new.holds.spool
  pub file_fault : cause ≡ FileFault → Rose old.session.file_faults new.session.file_faults
  pub busy : cause ≡ Busy → Rose old.session.taken new.session.taken
  pub output_fault : cause ≡ OutputFault → Rose old.out.sink_faults new.out.sink_faults
  pub made_as : new.out.made_as ≡ old.out.made_as
  pub unasked : (fault : WordsFault) → asked ≡ Err fault → IsUnasked fault old new cause
  pub may_end : (show : Bool) → asked ≡ Ok show → MayEndAccount cause
  pub images : old.tells.files ≡ true → old.tells.alone ≡ true →
      ChangesFiles (IsAccounting old.holds.spool.now.directory) old.holds.spool new.holds.spool
  pub leaves : (show : Bool) → asked ≡ Ok show → old.tells.files ≡ true → old.tells.alone ≡ true →
      AccountLeaves show old.tells.output old.holds.spool new.holds.spool old.holds.output new.holds.output cause
