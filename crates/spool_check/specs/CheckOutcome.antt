-- What the checker leaves (own): the lines of the faults, what is written into the new directory, and how it ends.
use Rattle.std.specs.Prelude.{◌≡◌, ◌≢◌, ◌⊎◌, [], ℕ, Bool, true, false, List, Result, Ok, Err, codes}
use Rattle.tool_output.specs.Outside.{DirectoryAt, StreamAt}
use Rattle.at_words.specs.declared.fault.WordsFault.{WordsFault}
use Rattle.tool_output.specs.SaidLines.{IsSaid}
use Rattle.tool_output.specs.Causes.{words_cause}
use Rattle.tool_output.specs.Sinks.{IsCut, IsPut, IsPutInPart, SinkAt}
use Rattle.host_calls.specs.declared.damage.Damage.{Damage}
use Rattle.host_calls.specs.Directory.{Files}
use Rattle.host_calls.specs.World.{World, reading}
use Rattle.listing_text.specs.declared.cause.Cause.{Cause}
use Rattle.listing_text.specs.declared.cause.Cause.TheVariants.{Done, Refused, FileFault, OutputFault, Busy, Memory, Faulty}
use Rattle.listing_text.specs.declared.refusal.Refusal.{Refusal}
use Rattle.listing_text.specs.declared.refusal.Refusal.TheVariants.{TargetNotEmpty}
use Rattle.spool_faults.specs.Faults.{faults_of}
use Rattle.spool_faults.specs.Listed.{LeavesDirectory}
use Rattle.spool_check.specs.SalvageOutcome.{HasSalvage, IsTargetRefused, IsSalvaging, is_spool}
use Rattle.whole_file.specs.Others.{ChangesFiles}
use Rattle.spool_check.specs.Outside.{DirectoriesAt, Visit}
use Rattle.spool_check.specs.FaultLines.{fault_lines}

-- What is put on the output, by the cause: all lines where every fault was told, else a prefix of them.
abbrev pub PrintsFaultsBy : Cause → List ℕ → SinkAt → SinkAt → Type 0
PrintsFaultsBy Done lines old new = IsPut lines old new
PrintsFaultsBy Faulty lines old new = IsPut lines old new
PrintsFaultsBy (Refused refusal) lines old new = IsPut lines old new
PrintsFaultsBy OutputFault lines old new = IsCut lines old new
PrintsFaultsBy FileFault lines old new = IsPutInPart lines old new
PrintsFaultsBy Busy lines old new = IsPutInPart lines old new
PrintsFaultsBy Memory lines old new = IsPutInPart lines old new
PrintsFaultsBy _ lines old new = ⊥

-- where all was done there is a fault, or there is none
abbrev pub FindsBy : Cause → List Damage → Type 0
FindsBy Done faults = faults ≡ []
FindsBy Faulty faults = faults ≢ []
FindsBy _ faults = Unit {0}

-- The new directory had no file of a spool, and has the salvage of the files.
pub record IsSalvaged (files : Files) (first last : World) : Type 0 where
  pub empty : is_spool (reading first) ≡ false
  pub salvage : HasSalvage files first.now.directory last.now.directory

-- what a refusal leaves: the new directory is a spool, and was left as it is
abbrev pub RefusedBy : Refusal → World → World → Type 0
RefusedBy TargetNotEmpty first last = IsTargetRefused first last
RefusedBy _ first last = ⊥

-- what is left in the new directory, by the cause
abbrev pub WritesBy : Cause → Files → World → World → Type 0
WritesBy Done files first last = IsSalvaged files first last
WritesBy Faulty files first last = IsSalvaged files first last
WritesBy (Refused refusal) files first last = RefusedBy refusal first last
WritesBy OutputFault files first last = last ≡ first
WritesBy Busy files first last = last ≡ first
WritesBy FileFault files first last = Unit {0}
WritesBy Memory files first last = Unit {0}
WritesBy _ files first last = ⊥

-- The new directory was visited. At each moment an image is one of the visit's start, or shows no job, or the table that
-- is saved of the files.
pub record Writes (files : Files) (old new : DirectoryAt) (cause : Cause) : Type 0 where
  pub visit : Visit old new
  pub leaves : old.tells ≡ true → ChangesFiles (IsSalvaging files visit.first.now.directory) visit.first visit.last
  pub by : old.tells ≡ true → WritesBy cause files visit.first visit.last

-- the causes for which the checker may end; a new directory that is a spool is refused only where it salvages
abbrev pub MayEndCheck : Bool → Cause → Type 0
MayEndCheck salvage Done = Unit {0}
MayEndCheck salvage Faulty = Unit {0}
MayEndCheck salvage FileFault = Unit {0}
MayEndCheck salvage OutputFault = Unit {0}
MayEndCheck salvage Busy = Unit {0}
MayEndCheck salvage Memory = Unit {0}
MayEndCheck salvage (Refused TargetNotEmpty) = salvage ≡ true
MayEndCheck salvage _ = ⊥

-- without a salvage the new directory is left alone
abbrev pub WritesWhere : Bool → Bool → Files → DirectoryAt → DirectoryAt → Cause → Type 0
WritesWhere false tells files old new cause = new ≡ old
WritesWhere true tells files old new cause = tells ≡ true → Writes files old new cause

-- What was done within a visit of the directory that is checked. It is left as it was, its faults are reported, and the new
-- directory is written.
pub record Checks (salvage tells : Bool) (first last : World) (to_old to_new : DirectoryAt) (was is : StreamAt)
    (cause : Cause) : Type 0 where
  pub leaves : tells ≡ true → LeavesDirectory first last
  pub prints : tells ≡ true → was.tells ≡ true → PrintsFaultsBy cause (fault_lines (faults_of (reading first))) was.sink is.sink
  pub finds : tells ≡ true → FindsBy cause (faults_of (reading first))
  pub may_end : MayEndCheck salvage cause
  pub writes : WritesWhere salvage tells (reading first) to_old to_new cause

-- Such a visit, of the directory that is checked.
pub record IsChecked (salvage : Bool) (old new : DirectoriesAt) (cause : Cause) : Type 0 where
  pub visit : Visit old.from new.from
  pub checks : Checks salvage old.from.tells visit.first visit.last old.to new.to old.out new.out cause

-- What was done, by what the words request. Where they request nothing nothing was touched, and the cause says so, unless no
-- memory was found to read them.
abbrev pub ChecksAsRequested : Result Bool WordsFault → DirectoriesAt → DirectoriesAt → Cause → Type 0
ChecksAsRequested (Ok salvage) old new cause = IsChecked salvage old new cause
ChecksAsRequested (Err fault) old new cause = (new ≡ old) × ((cause ≡ words_cause fault) ⊎ (cause ≡ Memory))

-- How the checker ends: what it did, and the line of its cause, which is said under its name.
pub record CheckEnds (asked : Result Bool WordsFault) (old new : DirectoriesAt) (err_old err_new : StreamAt)
    (final : Cause) : Type 0 where
  pub cause : Cause
  pub does : ChecksAsRequested asked old new cause
  pub says : IsSaid (codes "atcheck") err_old.tells cause err_old.sink err_new.sink final
