-- The parts of a check (own).
use Rattle.std.specs.Prelude.{◌≡◌, ◌⊎◌, ◌≤◌, Bool, true, List, Result, Ok, Err, IfErr, IfOk}
use Rattle.tool_output.specs.Outside.{DirectoryAt}
use Rattle.tool_output.specs.declared.command_error.CommandError.{CommandError}
use Rattle.tool_output.specs.Sinks.{SinkAt}
use Rattle.host_calls.specs.Causes.{Rose}
use Rattle.host_calls.specs.declared.damage.Damage.{Damage}
use Rattle.host_calls.specs.Session.{Session}
use Rattle.host_calls.specs.World.{reading}
use Rattle.listing_text.specs.declared.cause.Cause.{Cause}
use Rattle.listing_text.specs.declared.cause.Cause.TheVariants.{Refused, FileFault, OutputFault, Busy, Memory}
use Rattle.listing_text.specs.declared.refusal.Refusal.TheVariants.{TargetNotEmpty}
use Rattle.spool_faults.specs.Faults.{faults_of}
use Rattle.spool_faults.specs.Listed.{LeavesDirectory}
use Rattle.spool_check.specs.declared.fault.SalvageFault.{SalvageFault}
use Rattle.spool_check.specs.declared.fault.SalvageFault.TheVariants as fault
use Rattle.spool_check.specs.CheckOutcome.{PrintsFaultsBy}
use Rattle.spool_check.specs.Outside.{Visit}
use Rattle.spool_check.specs.FaultLines.{fault_lines, cause_of_faults}

-- the cause of an answer: the one that it gives, or that stopped it
abbrev pub cause_by : Result Cause CommandError → Cause
cause_by (Ok cause) = cause
cause_by (Err stopped) = stopped.cause

-- the cause of a fault of a salvage
abbrev pub salvage_cause : SalvageFault → Cause
salvage_cause fault.FromFailed = FileFault
salvage_cause fault.ToFailed = FileFault
salvage_cause fault.NotEmpty = Refused TargetNotEmpty
salvage_cause fault.Memory = Memory

-- the directory could not be looked at
abbrev pub IsDiagnosisCause : Cause → Type 0
IsDiagnosisCause FileFault = Unit {0}
IsDiagnosisCause Busy = Unit {0}
IsDiagnosisCause Memory = Unit {0}
IsDiagnosisCause _ = ⊥

-- the lines could not be put
abbrev pub IsReportCause : Cause → Type 0
IsReportCause OutputFault = Unit {0}
IsReportCause Memory = Unit {0}
IsReportCause _ = ⊥

-- the new directory could not be written, or is a spool
abbrev pub IsSalvageCause : Cause → Type 0
IsSalvageCause FileFault = Unit {0}
IsSalvageCause Busy = Unit {0}
IsSalvageCause Memory = Unit {0}
IsSalvageCause (Refused TargetNotEmpty) = Unit {0}
IsSalvageCause _ = ⊥

-- a fault of a file, or a lock that was taken, comes only where its count rose
pub record SessionFaultsRose (old new : Session) (cause : Cause) : Type 0 where
  pub file_fault : cause ≡ FileFault → Rose old.file_faults new.file_faults
  pub busy : cause ≡ Busy → Rose old.taken new.taken

-- so it is of two directories
pub record RisesOfBoth (one_old one_new other_old other_new : Session) (cause : Cause) : Type 0 where
  pub file_fault : cause ≡ FileFault → Rose one_old.file_faults one_new.file_faults ⊎ Rose other_old.file_faults other_new.file_faults
  pub busy : cause ≡ Busy → Rose one_old.taken one_new.taken ⊎ Rose other_old.taken other_new.taken

-- The directory was visited and left as it was, and these are its faults.
pub record Looks (old new : DirectoryAt) (faults : List Damage → Type 0) : Type 0 where
  pub visit : Visit old new
  pub leaves : old.tells ≡ true → LeavesDirectory visit.first visit.last
  pub found : old.tells ≡ true → faults (faults_of (reading visit.first))

-- The faults were told, or their lines could not be put.
pub record ReportsFaults (tells : Bool) (faults : List Damage) (old new : SinkAt)
    (result : Result Cause CommandError) : Type 0 where
  pub later : old.faults ≤ new.faults
  pub failed : cause_by result ≡ OutputFault → Rose old.faults new.faults
  pub verdict : IfOk result (λ cause. cause ≡ cause_of_faults faults)
  pub stopped : IfErr result (λ stopped. IsReportCause stopped.cause)
  pub prints : tells ≡ true → PrintsFaultsBy (cause_by result) (fault_lines faults) old new
