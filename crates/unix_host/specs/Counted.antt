-- How the real host counts what failed (own): each count rises with its own fault, and with nothing else.
use Rattle.std.specs.Prelude.{◌≡◌, Result, IsErrOf}
use Rattle.host_calls.specs.Session.{Session}
use Rattle.host_calls.specs.declared.fault.EnterFault.{EnterFault}
use Rattle.host_calls.specs.declared.fault.EnterFault.TheVariants as enter
use Rattle.host_calls.specs.declared.fault.HostFault.{HostFault}
use Rattle.host_calls.specs.declared.fault.HostFault.TheVariants as file
use Rattle.host_calls.specs.declared.fault.StartFault.{StartFault}
use Rattle.host_calls.specs.declared.fault.StartFault.TheVariants as start

-- nothing is counted
pub record CountsNothing (old new : Session) : Type 0 where
  pub files : new.file_faults ≡ old.file_faults
  pub starts : new.start_faults ≡ old.start_faults
  pub taken : new.taken ≡ old.taken

-- a call on the files counts its own fault alone
pub record CountsFiles {T : Type 0} (old new : Session) (result : Result T HostFault) : Type 0 where
  pub files : ¬ (IsErrOf result file.Failed) → new.file_faults ≡ old.file_faults
  pub starts : new.start_faults ≡ old.start_faults
  pub taken : new.taken ≡ old.taken

-- a start counts its own fault alone
pub record CountsStarts {T : Type 0} (old new : Session) (result : Result T StartFault) : Type 0 where
  pub files : new.file_faults ≡ old.file_faults
  pub starts : ¬ (IsErrOf result start.Failed) → new.start_faults ≡ old.start_faults
  pub taken : new.taken ≡ old.taken

-- a session that begins counts a fault of files or a taken lock alone
pub record CountsEnters {T : Type 0} (old new : Session) (result : Result T EnterFault) : Type 0 where
  pub files : ¬ (IsErrOf result enter.Failed) → new.file_faults ≡ old.file_faults
  pub starts : new.start_faults ≡ old.start_faults
  pub taken : ¬ (IsErrOf result enter.Taken) → new.taken ≡ old.taken
