-- Why the spool could not be entered.
use Rattle.std.proofs.Common.{◌≢◌}
use Rattle.host_calls.specs.declared.fault.EnterFault.{EnterFault}
use Rattle.host_calls.specs.declared.fault.EnterFault.TheVariants as entry
use Rattle.listing_text.specs.declared.cause.Cause.{Cause}
use Rattle.listing_text.specs.declared.cause.Cause.TheVariants.{FileFault, InputFault, OutputFault, Busy, Memory}
use Rattle.tool_output.specs.Causes.{cause_of_entry}

-- a fault of a file, a lock that is taken, or an out-of-memory error
abbrev pub IsOfEntry : Cause → Type 0
IsOfEntry FileFault = Unit {0}
IsOfEntry Busy = Unit {0}
IsOfEntry Memory = Unit {0}
IsOfEntry _ = ⊥

pub entry_comes : (fault : EnterFault) → IsOfEntry (cause_of_entry fault)
entry_comes entry.Taken = tt
entry_comes entry.Failed = tt
entry_comes entry.Memory = tt

-- neither an input nor the output
pub entry_no_input : (fault : EnterFault) → cause_of_entry fault ≢ InputFault
entry_no_input entry.Taken is = cc
entry_no_input entry.Failed is = cc
entry_no_input entry.Memory is = cc

pub entry_no_output : (fault : EnterFault) → cause_of_entry fault ≢ OutputFault
entry_no_output entry.Taken is = cc
entry_no_output entry.Failed is = cc
entry_no_output entry.Memory is = cc
