-- Faults of the two directories (own).
use Rattle.host_calls.specs.declared.fault.HostFault.{HostFault}
use Rattle.host_calls.specs.declared.fault.HostFault.TheVariants.{Failed, Memory as NoMemory}
use Rattle.spool_check.specs.declared.fault.SalvageFault.{SalvageFault}
use Rattle.spool_check.specs.declared.fault.SalvageFault.TheVariants.{FromFailed, ToFailed, Memory}

-- a fault of the directory that is salvaged
abbrev pub of_source : HostFault → SalvageFault
of_source Failed = FromFailed
of_source NoMemory = Memory

-- a fault of the new directory
abbrev pub of_target : HostFault → SalvageFault
of_target Failed = ToFailed
of_target NoMemory = Memory

-- a fault that the directory that is salvaged may have
abbrev pub IsOfSource : SalvageFault → Type 0
IsOfSource FromFailed = Unit {0}
IsOfSource Memory = Unit {0}
IsOfSource _ = ⊥

-- a fault that a call on the new directory may have
abbrev pub IsTargetFault : SalvageFault → Type 0
IsTargetFault ToFailed = Unit {0}
IsTargetFault Memory = Unit {0}
IsTargetFault _ = ⊥
