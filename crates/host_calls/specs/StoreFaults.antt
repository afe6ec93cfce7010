-- Why a call of the store did not succeed (own).
use Rattle.std.specs.Prelude.{◌≡◌, Option, Some}
use Rattle.host_calls.specs.declared.damage.Damage.{Damage}
use Rattle.host_calls.specs.declared.fault.HostFault.{HostFault}
use Rattle.host_calls.specs.declared.fault.HostFault.TheVariants.{Failed as HostFailed, Memory as HostMemory}
use Rattle.host_calls.specs.declared.store_fault.StoreFault.{StoreFault}
use Rattle.host_calls.specs.declared.store_fault.StoreFault.TheVariants.{Damaged, FileFault, Memory}

-- a fault of the host, as this one
abbrev pub store_fault_of : HostFault → StoreFault
store_fault_of HostFailed = FileFault
store_fault_of HostMemory = Memory

-- the fault is one of reading: the queue is not full, and the numbers are not used up
abbrev pub IsReadingFault : StoreFault → Type 0
IsReadingFault (Damaged damage) = Unit {0}
IsReadingFault Memory = Unit {0}
IsReadingFault FileFault = Unit {0}
IsReadingFault _ = ⊥

-- the fault is this damage, which was found, or an out-of-memory error
abbrev pub IsFound : Option Damage → StoreFault → Type 0
IsFound found (Damaged damage) = found ≡ Some damage
IsFound found Memory = Unit {0}
IsFound found _ = ⊥

-- the fault is one of a call that makes one step: of a file, or an out-of-memory error
abbrev pub IsOfStep : StoreFault → Type 0
IsOfStep FileFault = Unit {0}
IsOfStep Memory = Unit {0}
IsOfStep _ = ⊥
