-- Why the last number could not be read.
use Rattle.std.specs.Prelude.{◌≡◌, ℕ, List, Option, Some}
use Rattle.host_calls.specs.declared.damage.Damage.{Damage}
use Rattle.host_calls.specs.declared.fault.HostFault.{HostFault}
use Rattle.host_calls.specs.declared.fault.HostFault.TheVariants.{Failed as HostFailed, Memory as HostMemory}
use Rattle.host_calls.specs.declared.store_fault.StoreFault.{StoreFault}
use Rattle.host_calls.specs.declared.store_fault.StoreFault.TheVariants as store
use Rattle.sequence_file.specs.declared.fault.SequenceFault.{SequenceFault}
use Rattle.sequence_file.specs.declared.fault.SequenceFault.TheVariants.{Damaged, Failed, Memory}
use Rattle.sequence_file.specs.Sequence.{IsFaultAt, sequence_file}

-- a fault of the host, as this one
abbrev pub sequence_fault_of : HostFault → SequenceFault
sequence_fault_of HostFailed = Failed
sequence_fault_of HostMemory = Memory

-- a fault of the sequence file's reading, as one of the store
abbrev pub fault_of_sequence : SequenceFault → StoreFault
fault_of_sequence Failed = store.FileFault
fault_of_sequence Memory = store.Memory
fault_of_sequence (Damaged damage) = store.Damaged damage

-- the sequence file exists, and this is where it breaks its form
pub record IsSequenceDamage (content : Option (List ℕ)) (damage : Damage) : Type 0 where
  pub bytes : List ℕ
  pub held : content ≡ Some bytes
  pub name_is : damage.name ≡ sequence_file
  pub fault : IsFaultAt bytes damage.offset damage.byte
