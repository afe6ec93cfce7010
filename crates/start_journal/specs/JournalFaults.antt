-- Why the journal could not be read.
use Rattle.host_calls.specs.declared.fault.HostFault.{HostFault}
use Rattle.host_calls.specs.declared.fault.HostFault.TheVariants.{Failed as HostFailed, Memory as HostMemory}
use Rattle.host_calls.specs.declared.store_fault.StoreFault.{StoreFault}
use Rattle.host_calls.specs.declared.store_fault.StoreFault.TheVariants as store
use Rattle.start_journal.specs.declared.fault.JournalFault.{JournalFault}
use Rattle.start_journal.specs.declared.fault.JournalFault.TheVariants.{Damaged, Failed, Memory}

-- a fault of the host, as this one
abbrev pub journal_fault_of : HostFault → JournalFault
journal_fault_of HostFailed = Failed
journal_fault_of HostMemory = Memory

-- a fault of the journal's reading, as one of the store
abbrev pub fault_of_journal : JournalFault → StoreFault
fault_of_journal Failed = store.FileFault
fault_of_journal Memory = store.Memory
fault_of_journal (Damaged damage) = store.Damaged damage
