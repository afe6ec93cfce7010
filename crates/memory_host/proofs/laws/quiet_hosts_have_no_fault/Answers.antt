use Rattle.memory_host.proofs.LawLemmas as law
use Rattle.memory_host.proofs.laws.quiet_hosts_have_no_fault.Goals as goal

pub returns : goal.returns
returns c = law.quiet_hosts_have_no_fault
