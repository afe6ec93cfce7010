use Rattle.memory_host.proofs.SinkLemmas as law
use Rattle.memory_host.proofs.laws.sinks_keep_to_puts.Goals as goal

pub returns : goal.returns
returns c = law.sink_keeps
