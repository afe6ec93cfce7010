use Rattle.std.proofs.Common.{sym, ◌∙◌}
use Rattle.memory_host.proofs.TableLemmas.{none-durable}
use Rattle.memory_host.proofs.held.settle_name.Goals as goal

pub returns-in_default-clause-durable : goal.returns-in_default-clause-durable
returns-in_default-clause-durable c = none-durable c.args.held.now c.args.name.now (sym c.held_entry.ensures ∙ c.in_default.is)
