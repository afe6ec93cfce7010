use Rattle.std.proofs.Common.{ap}
use Rattle.std.specs.Prelude.{is_some}
use Rattle.memory_host.specs.inside.Table.{durable_part}
use Rattle.memory_host.proofs.TableLemmas.{put-same_durable, put-places}
use Rattle.memory_host.proofs.held.set_now.Goals as goal

pub returns-in-Some-clause-durable : goal.returns-in-Some-clause-durable
returns-in-Some-clause-durable c =
    put-same_durable c.args.name.now _ c.args.held.now c.set_entry.new.held c.set_entry.ensures (ap durable_part c.in-Some.ensures)

pub returns-in-Some-clause-places : goal.returns-in-Some-clause-places
returns-in-Some-clause-places c =
    put-places c.args.name.now _ c.args.held.now c.set_entry.new.held c.set_entry.ensures (ap is_some c.in-Some.ensures)
