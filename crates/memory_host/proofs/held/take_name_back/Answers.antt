use Rattle.std.proofs.Common.{ap, sym, ◌∙◌}
use Rattle.std.specs.Prelude.{is_some}
use Rattle.memory_host.specs.inside.Table.{durable_part, now_in, durable_in}
use Rattle.memory_host.proofs.TableLemmas.{put-now, put-same_durable, put-places, put_at-own, none-now}
use Rattle.memory_host.proofs.held.take_name_back.Goals as goal

pub returns-in-Some-clause-now : goal.returns-in-Some-clause-now
returns-in-Some-clause-now c = λ other. put-now c.args.name.now _ c.args.held.now c.set_entry.new.held c.set_entry.ensures other
    ∙ put_at-own c.args.name.now _ (durable_in c.args.held.now) (now_in c.args.held.now) (ap durable_part c.in-Some.ensures) other

pub returns-in-Some-clause-durable : goal.returns-in-Some-clause-durable
returns-in-Some-clause-durable c =
    put-same_durable c.args.name.now _ c.args.held.now c.set_entry.new.held c.set_entry.ensures (ap durable_part c.in-Some.ensures)

pub returns-in-Some-clause-places : goal.returns-in-Some-clause-places
returns-in-Some-clause-places c =
    put-places c.args.name.now _ c.args.held.now c.set_entry.new.held c.set_entry.ensures (ap is_some c.in-Some.ensures)

pub returns-in_default-clause-now : goal.returns-in_default-clause-now
returns-in_default-clause-now c = none-now c.args.held.now c.args.name.now (sym c.held_entry.ensures ∙ c.in_default.is)
