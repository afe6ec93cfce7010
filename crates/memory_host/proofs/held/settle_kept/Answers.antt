use Rattle.std.proofs.Common.{sym, ◌∙◌}
use Rattle.memory_host.specs.inside.Table.{now_in, durable_in}
use Rattle.memory_host.proofs.TableLemmas.{put-same_now, put-durable, put_at-own}
use Rattle.memory_host.proofs.held.settle_kept.Goals as goal

pub returns-in-None-clause-now : goal.returns-in-None-clause-now
returns-in-None-clause-now c =
    put-same_now c.args.name.now _ c.args.held.now c.remove_entry.new.held c.remove_entry.ensures (sym c.in-None.is ∙ c.requires.now)

pub returns-in-Some-clause-now : goal.returns-in-Some-clause-now
returns-in-Some-clause-now c = put-same_now c.args.name.now _ c.args.held.now c.set_entry.new.held c.set_entry.ensures c.requires.now

pub returns-in-None-clause-durable : goal.returns-in-None-clause-durable
returns-in-None-clause-durable c = λ other. put-durable c.args.name.now _ c.args.held.now c.remove_entry.new.held c.remove_entry.ensures
    other ∙ put_at-own c.args.name.now _ (now_in c.args.held.now) (durable_in c.args.held.now) (sym c.in-None.is ∙ c.requires.now) other

pub returns-in-Some-clause-durable : goal.returns-in-Some-clause-durable
returns-in-Some-clause-durable c = λ other. put-durable c.args.name.now _ c.args.held.now c.set_entry.new.held c.set_entry.ensures other
    ∙ put_at-own c.args.name.now _ (now_in c.args.held.now) (durable_in c.args.held.now) c.requires.now other
