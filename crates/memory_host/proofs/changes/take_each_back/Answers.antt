use Rattle.std.proofs.Common.{◌∙◌}
use Rattle.memory_host.specs.inside.Table.{now_in, durable_in}
use Rattle.memory_host.proofs.TableLemmas.{each_step}
use Rattle.memory_host.proofs.changes.take_each_back.Goals as goal

pub loop-change-preserved : goal.loop-change-preserved
loop-change-preserved c = record {
  durable = λ name. c.undo_change.ensures.durable name ∙ c.loop-change.invariant.durable name;
  places = λ name. c.undo_change.ensures.places name ∙ c.loop-change.invariant.places name;
  now = λ name. each_step c.args.changes.now c.loop-change.change-index c.change-item.result c.loop-change-test.true c.change-item.is
      (durable_in c.args.held.now) (now_in c.args.held.now) name _ _ _
      (c.undo_change.ensures.now name) (c.loop-change.invariant.durable name) (c.loop-change.invariant.now name);
}
