use Rattle.std.proofs.Common.{◌∙◌}
use Rattle.memory_host.specs.inside.Table.{now_in}
use Rattle.memory_host.proofs.TableLemmas.{has_places, picked_step}
use Rattle.memory_host.proofs.changes.make_picked.Goals as goal

pub make_if_picked-requires : goal.make_if_picked-requires
make_if_picked-requires c = record {
  places = λ name touched. c.loop-number.invariant.places name
      ∙ has_places c.args.changes.now c.loop-number.number c.index-changes-number.result c.loop-number-test.true c.index-changes-number.is
      c.args.held.now c.requires.places name touched;
}

pub loop-number-preserved : goal.loop-number-preserved
loop-number-preserved c = record {
  now = λ name. picked_step c.args.changes.now c.loop-number.number c.index-changes-number.result c.loop-number-test.true
      c.index-changes-number.is c.args.pick (now_in c.loop-number.held) (now_in c.args.held.now)
      c.loop-number.invariant.now name _ (c.make_if_picked.ensures.now name);
  durable = λ name. c.make_if_picked.ensures.durable name ∙ c.loop-number.invariant.durable name;
  places = λ name. c.make_if_picked.ensures.places name ∙ c.loop-number.invariant.places name;
}
