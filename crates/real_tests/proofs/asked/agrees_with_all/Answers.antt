use Rattle.std.proofs.Common.{arith, length, ◌≤◌, subst}
use Rattle.std.specs.List.{All}
use Rattle.std.proofs.lemmas.List.{take_all}
use Rattle.std.proofs.lemmas.List.Elements.{All-more}
use Rattle.real_tests.specs.Kept.{AgreesWith}
use Rattle.real_tests.proofs.asked.agrees_with_all.Goals as goal

pub loop-one-preserved : goal.loop-one-preserved
loop-one-preserved c =
    All-more (AgreesWith c.args.child c.args.answer) c.args.asked.now c.loop-one.one-index _ c.loop-one-test.true c.loop-one.invariant
    (c.agrees.ensures c.if-not-agrees.false)

pub returns : goal.returns
returns c same =
    let within : length c.args.asked.now ≤ c.loop-one.one-index = omega arith in
    subst (All (AgreesWith c.args.child c.args.answer)) (take_all c.loop-one.one-index c.args.asked.now within) c.loop-one.invariant
