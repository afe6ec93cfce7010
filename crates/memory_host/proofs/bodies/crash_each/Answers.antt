use Rattle.std.proofs.Common.{◌∙◌, refl}
use Rattle.memory_host.specs.inside.Bodies.{kept_crashed}
use Rattle.memory_host.proofs.BodyLemmas.{with_each_step}
use Rattle.memory_host.proofs.bodies.crash_each.Goals as goal

pub loop-number-preserved : goal.loop-number-preserved
loop-number-preserved c =
    with_each_step (kept_crashed c.args.pick) c.args.numbers.now c.loop-number.list _ c.loop-number.number-index _ c.loop-number-test.true
    refl c.crash_one.ensures
    ∙ c.loop-number.invariant
