use Rattle.std.proofs.Common.{◌∙◌, refl}
use Rattle.memory_host.specs.inside.Bodies.{kept_synced}
use Rattle.memory_host.proofs.BodyLemmas.{with_each_step}
use Rattle.memory_host.proofs.bodies.sync_bodies.Goals as goal

pub loop-number-preserved : goal.loop-number-preserved
loop-number-preserved c =
    with_each_step kept_synced c.args.numbers.now c.loop-number.list _ c.loop-number.number-index _
    c.loop-number-test.true refl c.sync_one.ensures
    ∙ c.loop-number.invariant
