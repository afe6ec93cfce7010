use Rattle.std.proofs.Common.{◌∙◌, arith}
use Rattle.memory_host.proofs.body.change_bytes.Goals as goal
use Rattle.memory_host.proofs.BodyLemmas.{picked_step, picked_end}

pub loop-place-preserved : goal.loop-place-preserved
loop-place-preserved c = picked_step c.args.pick _ c.loop-place.bytes c.loop-place.place _ (omega arith) c.byte_left.ensures
    ∙ c.loop-place.invariant

pub returns : goal.returns
returns c = picked_end c.args.pick _ c.loop-place.bytes c.loop-place.place _ (omega arith) c.loop-place.invariant
