use Rattle.std.proofs.Common.{◌≡◌, drop}
use Rattle.memory_host.specs.inside.Bodies.{kept_crashed, with_each}
use Rattle.memory_host.proofs.bodies.crash_each.Given as goal

abbrev pub invariant-loop-number : goal.invariant-loop-number
invariant-loop-number l = with_each (kept_crashed l.pick) (drop l.number-index l.numbers) l.list
    ≡ with_each (kept_crashed l.pick) l.numbers l.initial.list
