use Rattle.std.proofs.Common.{◌≡◌, drop}
use Rattle.memory_host.specs.inside.Bodies.{kept_synced, with_each}
use Rattle.memory_host.proofs.bodies.sync_bodies.Given as goal

abbrev pub invariant-loop-number : goal.invariant-loop-number
invariant-loop-number l = with_each kept_synced (drop l.number-index l.numbers) l.list ≡ with_each kept_synced l.numbers l.initial.list
