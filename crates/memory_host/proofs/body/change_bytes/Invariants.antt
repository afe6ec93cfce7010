use Rattle.std.proofs.Common.{◌≡◌, ◌||◌, ◌++◌, not, take, drop}
use Rattle.memory_host.specs.inside.Bodies.{lies_in}
use Rattle.memory_host.specs.Crash.{picked_bytes}
use Rattle.memory_host.proofs.body.change_bytes.Given as goal

abbrev pub invariant-loop-place : goal.invariant-loop-place
invariant-loop-place l =
    take l.place l.bytes ++ picked_bytes l.pick (λ place. not l.is_synced || lies_in l.ranges place) l.place (drop l.place l.bytes)
    ≡ picked_bytes l.pick (λ place. not l.is_synced || lies_in l.ranges place) 0 l.initial.bytes
