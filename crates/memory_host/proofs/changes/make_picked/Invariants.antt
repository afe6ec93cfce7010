use Rattle.std.proofs.Common.{◌≡◌, ℕ, List, take}
use Rattle.memory_host.specs.inside.Table.{HoldsSameDurable, KeepsPlaces, now_in, pending_of, picked_holders}
use Rattle.memory_host.proofs.changes.make_picked.Given as goal

abbrev pub invariant-loop-number : goal.invariant-loop-number
invariant-loop-number l = record {
  now : (name : List ℕ) → now_in l.held name ≡ picked_holders l.pick (pending_of (take l.number l.changes)) (now_in l.initial.held) name;
  durable : HoldsSameDurable l.initial.held l.held;
  places : KeepsPlaces l.initial.held l.held;
}
