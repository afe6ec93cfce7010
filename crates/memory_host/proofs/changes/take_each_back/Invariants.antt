use Rattle.std.proofs.Common.{◌≡◌, ℕ, List, take}
use Rattle.memory_host.specs.inside.Table.{HoldsSameDurable, KeepsPlaces, now_in, durable_in, where_touched}
use Rattle.memory_host.proofs.changes.take_each_back.Given as goal

abbrev pub invariant-loop-change : goal.invariant-loop-change
invariant-loop-change l = record {
  durable : HoldsSameDurable l.initial.held l.held;
  places : KeepsPlaces l.initial.held l.held;
  now : (name : List ℕ)
      → now_in l.held name ≡ where_touched (take l.change-index l.changes) (durable_in l.initial.held) (now_in l.initial.held) name;
}
