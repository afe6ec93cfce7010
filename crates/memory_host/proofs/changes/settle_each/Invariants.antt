use Rattle.std.proofs.Common.{◌≡◌, ℕ, List, take}
use Rattle.memory_host.specs.inside.Table.{HoldsSameNow, now_in, durable_in, where_touched}
use Rattle.memory_host.proofs.changes.settle_each.Given as goal

abbrev pub invariant-loop-change : goal.invariant-loop-change
invariant-loop-change l = record {
  now : HoldsSameNow l.initial.held l.held;
  durable : (name : List ℕ)
      → durable_in l.held name ≡ where_touched (take l.change-index l.changes) (now_in l.initial.held) (durable_in l.initial.held) name;
}
