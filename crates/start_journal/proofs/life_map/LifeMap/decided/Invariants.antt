use Rattle.std.proofs.Common.{◌≡◌, ◌++◌, take}
use Rattle.std.specs.List.{filter_map}
use Rattle.start_journal.specs.Lifecycles.{decided_of}
use Rattle.start_journal.specs.inside.LifeMaps.{lives_by_number}
use Rattle.start_journal.proofs.life_map.LifeMap.decided.Given as goal

abbrev pub invariant-loop-place : goal.invariant-loop-place
invariant-loop-place l = l.list.items
    ≡ filter_map decided_of (l.self-inside.below.entries ++ lives_by_number l.self-inside.first (take l.place l.self-inside.row.items))
