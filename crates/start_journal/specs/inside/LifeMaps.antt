-- Lives by their numbers, as a row and a map hold them (own).
use Rattle.std.specs.Prelude.{ℕ, suc, ◌<◌, ◌≤◌, ◌+◌, ◌^◌, ◌++◌, List, [], ◌∷◌, length}
use Rattle.std.specs.BTreeMap.{keys}
use Rattle.std.specs.List.{All}
use Rattle.start_journal.specs.declared.lifecycles.Lifecycle.{Lifecycle}
use Rattle.start_journal.specs.declared.life_map.LifeMap.TheInside.{Inside}

-- the lives of a row, each with its number
abbrev pub lives_by_number : ℕ → List Lifecycle → List (ℕ × Lifecycle)
lives_by_number first [] = []
lives_by_number first (life ∷ later) = (first, life) ∷ lives_by_number (suc first) later

-- all lives, each with its number: those of the map, and then those of the row
abbrev pub lives_of : Inside → List (ℕ × Lifecycle)
lives_of inside = inside.below.entries ++ lives_by_number inside.first inside.row.items

-- the numbers of the map are below those of the row, and each of these is one of 32 bits
pub record IsLifeMap (inside : Inside) : Type 0 where
  pub below : All (λ number. number < inside.first) (keys inside.below)
  pub fits : inside.first + length inside.row.items ≤ 2 ^ 32
