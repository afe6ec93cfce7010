-- What is known of a number (own).
use Rattle.std.specs.Prelude.{ℕ, List, slice_index_or, unwrap_or}
use Rattle.start_journal.specs.declared.lifecycles.Lifecycle.{Lifecycle}
use Rattle.start_journal.specs.Lifecycles.{life_under, unknown}

-- the life of a number
abbrev pub life_of : List (ℕ × Lifecycle) → ℕ → Lifecycle
life_of lives number = unwrap_or (life_under lives number) unknown

-- the life at a place of a row
abbrev pub life_at : List Lifecycle → ℕ → Lifecycle
life_at row place = slice_index_or row place unknown
