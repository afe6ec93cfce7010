-- A sink that keeps what is put (own).
use Rattle.std.specs.Prelude.{◌≡◌, [], ◌∷◌, ℕ, List, Option, Some, None}

-- what a sink is made as: the number of the put that fails, if one does
abbrev pub sink_spelling : Option ℕ → List ℕ
sink_spelling None = []
sink_spelling (Some number) = number ∷ []

-- A sink that was made to fail at no put has never failed.
abbrev pub KeepsToPuts : List ℕ → ℕ → Type 0
KeepsToPuts made_as faults = made_as ≡ sink_spelling None → faults ≡ 0
