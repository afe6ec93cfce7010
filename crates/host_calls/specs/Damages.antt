-- A place at which a file is damaged (own).
use Rattle.std.specs.Prelude.{◌≡◌, ℕ, List, Result, Err, slice_get}
use Rattle.host_calls.specs.declared.damage.Damage.{Damage}

-- the damage of a file at a place: the byte there, none at the end of the file
abbrev pub damage_at : List ℕ → List ℕ → ℕ → Damage
damage_at name bytes place = record { name = name; offset = place; byte = slice_get bytes place }

-- where the answer is this kind of fault of a damage, the damage has P
abbrev pub IfDamaged : {T E : Type 0} → (Damage → E) → (Damage → Type 0) → Result T E → Type 0
IfDamaged kind P result = (damage : Damage) → result ≡ Err (kind damage) → P damage
