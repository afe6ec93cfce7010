-- What holds of every content of the sequence file.
use Rattle.std.specs.Prelude.{◌≡◌, ◌↔◌, ℕ, List, Option, Ok, Err}
use Rattle.host_calls.specs.declared.damage.Damage.{Damage}
use Rattle.sequence_file.specs.Faults.{IsSequenceDamage}
use Rattle.sequence_file.specs.LastNumber.{last_in}
use Rattle.sequence_file.specs.Sequence.{GivesNumber}

-- the last number, as it computes, is the one that the file gives
abbrev pub LastNumbersAreGiven : Type 0
LastNumbersAreGiven = (content : Option (List ℕ)) (number : ℕ) → (last_in content ≡ Ok number) ↔ GivesNumber content number

-- and its damage is where the file breaks its form
abbrev pub LastNumbersAreDamaged : Type 0
LastNumbersAreDamaged = (content : Option (List ℕ)) (damage : Damage) →
    (last_in content ≡ Err damage) ↔ IsSequenceDamage content damage
