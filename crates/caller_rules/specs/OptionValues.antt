-- The value of an option, as the words give it (own).
use Rattle.std.specs.Prelude.{[], ◌∷◌, ℕ, nat_eq, List, Option, Some, None, drop, length, if◌then◌else◌}
use Rattle.std.specs.List.{starts_with}
use Rattle.std.specs.Option.{option_or}
use Rattle.std.specs.Str.{bytes_eq}

abbrev pub first_word : List (List ℕ) → Option (List ℕ)
first_word [] = None
first_word (word ∷ later) = Some word

-- the word after the name, or else what is joined to it
abbrev pub value_in_word : List ℕ → List ℕ → List ℕ → List (List ℕ) → Option (List ℕ)
value_in_word name joined word later =
    if bytes_eq word name then first_word later
    else (if starts_with nat_eq word joined then Some (drop (length joined) word) else None)

-- the value by the last word that gives one
abbrev pub last_value : List ℕ → List ℕ → List (List ℕ) → Option (List ℕ)
last_value name joined [] = None
last_value name joined (word ∷ later) = option_or (last_value name joined later) (value_in_word name joined word later)
