-- Job numbers on a command line.
use Rattle.std.specs.Prelude.{◌==◌, ◌&&◌, ◌++◌, [], ◌∷◌, ℕ, Bool, true, not, List, Option, Some, option_and_then, if◌then◌else◌}
use Rattle.std.specs.List.{list_any}
use Rattle.at_words.specs.Digits.{decimal_in}
use Rattle.at_words.specs.declared.digits.TheConstants.{MOST_DIGITS}

-- the numbers with one more at their end, where it isn't among them
abbrev pub with_number : List ℕ → ℕ → List ℕ
with_number numbers number = if list_any (λ other. other == number) numbers then numbers else numbers ++ number ∷ []

-- no number of the list is one of those after it
abbrev pub are_distinct : List ℕ → Bool
are_distinct [] = true
are_distinct (number ∷ others) = not (list_any (λ other. other == number) others) && are_distinct others

-- the number of a job, from the least to the greatest: one to ten digits
abbrev pub job_number : ℕ → ℕ → List ℕ → Option ℕ
job_number least greatest text = decimal_in MOST_DIGITS least greatest text

-- the numbers with those that the texts spell, if each text spells one
abbrev pub with_numbers : ℕ → ℕ → List ℕ → List (List ℕ) → Option (List ℕ)
with_numbers least greatest numbers [] = Some numbers
with_numbers least greatest numbers (text ∷ others) =
    option_and_then (λ number. with_numbers least greatest (with_number numbers number) others) (job_number least greatest text)

-- the numbers from the least to the greatest that the texts spell, each once, in the order in which they first come
abbrev pub numbers_between : ℕ → ℕ → List (List ℕ) → Option (List ℕ)
numbers_between least greatest texts = with_numbers least greatest [] texts

-- those from 1 to the last value of u32
abbrev pub numbers_of : List (List ℕ) → Option (List ℕ)
numbers_of texts = numbers_between 1 4294967295 texts
