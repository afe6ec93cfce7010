-- Readings that go along two lists of answers (own).
use Rattle.std.specs.Prelude.{◌≡◌, ◌+◌, ◌-◌, ◌*◌, ◌<◌, ◌++◌, [], ◌∷◌, ℕ, ℤ, pos, negsuc, zero, suc, List, Option, Some, None, length, map, min, slice_get, option_to_list}
use Rattle.host_calls.specs.Clock.{Answers}

-- the answer of that number: the entry of the number, or the last of a list that is shorter
abbrev pub answer_at : {X : Type 0} → List X → ℕ → Option X
answer_at given number = slice_get given (min number (length given - 1))

-- the first answers, as many as that
unfoldable pub answers_to : {X : Type 0} → List X → ℕ → List X
answers_to given zero = []
answers_to given (suc count) = answers_to given count ++ option_to_list (answer_at given count)

-- no answer yet, and no rest
abbrev pub no_answers : Answers
no_answers = record { nows = []; loads = []; rested = 0 }

-- each answer is the one of its number
abbrev pub AreAnswersOf : {X : Type 0} → List X → List X → Type 0
AreAnswersOf given answers = (number : ℕ) → number < length answers → slice_get answers number ≡ answer_at given number

-- the whole number that stands for a second: even from 0 on, odd below
abbrev pub spelled_second : ℤ → ℕ
spelled_second (pos second) = 2 * second
spelled_second (negsuc before) = 2 * before + 1

-- the whole number that stands for a load: 0 where none could be read
abbrev pub spelled_load : Option ℕ → ℕ
spelled_load None = 0
spelled_load (Some load) = load + 1

-- what readings over these two lists are made as: how long the first is, and both
abbrev pub readings_spelling : List ℤ → List (Option ℕ) → List ℕ
readings_spelling nows loads = length nows ∷ (map spelled_second nows ++ map spelled_load loads)

-- The answers are those of the lists that the readings were made as.
abbrev pub KeepToLists : List ℕ → Answers → Type 0
KeepToLists made_as answers =
    (nows : List ℤ) (loads : List (Option ℕ)) → made_as ≡ readings_spelling nows loads
    → AreAnswersOf nows answers.nows × AreAnswersOf loads answers.loads
