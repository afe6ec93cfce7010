-- Answers along a list, the last of which repeats.
use Rattle.std.proofs.Common.{◌≡◌, ◌⊎◌, ◌+◌, ◌-◌, ◌<◌, ◌≤◌, ◌++◌, ℕ, zero, suc, List, [], ◌∷◌, length, refl, sym, inl, inr, ap, ◌∙◌, arith, length-append}
use Rattle.std.specs.Prelude.{Some, min, slice_get, option_to_list}
use Rattle.std.proofs.lemmas.Option.{slice_get-get_or}
use Rattle.std.proofs.lemmas.Bool.Decides.{nat_tests}
use Rattle.host_calls.specs.Clock.{last_count, with_answer}
use Rattle.memory_host.specs.Readings.{answer_at, answers_to, AreAnswersOf}

-- a number up to another is below it, or is that number
split : (number last : ℕ) → number < last + 1 → (number < last) ⊎ (number ≡ last)
split number last inside = grind arith

module _ {X : Type 0} where
  -- there is an answer of each number, where the list is not empty
  answer_is : (given : List X) (number : ℕ) → 0 < length given → (answer : X) × (answer_at given number ≡ Some answer)
  answer_is [] number some = absurd (omega arith)
  answer_is (first ∷ others) number some =
      (_, slice_get-get_or (first ∷ others) (min number (length (first ∷ others) - 1)) first (omega arith))

  -- the answers, where one more is reported
  answers_to-suc : (given : List X) (count : ℕ)
      → answers_to given (suc count) ≡ answers_to given count ++ option_to_list (answer_at given count)
  unfolding answers_to
  answers_to-suc given count = refl

  answers_to-zero : (given : List X) → answers_to given 0 ≡ []
  unfolding answers_to
  answers_to-zero given = refl

  one_more : (given : List X) (count : ℕ) (answer : X) → answer_at given count ≡ Some answer
      → answers_to given (suc count) ≡ answers_to given count ++ answer ∷ []
  one_more given count answer is = answers_to-suc given count ∙ ap (λ known. answers_to given count ++ option_to_list known) is

  -- there are as many answers as were requested
  pub length-answers_to : (given : List X) → 0 < length given → (count : ℕ) → length (answers_to given count) ≡ count
  length-answers_to given some zero = ap length (answers_to-zero given)
  length-answers_to given some (suc count) =
      let answer = answer_is given count some in
      ap length (one_more given count answer.0 answer.1) ∙ length-append (answers_to given count) (answer.0 ∷ [])
      ∙ omega (arith, length-answers_to given some count)

  -- One answer more is reported, while there are fewer than can be counted.
  pub answer_more : (given : List X) (count next : ℕ) (answer : X) → 0 < length given → next ≡ min (count + 1) last_count
      → count ≤ last_count → answer_at given count ≡ Some answer → answers_to given next ≡ with_answer (answers_to given count) answer
  answer_more given count next answer some is counted known =
      let as_many : length (answers_to given count) ≡ count = length-answers_to given some count in
      let more : answers_to given (suc count) ≡ answers_to given count ++ answer ∷ [] = one_more given count answer known in
      grind (arith, nat_tests)

  -- what the answers are at each number, also after more of them
  slice_get-append_prefix : (prefix rest : List X) (number : ℕ) → number < length prefix
      → slice_get (prefix ++ rest) number ≡ slice_get prefix number
  slice_get-append_prefix [] rest number inside = absurd (omega arith)
  slice_get-append_prefix (first ∷ others) rest zero inside = refl
  slice_get-append_prefix (first ∷ others) rest (suc number) inside = slice_get-append_prefix others rest number (omega arith)

  slice_get-append_seam : (prefix : List X) (next : X) → slice_get (prefix ++ next ∷ []) (length prefix) ≡ Some next
  slice_get-append_seam [] next = refl
  slice_get-append_seam (first ∷ others) next = slice_get-append_seam others next

  -- what is at a number of the answers and one more, where it holds of the answers
  seam_holds : (given known : List X) (answer : X) (number : ℕ) → answer_at given (length known) ≡ Some answer → AreAnswersOf given known
      → number < length (known ++ answer ∷ []) → slice_get (known ++ answer ∷ []) number ≡ answer_at given number
  seam_holds given known answer number is holds inside =
      elim (split number (length known) (omega (arith, length-append known (answer ∷ [])))) [
        | inl prefix ↦ slice_get-append_prefix known (answer ∷ []) number prefix ∙ holds number prefix
        | inr seam ↦ rw seam (slice_get-append_seam known answer ∙ sym is)
      ]

  -- each answer is the one of its number
  pub answers_to-AreAnswersOf : (given : List X) → 0 < length given → (count : ℕ) → AreAnswersOf given (answers_to given count)
  answers_to-AreAnswersOf given some zero number inside = absurd (omega (arith, length-answers_to given some 0))
  answers_to-AreAnswersOf given some (suc count) number inside =
      let answer = answer_is given count some in
      let more : answers_to given (suc count) ≡ answers_to given count ++ answer.0 ∷ [] = one_more given count answer.0 answer.1 in
      let as_many : length (answers_to given count) ≡ count = length-answers_to given some count in
      let known : answer_at given (length (answers_to given count)) ≡ Some answer.0 = rw as_many answer.1 in
      let before = seam_holds given (answers_to given count) answer.0 number known (answers_to-AreAnswersOf given some count) in
      rw more (before (rw more at inside))
