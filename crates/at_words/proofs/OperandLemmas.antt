-- Operands, one after another.
use Rattle.std.proofs.Common.{◌≡◌, ◌<◌, ◌≤◌, ◌++◌, ℕ, zero, suc, List, [], ◌∷◌, Bor, length, drop, Result, Ok, refl, ap, ◌∙◌, arith, codes}
use Rattle.std.specs.Prelude.{Some, None, option_and_then}
use Rattle.std.specs.List.{flat_map, join_by, slice_index_or}
use Rattle.clap.specs.Walk.{texts}
use Rattle.at_words.specs.Answers.{or_usage}
use Rattle.at_words.specs.Asked.{when_asked}
use Rattle.at_words.specs.Numbers.{job_number, with_number, with_numbers}
use Rattle.at_words.specs.declared.fault.WordsFault.{WordsFault}
use Rattle.at_words.specs.declared.when.When.{When}
use Rattle.at_words.specs.declared.when.When.TheVariants.{Spec}

module _ (least greatest : ℕ) where
  -- the numbers with one operand more
  pub numbers-step : (operands : List (Bor (List ℕ))) (place : ℕ) (operand : Bor (List ℕ)) (numbers : List ℕ) → place < length operands
      → operand ≡ slice_index_or operands place operand
      → with_numbers least greatest numbers (texts (drop place operands)) ≡ option_and_then (λ number.
      with_numbers least greatest (with_number numbers number) (texts (drop (suc place) operands))) (job_number least greatest operand.now)
  numbers-step [] place operand numbers inside at = absurd (omega arith)
  numbers-step (first ∷ others) zero operand numbers inside at = rw at refl
  numbers-step (first ∷ others) (suc place) operand numbers inside at = numbers-step others place operand numbers (omega arith) at

  -- no operand is left
  pub numbers-end : (operands : List (Bor (List ℕ))) (place : ℕ) (numbers : List ℕ) → length operands ≤ place
      → with_numbers least greatest numbers (texts (drop place operands)) ≡ Some numbers
  numbers-end [] zero numbers past = refl
  numbers-end [] (suc place) numbers past = refl
  numbers-end (first ∷ others) zero numbers past = absurd (omega arith)
  numbers-end (first ∷ others) (suc place) numbers past = numbers-end others place numbers (omega arith)

-- what is made of texts after references
flat_map-texts : (separator : List ℕ) (operands : List (Bor (List ℕ)))
    → flat_map (λ (operand : Bor (List ℕ)). separator ++ operand.now) operands ≡ flat_map (λ text. separator ++ text) (texts operands)
flat_map-texts separator [] = refl
flat_map-texts separator (first ∷ others) = ap (λ rest. (separator ++ first.now) ++ rest) (flat_map-texts separator others)

-- the timespec of operands of which there is one at least
pub spec_asked : (operands : List (Bor (List ℕ))) (text : List ℕ) → 0 < length operands → text ≡ join_by (λ (operand : Bor (List ℕ)).
    operand.now) (codes " ") operands → ◌≡◌ {A = Result When WordsFault} (Ok (Spec text)) (or_usage (when_asked None (texts operands)))
spec_asked [] text some is = absurd (omega arith)
spec_asked (first ∷ others) text some is =
    ap (λ (text : List ℕ). Ok (Spec text)) (is ∙ ap (λ rest. first.now ++ rest) (flat_map-texts (codes " ") others))
