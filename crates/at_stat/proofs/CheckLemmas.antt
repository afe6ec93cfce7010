-- The first number that is refused.
use Rattle.std.proofs.Common.{◌≡◌, ◌<◌, ◌+◌, List, ◌∷◌, ℕ, length, drop, get_or, sym, ap, ◌∙◌, refl, add-one}
use Rattle.std.proofs.Math.Seq.{drop-cons}
use Rattle.std.specs.Prelude.{Option, Some, None, is_some, true}
use Rattle.spool_model.specs.JobTable.{JobTable}
use Rattle.listing_text.specs.declared.refusal.Refusal.{Refusal}
use Rattle.at_stat.specs.Checks.{named_check, numbers_check}

module _ (user : List ℕ) (table : JobTable) where
  -- a number that is not refused leaves the decision to those after it
  go_on : (number : ℕ) (later : List ℕ) → named_check user table number ≡ None
      → numbers_check user table (number ∷ later) ≡ numbers_check user table later
  go_on number later is = rw is refl

  -- and one that is refused decides
  decide : (number : ℕ) (later : List ℕ) (refusal : Refusal) → named_check user table number ≡ Some refusal
      → numbers_check user table (number ∷ later) ≡ Some refusal
  decide number later refusal is = rw is refl

  -- the numbers from a place on begin with that at the place
  from_place : (numbers : List ℕ) (place : ℕ) → place < length numbers →
      numbers_check user table (drop place numbers) ≡ numbers_check user table (get_or numbers place 0 ∷ drop (place + 1) numbers)
  from_place numbers place inside =
      let prefix : drop place numbers ≡ get_or numbers place 0 ∷ drop (place + 1) numbers = rw add-one (drop-cons numbers place 0 inside) in
      ap (numbers_check user table) prefix

  pub step_on : (numbers : List ℕ) (place : ℕ) → place < length numbers →
      numbers_check user table numbers ≡ numbers_check user table (drop place numbers)
      → named_check user table (get_or numbers place 0) ≡ None →
      numbers_check user table numbers ≡ numbers_check user table (drop (place + 1) numbers)
  step_on numbers place inside before is = before ∙ from_place numbers place inside
      ∙ go_on (get_or numbers place 0) (drop (place + 1) numbers) is

  pub stop_at : (numbers : List ℕ) (place : ℕ) (answer : Option Refusal) → place < length numbers →
      numbers_check user table numbers ≡ numbers_check user table (drop place numbers)
      → answer ≡ named_check user table (get_or numbers place 0) →
      is_some answer ≡ true → answer ≡ numbers_check user table numbers
  stop_at numbers place (Some refusal) inside before is some =
      sym (before ∙ from_place numbers place inside ∙ decide (get_or numbers place 0) (drop (place + 1) numbers) refusal (sym is))
  stop_at numbers place None inside before is some = cc
