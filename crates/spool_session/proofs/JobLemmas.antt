-- Which jobs the user may request.
use Rattle.std.proofs.Common.{◌≡◌, ◌<◌, ◌+◌, Bool, List, ◌∷◌, ℕ, length, drop, get_or, sym, ap, ◌∙◌, refl, add-one}
use Rattle.std.proofs.Math.Seq.{drop-cons}
use Rattle.std.specs.Prelude.{Option, Some, None, is_some, true}
use Rattle.spool_model.specs.JobTable.{JobTable}
use Rattle.listing_text.specs.declared.refusal.Refusal.{Refusal}
use Rattle.command_rules.specs.Verdict.{jobs_check, live_row, row_check}

module _ (user : List ℕ) (removing : Bool) (table : JobTable) where
  -- the check of a number
  abbrev pub check_at : ℕ → Option Refusal
  check_at number = row_check user removing number (live_row table number)

  -- a number that is not refused leaves the decision to those after it
  go_on : (number : ℕ) (later : List ℕ) → check_at number ≡ None
      → jobs_check user removing table (number ∷ later) ≡ jobs_check user removing table later
  go_on number later is = rw is refl

  -- and one that is refused decides
  decide : (number : ℕ) (later : List ℕ) (refusal : Refusal) → check_at number ≡ Some refusal
      → jobs_check user removing table (number ∷ later) ≡ Some refusal
  decide number later refusal is = rw is refl

  -- the numbers from a place on begin with that at the place
  from_place : (numbers : List ℕ) (place : ℕ) → place < length numbers →
      jobs_check user removing table (drop place numbers)
      ≡ jobs_check user removing table (get_or numbers place 0 ∷ drop (place + 1) numbers)
  from_place numbers place inside =
      let prefix : drop place numbers ≡ get_or numbers place 0 ∷ drop (place + 1) numbers = rw add-one (drop-cons numbers place 0 inside) in
      ap (jobs_check user removing table) prefix

  pub step_on : (numbers : List ℕ) (place : ℕ) → place < length numbers →
      jobs_check user removing table numbers ≡ jobs_check user removing table (drop place numbers)
      → check_at (get_or numbers place 0) ≡ None →
      jobs_check user removing table numbers ≡ jobs_check user removing table (drop (place + 1) numbers)
  step_on numbers place inside before is = before ∙ from_place numbers place inside
      ∙ go_on (get_or numbers place 0) (drop (place + 1) numbers) is

  pub stop_at : (numbers : List ℕ) (place : ℕ) (answer : Option Refusal) → place < length numbers →
      jobs_check user removing table numbers ≡ jobs_check user removing table (drop place numbers)
      → answer ≡ check_at (get_or numbers place 0) →
      is_some answer ≡ true → answer ≡ jobs_check user removing table numbers
  stop_at numbers place (Some refusal) inside before is some =
      sym (before ∙ from_place numbers place inside ∙ decide (get_or numbers place 0) (drop (place + 1) numbers) refusal (sym is))
  stop_at numbers place None inside before is some = cc
