-- Marks say nothing of a number above the last one that was drawn.
use Rattle.std.proofs.Common.{◌≡◌, ◌<◌, ◌==◌, ℕ, ℤ, true, false, List, [], ◌∷◌, sym, ap, ◌∙◌, refl, arith}
use Rattle.std.specs.Prelude.{◌||◌, Option, Some, None, is_some, nat_le}
use Rattle.std.proofs.lemmas.Bool.Decides.{nat_tests}
use Rattle.start_journal.specs.declared.mark.Mark.{Mark}
use Rattle.start_journal.specs.declared.mark.Mark.TheVariants.{Removed, Started, Ended, Interrupted, Forgotten, Batch}
use Rattle.start_journal.specs.Journals.{are_drawn, is_drawn}
use Rattle.start_journal.specs.Marks.{is_decided, has_mark_of, is_mark_of, started_at}
use Rattle.std.proofs.lemmas.Bool.{and_parts}
use Rattle.start_journal.proofs.LifeLemmas.{unnamed_none}
use Rattle.start_journal.proofs.LifecycleLemmas.{started_has_second}

-- a number that was drawn is no greater one
other_number : (last number other : ℕ) → last < number → nat_le other last ≡ true → (other == number) ≡ false
other_number last number other greater drawn = grind (arith, nat_tests)

mark_unnamed : (last number : ℕ) (mark : Mark) → last < number → is_drawn last mark ≡ true → is_mark_of number mark ≡ false
mark_unnamed last number (Removed other) greater drawn = other_number last number other greater drawn
mark_unnamed last number (Started other queue second) greater drawn = other_number last number other greater drawn
mark_unnamed last number (Ended other ending) greater drawn = other_number last number other greater drawn
mark_unnamed last number (Interrupted other) greater drawn = other_number last number other greater drawn
mark_unnamed last number (Forgotten other) greater drawn = other_number last number other greater drawn
mark_unnamed last number (Batch second) greater drawn = refl

-- no mark names such a number
pub fresh_unnamed : (last number : ℕ) (marks : List Mark) → last < number → are_drawn last marks ≡ true → has_mark_of number marks ≡ false
fresh_unnamed last number [] greater drawn = refl
fresh_unnamed last number (mark ∷ later) greater drawn =
    let tests : (is_drawn last mark ≡ true) × (are_drawn last later ≡ true) = and_parts (is_drawn last mark) (are_drawn last later) drawn in
    ap (λ b. b || has_mark_of number later) (mark_unnamed last number mark greater tests.0)
    ∙ fresh_unnamed last number later greater tests.1

-- so it is not finished
pub fresh_undecided : (last number : ℕ) (marks : List Mark) → last < number → are_drawn last marks ≡ true → is_decided number marks ≡ false
fresh_undecided last number marks greater drawn = (unnamed_none number marks (fresh_unnamed last number marks greater drawn)).1

-- and not started
pub fresh_not_started : (last number : ℕ) (marks : List Mark) → last < number → are_drawn last marks ≡ true → started_at number marks ≡ None
fresh_not_started last number marks greater drawn =
    none_if (started_at number marks) (sym (started_has_second number marks)
    ∙ (unnamed_none number marks (fresh_unnamed last number marks greater drawn)).2) where
      none_if : (second : Option ℤ) → is_some second ≡ false → second ≡ None
      none_if None is = refl
      none_if (Some second) is = cc
