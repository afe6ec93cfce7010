-- What marks say of a number, by their tests, and with one more mark.
use Rattle.std.proofs.Common.{◌≡◌, ℕ, Bool, true, false, cond, List, Option, Some, None, [], ◌∷◌, ◌++◌, sym, ap, subst, ◌∙◌, refl}
use Rattle.std.specs.Prelude.{◌==◌, ◌||◌, is_some}
use Rattle.std.specs.Option.{option_or}
use Rattle.start_journal.specs.declared.lifecycles.Lifecycle.{Lifecycle}
use Rattle.start_journal.specs.declared.lifecycles.Lifecycles.{Lifecycles}
use Rattle.start_journal.specs.declared.mark.Mark.{Mark}
use Rattle.start_journal.specs.declared.mark.Mark.TheVariants.{Removed, Started, Ended, Interrupted, Forgotten, Batch}
use Rattle.start_journal.specs.Journals.{is_legal_after}
use Rattle.start_journal.specs.Lifecycles.{TellLifecycles, fate_at, fate_given, lifecycle_at, lifecycle_in, lifecycle_with, stage_of}
use Rattle.start_journal.specs.Marks.{IsLegalAfter, decides, is_forgetting, is_decided, is_forgotten, has_start_of, number_of_mark, start_second, started_at, is_start_of}
use Rattle.start_journal.specs.Stages.{allows, stage_by}
use Rattle.start_journal.proofs.LifeLemmas.{allowed_legal, any_more, legal_longer, named_is}

-- One more mark.

pub or_nothing : {X : Type 0} → (one : Option X) → option_or one None ≡ one
or_nothing (Some x) = refl
or_nothing None = refl

or_grouped : {X : Type 0} → (one other third : Option X) → option_or one (option_or other third) ≡ option_or (option_or one other) third
or_grouped (Some x) other third = refl
or_grouped None other third = refl

pub started_more : (number : ℕ) (before : List Mark) (mark : Mark)
    → started_at number (before ++ mark ∷ []) ≡ option_or (started_at number before) (start_second number mark)
started_more number [] mark = or_nothing (start_second number mark)
started_more number (first ∷ before) mark =
    ap (option_or (start_second number first)) (started_more number before mark)
    ∙ or_grouped (start_second number first) (started_at number before) (start_second number mark)

fate_more : (number : ℕ) (before : List Mark) (mark : Mark)
    → fate_at number (before ++ mark ∷ []) ≡ option_or (fate_at number before) (fate_given number mark)
fate_more number [] mark = or_nothing (fate_given number mark)
fate_more number (first ∷ before) mark =
    ap (option_or (fate_given number first)) (fate_more number before mark)
    ∙ or_grouped (fate_given number first) (fate_at number before) (fate_given number mark)

-- a life by its parts
same_life : (one other : Lifecycle) → one.started ≡ other.started → one.fate ≡ other.fate → one.forgotten ≡ other.forgotten → one ≡ other
same_life one other starts fates forgot = λ i. record { started = starts i; fate = fates i; forgotten = forgot i }

life_more : (number : ℕ) (before : List Mark) (mark : Mark)
    → lifecycle_at number (before ++ mark ∷ []) ≡ lifecycle_with number mark (lifecycle_at number before)
life_more number before mark =
    same_life _ _ (started_more number before mark) (fate_more number before mark) (any_more (is_forgetting number) before mark)

-- what is known with a legal mark more
pub told_more : (marks more : List Mark) (old new : Lifecycles) (mark : Mark) → more ≡ marks ++ mark ∷ []
    → ((number : ℕ) → lifecycle_in new number ≡ lifecycle_with number mark (lifecycle_in old number))
    → TellLifecycles marks old → IsLegalAfter marks mark → TellLifecycles more new
told_more marks more old new mark is adds tell legal =
    subst (λ list. TellLifecycles list new) (sym is) (
      legal_longer [] marks mark tell.0 legal,
      λ number. adds number ∙ ap (lifecycle_with number mark) (tell.1 number) ∙ sym (life_more number marks mark),
    )

-- the same marks and lives
pub told_again : (marks more : List Mark) (old new : Lifecycles) → more ≡ marks → new ≡ old → TellLifecycles marks old
    → TellLifecycles more new
told_again marks more old new same_marks same_lives tell =
    subst (λ list. TellLifecycles list new) (sym same_marks) (subst (TellLifecycles marks) (sym same_lives) tell)

-- The tests of a number.

some_or : {X : Type 0} → (one other : Option X) → (is_some one || is_some other) ≡ is_some (option_or one other)
some_or None other = refl
some_or (Some x) other = refl

some_if : {X : Type 0} → (same : Bool) (x : X) → same ≡ is_some (cond same (Some x) None)
some_if true x = refl
some_if false x = refl

decides_given : (number : ℕ) (mark : Mark) → decides number mark ≡ is_some (fate_given number mark)
decides_given number (Removed other) = some_if (other == number) _
decides_given number (Ended other ending) = some_if (other == number) _
decides_given number (Interrupted other) = some_if (other == number) _
decides_given number (Started other queue second) = refl
decides_given number (Forgotten other) = refl
decides_given number (Batch second) = refl

-- a number is finished where it has a fate
pub decided_has_fate : (number : ℕ) (marks : List Mark) → is_decided number marks ≡ is_some (fate_at number marks)
decided_has_fate number [] = refl
decided_has_fate number (mark ∷ later) =
    ap (λ b. b || is_decided number later) (decides_given number mark)
    ∙ ap (λ b. is_some (fate_given number mark) || b) (decided_has_fate number later)
    ∙ some_or (fate_given number mark) (fate_at number later)

starts_given : (number : ℕ) (mark : Mark) → is_start_of number mark ≡ is_some (start_second number mark)
starts_given number (Started other queue second) = some_if (other == number) second
starts_given number (Removed other) = refl
starts_given number (Ended other ending) = refl
starts_given number (Interrupted other) = refl
starts_given number (Forgotten other) = refl
starts_given number (Batch second) = refl

-- and is started where it has the second of its start
pub started_has_second : (number : ℕ) (marks : List Mark) → has_start_of number marks ≡ is_some (started_at number marks)
started_has_second number [] = refl
started_has_second number (mark ∷ later) =
    ap (λ b. b || has_start_of number later) (starts_given number mark)
    ∙ ap (λ b. is_some (start_second number mark) || b) (started_has_second number later)
    ∙ some_or (start_second number mark) (started_at number later)

-- what the life of a number allows is what is legal
pub life_allows : (marks : List Mark) (lives : Lifecycles) (number : ℕ) (mark : Mark) → number_of_mark mark ≡ Some number
    → TellLifecycles marks lives → allows (stage_of (lifecycle_in lives number)) mark ≡ is_legal_after marks mark
life_allows marks lives number mark is tell =
    ap (λ (life : Lifecycle). allows (stage_of life) mark) (tell.1 number)
    ∙ ap (λ b. allows (stage_by (is_forgotten number marks) b (is_some (started_at number marks))) mark)
    (sym (decided_has_fate number marks))
    ∙ ap (λ b. allows (stage_by (is_forgotten number marks) (is_decided number marks) b) mark) (sym (started_has_second number marks))
    ∙ allowed_legal number marks mark (named_is number mark is) tell.0
