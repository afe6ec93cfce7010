-- What marks say of each number (own): its start, its fate, and whether it was forgotten.
use Rattle.std.specs.Prelude.{◌≡◌, ◌==◌, ◌||◌, [], ◌∷◌, ℕ, false, List, Option, Some, None, is_some, option_map, unwrap_or, if◌then◌else◌}
use Rattle.std.specs.BTreeMap.{is_at}
use Rattle.std.specs.Map.{lookup}
use Rattle.std.specs.Option.{option_or}
use Rattle.std.specs.Ordering.{nat_cmp}
use Rattle.spool_model.specs.declared.decided.Decided.{Decided}
use Rattle.spool_model.specs.declared.fate.Fate.{Fate}
use Rattle.spool_model.specs.declared.fate.Fate.TheVariants as fate
use Rattle.start_journal.specs.declared.mark.Mark.{Mark}
use Rattle.start_journal.specs.declared.mark.Mark.TheVariants.{Removed, Started, Ended, Interrupted, Forgotten, Batch}
use Rattle.start_journal.specs.Marks.{AreLegalMarks, is_forgetting, is_forgotten, start_second, started_at}
use Rattle.start_journal.specs.declared.stage.Stage.{Stage}
use Rattle.start_journal.specs.Stages.{stage_by}
use Rattle.start_journal.specs.declared.lifecycles.Lifecycle.{Lifecycle}
use Rattle.start_journal.specs.declared.lifecycles.Lifecycles.{Lifecycles}

-- the fate that a mark gives the number
abbrev pub fate_given : ℕ → Mark → Option Fate
fate_given number (Removed other) = if other == number then Some fate.Removed else None
fate_given number (Ended other ending) = if other == number then Some (fate.Finished ending) else None
fate_given number (Interrupted other) = if other == number then Some fate.Interrupted else None
fate_given number (Started other queue second) = None
fate_given number (Forgotten other) = None
fate_given number (Batch second) = None

-- the fate of the number, if a mark gives it one
abbrev pub fate_at : ℕ → List Mark → Option Fate
fate_at number [] = None
fate_at number (mark ∷ later) = option_or (fate_given number mark) (fate_at number later)

-- what the marks say of the number
abbrev pub lifecycle_at : ℕ → List Mark → Lifecycle
lifecycle_at number marks = record {
  started = started_at number marks;
  fate = fate_at number marks;
  forgotten = is_forgotten number marks;
}

-- a life, with what one more mark says of its number
abbrev pub lifecycle_with : ℕ → Mark → Lifecycle → Lifecycle
lifecycle_with number mark life = record {
  started = option_or life.started (start_second number mark);
  fate = option_or life.fate (fate_given number mark);
  forgotten = life.forgotten || is_forgetting number mark;
}

-- a life of which nothing is known
abbrev pub unknown : Lifecycle
unknown = record { started = None; fate = None; forgotten = false }

-- the stage of a life
abbrev pub stage_of : Lifecycle → Stage
stage_of life = stage_by life.forgotten (is_some life.fate) (is_some life.started)

-- the life that is under the number, if one does
abbrev pub life_under : List (ℕ × Lifecycle) → ℕ → Option Lifecycle
life_under lives number = lookup (is_at (nat_cmp number)) lives

-- what is kept of the number
abbrev pub lifecycle_in : Lifecycles → ℕ → Lifecycle
lifecycle_in lives number = unwrap_or (life_under lives.by_number number) unknown

-- the marks are legal, and for each number what is kept is what they tell
abbrev pub TellLifecycles : List Mark → Lifecycles → Type 0
TellLifecycles marks lives = AreLegalMarks marks × ((number : ℕ) → lifecycle_in lives number ≡ lifecycle_at number marks)

-- the fate of a life that is not forgotten
abbrev pub remembered_fate : Lifecycle → Option Fate
remembered_fate life = if life.forgotten then None else life.fate

-- a number with the fate of its life, unless it was forgotten
abbrev pub decided_of : ℕ × Lifecycle → Option Decided
decided_of entry = option_map (λ fate. record { number = entry.0; fate = fate }) (remembered_fate entry.1)

-- the fate of the number, unless it was forgotten
abbrev pub remembered_at : ℕ → List Mark → Option Fate
remembered_at number marks = if is_forgotten number marks then None else fate_at number marks
