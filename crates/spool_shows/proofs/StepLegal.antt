-- A step that is legal on a table adds a mark that is legal after those of a directory that shows it.
use Rattle.std.proofs.Common.{◌≡◌, ℕ, ℤ, true, false, List, Some, None, sym, ap, subst, ◌∙◌}
use Rattle.std.specs.Prelude.{◌||◌, is_some}
use Rattle.host_calls.specs.Directory.{Files}
use Rattle.spool_model.specs.declared.state.State.TheVariants.{Pending, Running}
use Rattle.spool_model.specs.declared.step.Step.{Step}
use Rattle.spool_model.specs.declared.step.Step.TheVariants.{Remove, Start, End, Interrupt, Forget}
use Rattle.spool_model.specs.JobTable.{IsDone, IsPending, IsRunning, JobTable}
use Rattle.spool_model.specs.Steps.{IsLegal}
use Rattle.start_journal.specs.declared.mark.Mark.{Mark}
use Rattle.start_journal.specs.Marks.{IsLegalAfter, decides, is_end_of, is_decided, is_ended, is_forgotten, has_mark_of, has_start_of, started_at}
use Rattle.start_journal.proofs.LifeLemmas.{ends_decides, named_by, none_narrower}
use Rattle.start_journal.proofs.LifecycleLemmas.{started_has_second}
use Rattle.spool_shows.specs.ByName.{ShowsByName}
use Rattle.spool_shows.specs.Laws.{AddsMark, HasMarks}
use Rattle.spool_shows.proofs.MarkTests.{not_forgotten}
use Rattle.spool_shows.proofs.OneMark.{had_same, marks_legal}
use Rattle.spool_shows.proofs.ShownStates.{IsDoneBy, IsLiveBy, not_started, started_then}
use Rattle.spool_shows.proofs.StepMarks.{done_in, live_in}

-- A number that is not finished, not forgotten and not started is named by no mark.

pub unnamed : (number : ℕ) (marks : List Mark) → is_decided number marks ≡ false → is_forgotten number marks ≡ false
    → started_at number marks ≡ None → has_mark_of number marks ≡ false
unnamed number marks undecided remembered none =
    named_by number marks ∙ ap (λ b. b || (is_decided number marks || has_start_of number marks)) remembered
    ∙ ap (λ b. b || has_start_of number marks) undecided
    ∙ started_has_second number marks ∙ ap is_some none

-- A number with a second of its start is started.

pub is_started_since : (number : ℕ) (marks : List Mark) (second : ℤ) → started_at number marks ≡ Some second
    → has_start_of number marks ≡ true
is_started_since number marks second since = started_has_second number marks ∙ ap is_some since

-- The marks of the five steps.

pending_unnamed : (files : Files) (table : JobTable) (number : ℕ) (shows : ShowsByName files table) → IsPending table number
    → has_mark_of number shows.read.marks ≡ false
pending_unnamed files table number shows (job, is) =
    let live : IsLiveBy shows.read.marks files number job Pending = live_in files table number job Pending shows is in
    unnamed number shows.read.marks live.undecided (not_forgotten shows.read.marks number (marks_legal files table shows) live.undecided)
    (not_started (started_at number shows.read.marks) live.state_is)

running_started : (files : Files) (table : JobTable) (number : ℕ) (shows : ShowsByName files table) → IsRunning table number
    → (has_start_of number shows.read.marks ≡ true) × (is_ended number shows.read.marks ≡ false)
running_started files table number shows (job, second, is) =
    let live : IsLiveBy shows.read.marks files number job (Running second) = live_in files table number job (Running second) shows is in (
      is_started_since number shows.read.marks second (started_then (started_at number shows.read.marks) second live.state_is),
      none_narrower (is_end_of number) (decides number) shows.read.marks (ends_decides number) live.undecided,
    )

done_decided : (files : Files) (table : JobTable) (number : ℕ) (shows : ShowsByName files table) → IsDone table number
    → (is_decided number shows.read.marks ≡ true) × (is_forgotten number shows.read.marks ≡ false)
done_decided files table number shows (fate, is) =
    let done : IsDoneBy shows.read.marks number = done_in files table number fate shows is in
    (done.decided, done.remembered)

legal_here : (files : Files) (table : JobTable) (step : Step) (added : Mark) (shows : ShowsByName files table) → IsLegal table step
    → AddsMark table step added → IsLegalAfter shows.read.marks added
legal_here files table (Remove number) added shows legal adds =
    subst (IsLegalAfter shows.read.marks) (sym adds) (pending_unnamed files table number shows legal)
legal_here files table (Start number second) added shows legal (job, is, adds) =
    subst (IsLegalAfter shows.read.marks) (sym adds) (pending_unnamed files table number shows legal)
legal_here files table (End number ending) added shows legal adds =
    subst (IsLegalAfter shows.read.marks) (sym adds) (running_started files table number shows legal)
legal_here files table (Interrupt number) added shows legal adds =
    subst (IsLegalAfter shows.read.marks) (sym adds) (running_started files table number shows legal)
legal_here files table (Forget number) added shows legal adds =
    subst (IsLegalAfter shows.read.marks) (sym adds) (done_decided files table number shows legal)
legal_here files table _ added shows legal adds = absurd adds

pub legal_marks_by_name : (files : Files) (table : JobTable) (step : Step) (added : Mark) (marks : List Mark) → ShowsByName files table
    → HasMarks files marks → IsLegal table step → AddsMark table step added → IsLegalAfter marks added
legal_marks_by_name files table step added marks shows had legal adds =
    subst (λ list. IsLegalAfter list added) (had_same files table marks shows had) (legal_here files table step added shows legal adds)
