-- What is left in the spool, put together from its parts.
use Rattle.std.proofs.Common.{◌≡◌, ◌⊎◌, Bool, true, false, List, [], sym, subst, ◌∙◌, inl, inr}
use Rattle.std.specs.Prelude.{MatchBool}
use Rattle.host_calls.specs.World.{World, reading}
use Rattle.host_calls.proofs.DirectoryLemmas.{reading_is_image}
use Rattle.whole_file.proofs.OthersLemmas.{changes_none}
use Rattle.spool_model.specs.declared.step.Step.{Step}
use Rattle.spool_model.specs.JobTable.{JobTable}
use Rattle.spool_shows.specs.Shown.{shown_by}
use Rattle.step_runs.specs.Attempts.{Achieves, Attempts, IsAchieved, IsUnbegun}
use Rattle.step_runs.specs.Calls.{ShowsAsBefore}
use Rattle.step_runs.proofs.AttemptLemmas.{recoveries_begin_nothing}
use Rattle.listing_text.specs.declared.cause.Cause.{Cause}
use Rattle.listing_text.specs.declared.cause.Cause.TheVariants.{Done, Refused, FileFault, InputFault, OutputFault, Busy, Memory, Damaged}
use Rattle.listing_text.specs.declared.refusal.Refusal.{Refusal}
use Rattle.command_rules.specs.Checks.{check_of, is_earlier_check, of_spool}
use Rattle.command_rules.specs.Requested.{AreNoSteps, OrNone}
use Rattle.command_rules.specs.Spool.{RefusalLeaves, SpoolEnds}

-- where the spool is as it was, no step was begun
pub unbegun_same : (old new : World) → new ≡ old → IsUnbegun old new
unbegun_same old new same =
    subst (IsUnbegun old) (sym same) (recoveries_begin_nothing old old (changes_none (ShowsAsBefore old.now.directory) old))

-- what is achieved was begun
attempt_achieved : (AreSteps : JobTable → List Step → Type 0) (old new : World) → Achieves AreSteps old new
    → Attempts (OrNone AreSteps) old new
attempt_achieved AreSteps old new achieved = inr (achieved.0, achieved.1, inl achieved.2, achieved.3.begun)

-- also without a step
pub without_steps : (AreSteps : JobTable → List Step → Type 0) (old new : World) → Achieves AreNoSteps old new
    → Attempts (OrNone AreSteps) old new
without_steps AreSteps old new achieved = inr (achieved.0, achieved.1, inr achieved.2, achieved.3.begun)

-- after a refusal the spool is as it was, or shows the table without a step
refusal_cases : (later : Bool) (old new : World) → MatchBool later (Achieves AreNoSteps old new) (new ≡ old) →
    Achieves AreNoSteps old new ⊎ (new ≡ old)
refusal_cases true old new leaves = inl leaves
refusal_cases false old new leaves = inr leaves

pub refusal_left : (refusal : Refusal) (old new : World) → RefusalLeaves refusal old new → Achieves AreNoSteps old new ⊎ (new ≡ old)
refusal_left refusal old new leaves = refusal_cases (is_earlier_check of_spool (check_of refusal)) old new leaves

-- after no steps the directory shows what it showed
pub shown_as_before : (old new : World) → Achieves AreNoSteps old new → shown_by (reading new) ≡ shown_by (reading old)
shown_as_before old new achieved =
    let whole : IsAchieved achieved.0 [] old new =
    subst (λ (steps : List Step). IsAchieved achieved.0 steps old new) achieved.2 achieved.3 in
    whole.whole (reading new) (reading_is_image new.now.directory) ∙ sym whole.begun.shown

attempt_refused : (AreSteps : JobTable → List Step → Type 0) (refusal : Refusal) (old new : World) → RefusalLeaves refusal old new →
    Attempts (OrNone AreSteps) old new
attempt_refused AreSteps refusal old new leaves = elim (refusal_left refusal old new leaves) [
  | inl achieved ↦ without_steps AreSteps old new achieved
  | inr same ↦ inl (unbegun_same old new same)
]

-- however a command ends, it is an attempt at its steps, or at none
pub attempt_of : (AreSteps : JobTable → List Step → Type 0) (old new : World) (cause : Cause) → SpoolEnds AreSteps old new cause →
    Attempts (OrNone AreSteps) old new
attempt_of AreSteps old new Done ends = attempt_achieved AreSteps old new ends
attempt_of AreSteps old new OutputFault ends = attempt_achieved AreSteps old new ends
attempt_of AreSteps old new FileFault ends = ends
attempt_of AreSteps old new Memory ends = ends
attempt_of AreSteps old new (Refused refusal) ends = attempt_refused AreSteps refusal old new ends
attempt_of AreSteps old new (Damaged damage) ends = inl ends.unbegun
attempt_of AreSteps old new InputFault ends = inl (unbegun_same old new ends)
attempt_of AreSteps old new Busy ends = inl (unbegun_same old new ends)
attempt_of AreSteps old new _ ends = absurd ends
