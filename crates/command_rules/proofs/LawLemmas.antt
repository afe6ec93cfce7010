-- What follows from how a command ends.
use Rattle.std.proofs.Common.{◌≡◌, ◌≢◌, ◌⊎◌, ℕ, List, [], sym, ap, subst, ◌∙◌, refl, inl, inr}
use Rattle.std.specs.Prelude.{Option, Some, None, Result, Ok, Err}
use Rattle.host_calls.specs.declared.damage.Damage.{Damage}
use Rattle.host_calls.specs.World.{World, reading}
use Rattle.step_runs.specs.Attempts.{Achieves, IsBegun}
use Rattle.listing_text.specs.declared.cause.Cause.{Cause}
use Rattle.listing_text.specs.declared.cause.Cause.TheVariants.{Done, FileFault, InputFault, OutputFault, Busy, Memory, Damaged}
use Rattle.listing_text.specs.declared.refusal.Refusal.{Refusal}
use Rattle.spool_model.specs.declared.step.Step.{Step}
use Rattle.spool_model.specs.JobTable.{JobTable}
use Rattle.spool_shows.specs.Shown.{shown_by}
use Rattle.tool_output.specs.declared.caller.Caller.{Caller}
use Rattle.command_rules.specs.Ends.{CommandEnds, IsNoRefusal, KeepsOrder}
use Rattle.command_rules.specs.Found.{Asked, Found}
use Rattle.command_rules.specs.Laws.{CrashesLeavePrefixes, RefusalsChangeNothing, WhatIsAllowedIsDone, FinishedWorkIsKept, WhatIsRefusedHasNoStep}
use Rattle.command_rules.specs.Requested.{AreAskedSteps, OrNone}
use Rattle.tool_output.specs.Sinks.{SinkAt}
use Rattle.command_rules.specs.Spool.{SpoolEnds}
use Rattle.command_rules.specs.Verdict.{verdict_of}
use Rattle.command_rules.proofs.SpoolLemmas.{attempt_of, refusal_left, shown_as_before}

-- no damage is shown where a table is
no_damage : (shown : Result JobTable Damage) (table : JobTable) (damage : Damage) → shown ≡ Ok table → shown ≡ Err damage → ⊥
no_damage shown table damage is other = let two : Ok table ≡ Err damage = sym is ∙ other in cc

-- a cause that is no refusal and no fault of the outside
done_or_memory : (AreSteps : JobTable → List Step → Type 0) (old new : World) (table : JobTable) (cause : Cause) →
    shown_by (reading old) ≡ Ok table → IsNoRefusal cause → SpoolEnds AreSteps old new cause →
    cause ≢ FileFault → cause ≢ InputFault → cause ≢ OutputFault → cause ≢ Busy → (cause ≡ Done) ⊎ (cause ≡ Memory)
done_or_memory AreSteps old new table Done shown none ends files input output busy = inl refl
done_or_memory AreSteps old new table Memory shown none ends files input output busy = inr refl
done_or_memory AreSteps old new table FileFault shown none ends files input output busy = absurd (files refl)
done_or_memory AreSteps old new table InputFault shown none ends files input output busy = absurd (input refl)
done_or_memory AreSteps old new table OutputFault shown none ends files input output busy = absurd (output refl)
done_or_memory AreSteps old new table Busy shown none ends files input output busy = absurd (busy refl)
done_or_memory AreSteps old new table (Damaged damage) shown none ends files input output busy =
    absurd (no_damage (shown_by (reading old)) table damage shown ends.shown)
done_or_memory AreSteps old new table _ shown none ends files input output busy = absurd none

module _ (Notes : Cause → (List ℕ → Type 0) → SinkAt → SinkAt → Type 0) where
  pub allowed_is_done : WhatIsAllowedIsDone Notes
  allowed_is_done asked caller tells before after cause known table shown none files input output busy =
      let ends : CommandEnds Notes asked caller tells before after cause = known.ends in
      let verdict : verdict_of asked caller ends.found ends.shown ≡ None =
      ap (verdict_of asked caller ends.found) ((ends.directory known.files known.alone).table ∙ shown) ∙ none in
      done_or_memory (AreAskedSteps asked caller ends.found) before.spool after.spool table cause shown
      (subst (λ (of : Option Refusal). KeepsOrder of cause) verdict ends.order)
      (ends.spool known.files known.alone) files input output busy

  pub refusals_change_nothing : RefusalsChangeNothing Notes
  refusals_change_nothing asked caller tells before after refusal known =
      elim (refusal_left refusal before.spool after.spool (known.ends.spool known.files known.alone)) [
        | inl achieved ↦ shown_as_before before.spool after.spool achieved
        | inr same ↦ ap (λ (world : World). shown_by (reading world)) same
      ]

-- what is refused on the table that is shown has no steps there
refused_begun : (asked : Asked) (caller : Caller) (found : Found) (old new : World) (refusal : Refusal) (table : JobTable)
    (steps : List Step) → verdict_of asked caller found (shown_by (reading old)) ≡ Some refusal →
    OrNone (AreAskedSteps asked caller found) table steps → IsBegun table steps old new → IsBegun table [] old new
refused_begun asked caller found old new refusal table steps refused either begun = elim either [
  | inl are ↦ (let two : None ≡ Some refusal = sym are.none ∙ sym (ap (verdict_of asked caller found) begun.shown) ∙ refused in cc)
  | inr none ↦ subst (λ (of : List Step). IsBegun table of old new) none begun
]

module _ (Notes : Cause → (List ℕ → Type 0) → SinkAt → SinkAt → Type 0) where
  pub crashes_leave_prefixes : CrashesLeavePrefixes Notes
  crashes_leave_prefixes asked caller tells before after cause known =
      attempt_of (AreAskedSteps asked caller known.ends.found) before.spool after.spool cause (known.ends.spool known.files known.alone)

  pub refused_has_no_step : WhatIsRefusedHasNoStep Notes
  refused_has_no_step asked caller tells before after cause refusal known refused =
      elim (crashes_leave_prefixes asked caller tells before after cause known) [
        | inl unbegun ↦ inl unbegun
        | inr begun ↦ inr
            (begun.0, refused_begun asked caller known.ends.found before.spool after.spool refusal begun.0 begun.1 refused begun.2 begun.3)
      ]

  pub done_holds : FinishedWorkIsKept Notes
  done_holds asked caller tells before after known =
      let achieved : Achieves (AreAskedSteps asked caller known.ends.found) before.spool after.spool =
      known.ends.spool known.files known.alone in
      (achieved.0, achieved.1, achieved.3.begun.shown, achieved.2, achieved.3.whole)
