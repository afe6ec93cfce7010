-- What a session leaves, by the recovery and the work after it.
use Rattle.std.proofs.Common.{◌≡◌, ◌⊎◌, Bool, List, [], sym, subst, refl, inl, inr}
use Rattle.std.specs.Prelude.{MatchBool}
use Rattle.host_calls.specs.World.{World}
use Rattle.step_runs.specs.Attempts.{Achieves, Attempts, IsAchieved}
use Rattle.step_runs.specs.Current.{Kept}
use Rattle.step_runs.proofs.AttemptLemmas.{runs_after_recoveries}
use Rattle.step_runs.proofs.MadeLemmas.{made_steps_are_achieved, no_steps_are_made}
use Rattle.listing_text.specs.declared.cause.Cause.{Cause}
use Rattle.listing_text.specs.declared.cause.Cause.TheVariants.{Done, Refused, FileFault, OutputFault, Memory}
use Rattle.spool_model.specs.declared.step.Step.{Step}
use Rattle.spool_model.specs.JobTable.{JobTable}
use Rattle.command_rules.specs.Requested.{AreNoSteps, OrNone}
use Rattle.command_rules.specs.Sessions.{IsRecovery, IsWorkedOn, IsWorkedOut, CommandWorks}
use Rattle.command_rules.specs.Spool.{SpoolEnds}
use Rattle.command_rules.proofs.SpoolLemmas.{without_steps}

module _ (AreSteps : JobTable → List Step → Type 0) (old middle new : World) (table : JobTable) (kept : Kept)
    (is : IsRecovery old middle table kept) where
  -- after the recovery the directory shows the table, without a step
  pub holds_still : new ≡ middle → Achieves AreNoSteps old new
  holds_still same =
      let achieved : IsAchieved table [] old middle =
      made_steps_are_achieved table [] [] [] kept old middle middle is.shown is.changes is.others
      (no_steps_are_made table kept middle is.current) in
      (table, [], refl, subst (IsAchieved table [] old) (sym same) achieved)

  still : new ≡ middle → Attempts (OrNone AreSteps) old new
  still same = without_steps AreSteps old new (holds_still same)

  worked_out : IsWorkedOut AreSteps table middle new → Achieves AreSteps old new
  worked_out worked = (
    table,
    worked.steps,
    worked.are,
    made_steps_are_achieved table worked.steps [] [] worked.kept old middle new is.shown is.changes is.others worked.made,
  )

  worked_on : (new ≡ middle) ⊎ IsWorkedOn AreSteps table middle new → Attempts (OrNone AreSteps) old new
  worked_on either = elim either [
    | inl same ↦ still same
    | inr worked ↦ inr (
      table,
      worked.steps,
      inl worked.are,
      runs_after_recoveries table worked.steps old middle new is.shown is.changes worked.legal worked.run,
    )
  ]

  pub works_end : (cause : Cause) → CommandWorks AreSteps table middle new cause → SpoolEnds AreSteps old new cause
  works_end Done works = worked_out works
  works_end OutputFault works = worked_out works
  works_end FileFault works = worked_on works
  works_end Memory works = worked_on works
  works_end (Refused refusal) works =
      subst (λ (after : Bool). MatchBool after (Achieves AreNoSteps old new) (new ≡ old)) (sym works.0) (holds_still works.1)
  works_end _ works = absurd works
