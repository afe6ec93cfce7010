-- A removal, put together from its parts.
use Rattle.std.proofs.Common.{◌≡◌, Bool, true, ℕ, List, [], inr, sym, ap, subst, ◌∙◌, refl}
use Rattle.std.proofs.lemmas.Simd.{map-map}
use Rattle.std.specs.Prelude.{Ok, Err}
use Rattle.host_calls.specs.Session.{IsInside, Session}
use Rattle.host_calls.specs.World.{World}
use Rattle.listing_text.specs.declared.cause.Cause.TheVariants.{Done, Memory}
use Rattle.spool_model.specs.declared.step.Step.{Step}
use Rattle.spool_model.specs.declared.step.Step.TheVariants.{Remove}
use Rattle.spool_model.specs.JobTable.{JobTable}
use Rattle.spool_model.specs.Lists.{surplus}
use Rattle.spool_model.specs.Steps.{AreLegal, after_steps}
use Rattle.step_runs.specs.WithoutScripts.{step_without_script}
use Rattle.step_runs.specs.Current.{IsCurrent, Kept}
use Rattle.step_runs.specs.Made.{AreMade}
use Rattle.step_runs.specs.Runs.{Runs}
use Rattle.step_runs.proofs.MadeLemmas.{legal_then, steps_are_made_after}
use Rattle.step_runs.proofs.RunLemmas.{prefixes_run_as_the_steps, runs_go_on}
use Rattle.step_runs.proofs.TurnLemmas.{all_legal_when_kept}
use Rattle.host_calls.specs.declared.store_fault.StoreFault.{StoreFault}
use Rattle.host_calls.specs.declared.store_fault.StoreFault.TheVariants as store
use Rattle.host_calls.specs.StoreFaults.{IsOfStep}
use Rattle.spool_store.specs.StepSequences.{MakesSteps, MayMakeSteps}
use Rattle.spool_store.proofs.MakeLemmas.{changes_made, stopped_runs}
use Rattle.spool_store.proofs.SurplusLemmas.{surplus_legal, surplus_without_scripts}
use Rattle.tool_output.specs.Causes.{cause_of}
use Rattle.command_rules.specs.Requested.{forget_steps, removal_steps, removes}
use Rattle.command_rules.specs.Sessions.{CommandWorks}
use Rattle.at_commands.specs.Removal.{AreRemoval}

-- the jobs may be removed, by the steps as they were listed
pub may_remove : {tells : Bool} {session : Session} {world : World} {kept : Kept} (numbers : List ℕ) (steps : List Step)
    → steps ≡ removes numbers → IsInside session →
    AreLegal kept.table (removes numbers) → (tells ≡ true → (table : JobTable) × IsCurrent kept world.now.directory table)
    → MayMakeSteps tells session world kept steps
may_remove {tells} {session} {world} {kept} numbers steps is inside legal current = subst (MayMakeSteps tells session world kept) (sym is)
    (record { inside = inside; legal = legal; changes = changes_made Remove numbers (λ _. tt); current = current })

module _ {tells : Bool} (known : tells ≡ true) (table : JobTable) (numbers : List ℕ) {kept : Kept} (old : World)
    (current : IsCurrent kept old.now.directory table)
    (kept_legal : AreLegal kept.table (removes numbers)) where
  -- the table after the removals, and the steps after them
  abbrev after : JobTable
  after = after_steps table (removes numbers)

  abbrev later : List Step
  later = forget_steps (surplus after)

  legal : AreLegal table (removal_steps table numbers)
  legal = legal_then table (removes numbers) later
      (all_legal_when_kept kept old.now.directory table (removes numbers) current
      (subst (AreLegal kept.table) (sym (map-map step_without_script Remove numbers)) kept_legal))
      (surplus_legal after)

  -- the work was stopped by a fault
  stopped : (new : World) (fault : StoreFault) → IsOfStep fault → Runs table (removal_steps table numbers) old new
      → CommandWorks (AreRemoval numbers) table old new (cause_of fault)
  stopped new store.FileFault of_step run = inr (record { steps = removal_steps table numbers; are = refl; legal = legal; run = run })
  stopped new store.Memory of_step run = inr (record { steps = removal_steps table numbers; are = refl; legal = legal; run = run })
  stopped new _ of_step run = absurd of_step

  module _ {before between : Session} {middle : World} {made : ℕ} {steps : List Step} (are : steps ≡ removes numbers) where
    -- at a removal
    pub removes_stopped : {fault : StoreFault} → MakesSteps tells before between old middle kept steps made (Err fault) →
        CommandWorks (AreRemoval numbers) table old middle (cause_of fault)
    removes_stopped {fault} makes = stopped middle fault makes.faults
        (prefixes_run_as_the_steps table (removes numbers) (removal_steps table numbers) old middle (later, refl)
        (subst (λ (l : List Step). Runs table l old middle) are (stopped_runs steps made makes.begun (makes.files known table current))))

    module _ {first : Kept} (makes : MakesSteps tells before between old middle kept steps made (Ok first)) where
      removed : AreMade table (removes numbers) [] [] first old middle
      removed = subst (λ (l : List Step). AreMade table l [] [] first old middle) are (makes.files known table current)

      -- there was no memory for the others
      pub lacks_memory : CommandWorks (AreRemoval numbers) table old middle Memory
      lacks_memory = stopped middle store.Memory tt
          (prefixes_run_as_the_steps table (removes numbers) (removal_steps table numbers) old middle (later, refl) removed.through.run)

      module _ {forgotten : List Step} (are_later : forgotten ≡ forget_steps (surplus first.table)) where
        later_is : forgotten ≡ later
        later_is = are_later ∙ ap (λ (t : JobTable). forget_steps (surplus t)) removed.current.without_scripts_is
            ∙ ap forget_steps (surplus_without_scripts after)

        -- at one that forgets
        pub forgets_stopped : {after_all : Session} {new : World} {forgot : ℕ} {fault : StoreFault}
            → MakesSteps tells between after_all middle new first forgotten forgot (Err fault) →
            CommandWorks (AreRemoval numbers) table old new (cause_of fault)
        forgets_stopped {after_all} {new} {forgot} {fault} ends =
            stopped new fault ends.faults (runs_go_on table (removes numbers) later [] old middle new removed.through
            (subst (λ (l : List Step). Runs after l middle new) later_is
            (stopped_runs forgotten forgot ends.begun (ends.files known after removed.current))))

        -- all was done
        pub all_removed : {after_all : Session} {new : World} {forgot : ℕ} {last : Kept} → MakesSteps tells between after_all middle new
            first forgotten forgot (Ok last) → CommandWorks (AreRemoval numbers) table old new Done
        all_removed {after_all} {new} {forgot} {last} ends = record {
          steps = removal_steps table numbers;
          kept = last;
          are = refl;
          made = steps_are_made_after table (removes numbers) later [] [] [] [] first last old middle new removed
              (subst (λ (l : List Step). AreMade after l [] [] last middle new) later_is (ends.files known after removed.current));
        }
