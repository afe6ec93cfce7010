use Rattle.std.proofs.Common.{rules, ◌≡◌, ℕ, refl}
use Rattle.spool_model.specs.declared.step.Step.TheVariants.{Forget}
use Rattle.spool_model.specs.JobTable.{JobTable}
use Rattle.spool_model.specs.Steps.{IsLegal}
use Rattle.start_journal.specs.declared.mark.Mark.TheVariants.{Forgotten}
use Rattle.step_runs.specs.Current.{Kept}
use Rattle.spool_store.proofs.StepCalls.{IsStepOf, failed_step, has_its_mark, mark_of_step, marked_call, stored_step}
use Rattle.spool_store.proofs.store.Store.forget.Goals as goal

-- the step that the store makes, and its mark
forgets : (inside scanned : Kept) (number : ℕ) → inside ≡ scanned → IsLegal scanned.table (Forget number)
    → IsStepOf inside scanned (Forget number) (Forgotten number)
forgets inside scanned number view legal = record { view = view; legal = legal; adds = refl; without_scripts = refl }

pub add_mark-requires-clause-current : goal.add_mark-requires-clause-current
add_mark-requires-clause-current g c = λ tells.
    let table : JobTable = (c.requires.may.current tells).0 in (
      _,
      table,
      Forget c.args.number,
      mark_of_step _ _ _ table _ _ (forgets _ _ c.args.number c.self.view_is c.requires.may.legal) (c.requires.may.current tells).1,
    )

pub returns-in_err-self-inside : goal.returns-in_err-self-inside
returns-in_err-self-inside g c =
    let of = forgets _ _ c.args.number c.self.view_is c.requires.may.legal in
    record {
      makes = failed_step _ _ _ _ _ _ _ c.from_residual.result c.from_residual.ensures.0 (search rules) (search rules)
          (λ tells table current. c.add_mark.ensures.files tells _ table _ (mark_of_step _ _ _ table _ _ of current));
    }

pub invariant_of-self : goal.invariant_of-self
invariant_of-self g c =
    stored_step _ _ _ _ _ _ (forgets _ _ c.args.number c.self.view_is c.requires.may.legal) c.self.invariant c.add_mark.ensures.legal tt
    c.in_ok-self-inside.ensures.journal c.forget.ensures

pub returns : goal.returns
returns g c =
    let of = forgets _ _ c.args.number c.self.view_is c.requires.may.legal in
    record {
      makes = record {
        inside = search rules;
        faults = search rules;
        table_is = search rules;
        marked = has_its_mark _ _ _ _ _ _ of c.in_ok-self-inside.ensures.journal;
        files = λ tells table current.
            let is = mark_of_step _ _ _ table _ _ of current in
            marked_call _ _ _ _ table _ _ _ _ (record { step_of = of; kept = c.forget.ensures; current = current })
            c.add_mark.ensures.legal c.in_ok-self-inside.ensures.journal (λ number. refl) (c.add_mark.ensures.files tells _ table _ is)
            (c.in_ok-self-inside.ensures.marked tells _ table _ is) (c.in_ok-self-inside.ensures.others tells);
      };
    }
