use Rattle.std.proofs.Common.{rules, ◌≡◌, ◌∙◌, ℕ, ℤ, Option, Some, ap, subst, sym, refl, w64}
use Rattle.std.proofs.lemmas.Int.{to_z-of_z}
use Rattle.spool_model.specs.declared.entry.Entry.TheVariants.{Live}
use Rattle.spool_model.specs.declared.job.Job.{Job}
use Rattle.spool_model.specs.declared.row.Row.{Row}
use Rattle.spool_model.specs.declared.state.State.TheVariants.{Pending}
use Rattle.spool_model.specs.declared.step.Step.TheVariants.{Start}
use Rattle.spool_model.specs.JobTable.{JobEntry, JobState, JobTable, entry_at}
use Rattle.spool_model.specs.Steps.{IsLegal, after_step}
use Rattle.start_journal.specs.declared.mark.Mark.TheVariants.{Started}
use Rattle.step_runs.specs.Current.{Kept}
use Rattle.spool_store.specs.Listed.{row_job}
use Rattle.spool_store.specs.Rows.{row_entry}
use Rattle.spool_store.proofs.StepCalls.{IsStepOf, failed_step, has_its_mark, mark_of_step, marked_call, of_some, stored_step}
use Rattle.spool_store.proofs.store.Store.start.Goals as goal

-- the queue of a job is that of its row
same_queue : (job other : Job) (state since : JobState) → ◌≡◌ {A = Option JobEntry} (Some (Live job state)) (Some (Live other since))
    → other.queue ≡ job.queue
same_queue job other state since same =
    let jobs : job ≡ other = cc in
    ap (λ (of : Job). of.queue) (sym jobs)

-- the step that the store makes, and its mark
starts : (inside scanned : Kept) (number : ℕ) (second written : ℤ) (row : Row) → inside ≡ scanned
    → IsLegal scanned.table (Start number second) → entry_at inside.table number ≡ Some (row_entry row).1 → written ≡ second
    → IsStepOf inside scanned (Start number second) (Started number row.queue written)
starts inside scanned number second written row view legal held same =
    let pending : IsLegal inside.table (Start number second) =
    subst (λ (kept : Kept). IsLegal kept.table (Start number second)) (sym view) legal in
    let queue : row.queue ≡ pending.0.queue = same_queue pending.0 (row_job row) Pending row.state (sym pending.1 ∙ held) in
    record {
      view = view;
      legal = legal;
      adds = (pending.0, pending.1, ap (λ q. Started number q written) queue ∙ ap (Started number pending.0.queue) same);
      without_scripts = refl;
    }

pub add_mark-requires-clause-current : goal.add_mark-requires-clause-current
add_mark-requires-clause-current g c = λ tells.
    let table : JobTable = (c.requires.may.current tells).0 in
    let of = starts _ _ c.args.number c.args.second _ c.unwrap.result.now c.self.view_is c.requires.may.legal
    (of_some _ c.row.result _ c.unwrap.ensures c.row.ensures.found) (to_z-of_z w64 c.args.second c.ranges.second) in
    (_, table, Start c.args.number c.args.second, mark_of_step _ _ _ table _ _ of (c.requires.may.current tells).1)

pub returns-in_err-self-inside : goal.returns-in_err-self-inside
returns-in_err-self-inside g c =
    let of = starts _ _ c.args.number c.args.second _ c.unwrap.result.now c.self.view_is c.requires.may.legal
    (of_some _ c.row.result _ c.unwrap.ensures c.row.ensures.found) (to_z-of_z w64 c.args.second c.ranges.second) in
    record {
      makes = failed_step _ _ _ _ _ _ _ c.from_residual.result c.from_residual.ensures.0 (search rules) (search rules)
          (λ tells table current. c.add_mark.ensures.files tells _ table _ (mark_of_step _ _ _ table _ _ of current));
    }

pub invariant_of-self : goal.invariant_of-self
invariant_of-self g c =
    let of = starts _ _ c.args.number c.args.second _ c.unwrap.result.now c.self.view_is c.requires.may.legal
    (of_some _ c.row.result _ c.unwrap.ensures c.row.ensures.found) (to_z-of_z w64 c.args.second c.ranges.second) in
    stored_step _ _ _ _ _ _ of c.self.invariant c.add_mark.ensures.legal c.requires.second c.in_ok-self-inside.ensures.journal
    (c.start.ensures
    ∙ ap (λ second. after_step c.self.inside.jobs (Start c.args.number second)) (to_z-of_z w64 c.args.second c.ranges.second))

pub returns : goal.returns
returns g c =
    let of = starts _ _ c.args.number c.args.second _ c.unwrap.result.now c.self.view_is c.requires.may.legal
    (of_some _ c.row.result _ c.unwrap.ensures c.row.ensures.found) (to_z-of_z w64 c.args.second c.ranges.second) in
    record {
      makes = record {
        inside = search rules;
        faults = search rules;
        table_is = search rules;
        marked = has_its_mark _ _ _ _ _ _ of c.in_ok-self-inside.ensures.journal;
        files = λ tells table current.
            let is = mark_of_step _ _ _ table _ _ of current in
            let kept = c.start.ensures
            ∙ ap (λ second. after_step c.self.inside.jobs (Start c.args.number second)) (to_z-of_z w64 c.args.second c.ranges.second) in
            marked_call _ _ _ _ table _ _ _ _ (record { step_of = of; kept = kept; current = current })
            c.add_mark.ensures.legal c.in_ok-self-inside.ensures.journal (λ number. refl) (c.add_mark.ensures.files tells _ table _ is)
            (c.in_ok-self-inside.ensures.marked tells _ table _ is) (c.in_ok-self-inside.ensures.others tells);
      };
    }
