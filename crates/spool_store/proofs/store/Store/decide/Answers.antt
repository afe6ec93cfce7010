use Rattle.std.proofs.Common.{rules, ◌≡◌, ℕ, List, Option, Some, None, IfSome, IfNone, IsSome, refl, subst, sym}
use Rattle.spool_model.specs.declared.fate.Fate.{Fate}
use Rattle.spool_model.specs.JobTable.{JobTable}
use Rattle.spool_model.specs.Steps.{IsLegal}
use Rattle.start_journal.specs.declared.mark.Mark.{Mark}
use Rattle.start_journal.specs.Marks.{IsLegalAfter}
use Rattle.step_runs.specs.Current.{Kept}
use Rattle.spool_shows.specs.FateSteps.{decision, decision_mark}
use Rattle.spool_store.specs.Listed.{IsLive}
use Rattle.spool_store.specs.Scripts.{IsLiveFileName}
use Rattle.spool_store.proofs.StepCalls.{IsDecidingStep, current_call, decision_of_step, failed_step, has_its_mark, legal_inside, of_some, stored_step}
use Rattle.spool_store.proofs.StoredSteps.{DecidesBy, decides_by, decision_legal}
use Rattle.spool_store.proofs.store.Store.decide.Goals as goal

-- the decision that the store makes, its mark, and the file of its job
decides_so : (inside scanned : Kept) (number : ℕ) (fate : Fate) (mark : Mark) (found : Option (List ℕ)) (name : List ℕ)
    → inside ≡ scanned → IsLegal scanned.table (decision number fate) → mark ≡ decision_mark number fate → found ≡ Some name
    → IfSome found (IsLiveFileName scanned.table scanned.old_form number) → IsDecidingStep inside scanned (decision number fate) mark name
decides_so inside scanned number fate mark found name view legal mark_is is file =
    let by : DecidesBy inside.table number fate (decision number fate) (decision_mark number fate) = decides_by inside.table number fate in
    subst (λ added. IsDecidingStep inside scanned (decision number fate) added name) (sym mark_is) (record {
      step_of = record { view = view; legal = legal; adds = by.adds; without_scripts = by.without_scripts };
      number = number;
      decided = by.decided;
      file = of_some (IsLiveFileName scanned.table scanned.old_form number) found name is file;
    })

-- one that exists where a live job is
is_there : {X : Type 0} (table : JobTable) (number : ℕ) (fate : Fate) (found : Option X) → IfNone found (IsLive table number → ⊥)
    → IsLegal table (decision number fate) → IsSome found
is_there table number fate None none legal = absurd (none ((decides_by table number fate).lives legal))
is_there table number fate (Some value) none legal = refl

pub unwrap-file-requires : goal.unwrap-file-requires
unwrap-file-requires g c = is_there c.args.self.table c.args.number c.args.fate c.file.result c.file.ensures.absent c.requires.may.legal

pub decide-requires : goal.decide-requires
decide-requires g c = (decides_by _ c.args.number c.args.fate).lives (legal_inside _ _ _ c.self.view_is c.requires.may.legal)

pub decide_job-requires-clause-legal : goal.decide_job-requires-clause-legal
decide_job-requires-clause-legal g c =
    subst (IsLegalAfter c.self.inside.journal.marks) (sym c.decision_mark-mark.ensures)
    (decision_legal _ c.self.invariant c.args.number c.args.fate (legal_inside _ _ _ c.self.view_is c.requires.may.legal))

pub decide_job-requires-clause-current : goal.decide_job-requires-clause-current
decide_job-requires-clause-current g c = λ tells.
    let table : JobTable = (c.requires.may.current tells).0 in
    let of = decides_so _ _ c.args.number c.args.fate _ c.file.result _ c.self.view_is c.requires.may.legal c.decision_mark-mark.ensures
    c.unwrap-file.ensures c.file.ensures.found in
    (_, table, decision c.args.number c.args.fate, decision_of_step _ _ _ table _ _ _ of (c.requires.may.current tells).1)

pub returns-in_err-self-inside : goal.returns-in_err-self-inside
returns-in_err-self-inside g c =
    let of = decides_so _ _ c.args.number c.args.fate _ c.file.result _ c.self.view_is c.requires.may.legal c.decision_mark-mark.ensures
    c.unwrap-file.ensures c.file.ensures.found in
    record {
      makes = failed_step _ _ _ _ _ _ _ c.from_residual-in_err-self-inside.result
          c.from_residual-in_err-self-inside.ensures.0 (search rules) (search rules)
          (λ tells table current. (c.decide_job.ensures.files tells _ table _ (decision_of_step _ _ _ table _ _ _ of current)).files);
    }

pub invariant_of-self : goal.invariant_of-self
invariant_of-self g c =
    let of = decides_so _ _ c.args.number c.args.fate _ c.file.result _ c.self.view_is c.requires.may.legal c.decision_mark-mark.ensures
    c.unwrap-file.ensures c.file.ensures.found in
    stored_step _ _ _ _ _ _ of.step_of c.self.invariant c.decide_job.ensures.legal
    (decides_by c.args.self.table c.args.number c.args.fate).in_range c.in_ok-self-inside.ensures.journal c.in_ok-decide.ensures.decided

pub returns : goal.returns
returns g c =
    let of = decides_so _ _ c.args.number c.args.fate _ c.file.result _ c.self.view_is c.requires.may.legal c.decision_mark-mark.ensures
    c.unwrap-file.ensures c.file.ensures.found in
    record {
      makes = record {
        inside = search rules;
        faults = search rules;
        table_is = search rules;
        marked = has_its_mark _ _ _ _ _ _ of.step_of c.in_ok-self-inside.ensures.journal;
        files = λ tells table current.
            let is = decision_of_step _ _ _ table _ _ _ of current in
            current_call _ _ _ _ table _ _ _ _ (record { step_of = of.step_of; kept = c.in_ok-decide.ensures.decided; current = current })
            (c.in_ok-self-inside.ensures.files tells _ table _ is);
      };
    }
