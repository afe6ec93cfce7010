use Rattle.std.proofs.Common.{rules, ◌∙◌, ap, not, subst}
use Rattle.std.specs.Prelude.{◌==◌}
use Rattle.std.specs.List.{list_any}
use Rattle.job_name.specs.JobName.{SpellsJobName}
use Rattle.step_runs.specs.Current.{Kept}
use Rattle.spool_store.specs.Scripts.{IsLiveFileName}
use Rattle.spool_store.proofs.ScriptLemmas.{file_holds, fits_form, row_is_file}
use Rattle.spool_store.proofs.store.Store.file.Goals as goal

pub returns-clause-found : goal.returns-clause-found
returns-clause-found c =
    subst (λ (kept : Kept). IsLiveFileName kept.table kept.old_form c.args.number c.name.result) c.self.view_is
    (row_is_file c.self.inside.jobs c.self.inside.old_form.items c.args.number c.in_ok-row.row.now c.name.result c.in_ok-row.ensures.found
    (subst (λ new_form. SpellsJobName c.name.result c.in_ok-row.row.now.queue c.args.number c.in_ok-row.row.now.minute new_form)
    (ap not (c.contains.ensures.value ∙ ap (list_any (λ other. other == c.args.number)) c.deref.ensures.value)) c.name.ensures))

pub returns-clause-holds : goal.returns-clause-holds
returns-clause-holds c = λ directory table current.
    file_holds c.args.self.now directory table c.args.number c.name.result current (returns-clause-found c)

pub invariant_of-job : goal.invariant_of-job
invariant_of-job c = record {
  letter = search rules;
  drawn = search rules;
  fits = fits_form c.self.inside.old_form.items c.args.number _ c.self.invariant.old_form c.ranges.number.fits
      (ap not (c.contains.ensures.value ∙ ap (list_any (λ other. other == c.args.number)) c.deref.ensures.value));
  in_calendar = search rules;
}
