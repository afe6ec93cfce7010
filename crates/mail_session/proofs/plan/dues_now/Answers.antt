use Rattle.std.proofs.Common.{◌∙◌, List, ap}
use Rattle.std.specs.List.{filter_map}
use Rattle.spool_model.specs.JobTable.{entry_at}
use Rattle.mail_notes.specs.declared.note.NotedJob.{NotedJob}
use Rattle.mail_session.specs.Steps.{due_of_entry}
use Rattle.mail_session.proofs.plan.dues_now.Goals as goal

pub returns : goal.returns
returns c = λ notes of. record {
  jobs = c.in_ok-jobs.jobs.items;
  waiting = c.in_ok-jobs.ensures notes of;
  dues_are = c.in_ok-due_notices.ensures ∙ ap (λ (jobs : List NotedJob).
      filter_map (λ (job : NotedJob). due_of_entry job (entry_at c.args.store.now.table job.number)) jobs) c.as_slice.ensures.value;
}
