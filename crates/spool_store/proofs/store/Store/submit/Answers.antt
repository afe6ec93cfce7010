use Rattle.std.proofs.Common.{subst, sym}
use Rattle.host_calls.specs.Directory.{Directory}
use Rattle.spool_model.specs.declared.job.Job.{Job}
use Rattle.spool_store.specs.Stored.{IsStored}
use Rattle.spool_store.specs.Submission.{job_of_script, with_job}
use Rattle.spool_model.specs.Steps.{submission}
use Rattle.spool_store.proofs.SubmitAnswers.{call_done, call_failed, header_found, is_next, submitted_kept, submitted_table}
use Rattle.spool_store.proofs.SubmitStored.{submitted_stored}
use Rattle.spool_store.proofs.store.Store.submit.Goals as goal

pub unwrap-user-requires : goal.unwrap-user-requires
unwrap-user-requires g c = header_found c.args.script.now c.header.result c.header.ensures.read c.requires.header

pub file_job-requires-clause-current : goal.file_job-requires-clause-current
file_job-requires-clause-current g c = λ tells.
    let directory : Directory = (g.H.Host.world c.args.host.now).now.directory in
    let current = c.requires.current tells in (
      c.args.self,
      current.0,
      is_next c.args.self c.self.inside.jobs c.self.inside.journal c.self.inside.old_form.items c.self.view_is c.self.invariant directory
          current.0 c.in_ok-number.number c.in_ok-number.ensures.number current.1,
    )

pub returns-in_err-file_job-clause-files : goal.returns-in_err-file_job-clause-files
returns-in_err-file_job-clause-files g c = λ tells table current.
    let directory : Directory = (g.H.Host.world c.args.host.now).now.directory in
    let job : Job = job_of_script c.args.queue c.args.minute c.args.script.now in
    call_failed table (submission table job) (g.H.Host.world c.args.host.now) (g.H.Host.world c.file_job.new.host)
    c.in_err-file_job.field-0.0 c.from_residual-in_err-file_job.result
    (c.in_err-file_job.ensures.files tells c.args.self table
    (is_next c.args.self c.self.inside.jobs c.self.inside.journal c.self.inside.old_form.items c.self.view_is c.self.invariant directory
    table c.in_ok-number.number c.in_ok-number.ensures.number current))
    c.from_residual-in_err-file_job.ensures.0

pub returns-clause-kept : goal.returns-clause-kept
returns-clause-kept g c =
    submitted_table c.args.self c.self.inside.jobs c.self.inside.journal c.self.inside.old_form.items c.self.view_is
    c.draw.new.self c.accept.new.self
    c.args.queue c.args.minute c.in_ok-number.number c.args.script.now c.header.result c.unwrap-user.result
    c.draw.ensures c.in_ok-accept.ensures.taken c.in_ok-number.ensures.number c.header.ensures.read c.unwrap-user.ensures

pub invariant_of-self : goal.invariant_of-self
invariant_of-self g c =
    let job : Job = job_of_script c.args.queue c.args.minute c.args.script.now in
    subst IsStored (sym (submitted_kept c.args.self c.self.inside.jobs c.self.inside.journal c.self.inside.old_form.items c.self.view_is
    c.accept.new.self job (returns-clause-kept g c)))
    (submitted_stored c.args.self job (subst IsStored c.self.view_is c.self.invariant) c.in_ok-number.ensures.number.room.more
    (record { letter = c.requires.queue; in_calendar = c.requires.minute }))

pub returns-clause-files : goal.returns-clause-files
returns-clause-files g c = λ tells table current.
    let directory : Directory = (g.H.Host.world c.args.host.now).now.directory in
    let job : Job = job_of_script c.args.queue c.args.minute c.args.script.now in
    call_done table (submission table job) (g.H.Host.world c.args.host.now) (g.H.Host.world c.file_job.new.host)
    (with_job c.args.self job) _
    (submitted_kept c.args.self c.self.inside.jobs c.self.inside.journal c.self.inside.old_form.items c.self.view_is c.accept.new.self job
    (returns-clause-kept g c))
    (c.in_ok-file_job.ensures.files tells c.args.self table
    (is_next c.args.self c.self.inside.jobs c.self.inside.journal c.self.inside.old_form.items c.self.view_is c.self.invariant directory
    table c.in_ok-number.number c.in_ok-number.ensures.number current))
