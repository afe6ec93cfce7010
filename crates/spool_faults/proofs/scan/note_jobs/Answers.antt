use Rattle.std.proofs.Common.{◌∙◌, ◌++◌, [], sym, ap}
use Rattle.std.specs.FinMap as finite
use Rattle.host_calls.specs.World.{reading}
use Rattle.start_journal.specs.Taken.{marks_of}
use Rattle.spool_faults.specs.Faults.{files_faults}
use Rattle.spool_faults.specs.inside.FoundFiles.{files_found}
use Rattle.spool_faults.proofs.FirstFound.{taken_first}
use Rattle.spool_faults.proofs.JobFaults.{jobs_noted}
use Rattle.spool_faults.proofs.scan.note_jobs.Goals as goal

pub returns-clause-faults : goal.returns-clause-faults
returns-clause-faults g c = λ tells.
    jobs_noted c.args.bound c.args.marks.now (finite.entries (reading (g.H.Host.world c.args.host.now))) (files_found c.as_slice.result.now)
    c.args.decided.now c.in_ok-firsts.firsts.queues c.args.faults.now.items c.files_faults.new.faults.items c.starts_faults.new.faults.items
    (ap files_found c.as_slice.ensures.value ∙ c.in_ok-found.ensures.found tells (marks_of c.args.marks.now) c.requires.decided)
    c.in_ok-firsts.ensures.queues c.requires.decided
    (c.in_ok-files_faults.ensures ∙ ap (λ list. c.args.faults.now.items ++ files_faults c.args.bound [] (files_found list))
    (c.as_slice-2.ensures.value ∙ sym c.as_slice.ensures.value))
    c.in_ok-starts_faults.ensures

pub returns-clause-firsts : goal.returns-clause-firsts
returns-clause-firsts g c = λ tells.
    taken_first (marks_of c.args.marks.now) (finite.entries (reading (g.H.Host.world c.args.host.now)))
    (files_found c.as_slice.result.now) c.in_ok-firsts.firsts
    (ap files_found c.as_slice.ensures.value ∙ c.in_ok-found.ensures.found tells (marks_of c.args.marks.now) c.requires.decided)
    c.in_ok-firsts.ensures
