use Rattle.std.proofs.Common.{sym, ◌∙◌}
use Rattle.spool_shows.specs.JobFiles.{file_of}
use Rattle.spool_faults.proofs.JobFaults.{start_decided, start_undecided}
use Rattle.spool_faults.proofs.job_faults.start_damage.Goals as goal

pub returns-then-contains : goal.returns-then-contains
returns-then-contains c = λ all files decided queues.
    start_decided all files c.args.one.place c.in-Started.number c.in-Started.queue c.in-Started.second c.args.one.mark c.in-Started.is
    (sym (c.if-contains.ensures ∙ decided c.in-Started.number))

pub returns-else-contains : goal.returns-else-contains
returns-else-contains c = λ all files decided queues.
    start_undecided all files c.args.one.place c.in-Started.number c.in-Started.queue c.in-Started.second c.args.one.mark
    c.queue_fault.result c.in-Started.is (sym (c.if-contains.ensures ∙ decided c.in-Started.number))
    (c.queue_fault.ensures (file_of c.in-Started.number files) (c.queue_of_number.ensures ∙ queues c.in-Started.number))
