use Rattle.spool_faults.proofs.Planned.{up_none, up_some}
use Rattle.spool_faults.proofs.saved_marks.given_up.Goals as goal

pub returns-in-Some-clause-given : goal.returns-in-Some-clause-given
returns-in-Some-clause-given c = λ all files decided queues.
    up_some all files c.args.mark c.in-Started.number c.in-Started.queue c.in-Started.second c.start_damage.result c.in-Some.field-0
    c.in-Started.is (c.start_damage.ensures all files decided queues) c.in-Some.is

pub returns-in-None-clause-given : goal.returns-in-None-clause-given
returns-in-None-clause-given c = λ all files decided queues.
    up_none all files c.args.mark c.in-Started.number c.in-Started.queue c.in-Started.second c.start_damage.result c.in-Started.is
    (c.start_damage.ensures all files decided queues) c.in-None.is
