use Rattle.std.proofs.Common.{◌∙◌}
use Rattle.spool_faults.proofs.JobFaults.{none_taken}
use Rattle.spool_faults.proofs.scan.take_journal.Goals as goal

pub returns-in-None-clause-marks : goal.returns-in-None-clause-marks
returns-in-None-clause-marks c = c.new.ensures.items ∙ none_taken c.args.journal.now c.in-None.is
