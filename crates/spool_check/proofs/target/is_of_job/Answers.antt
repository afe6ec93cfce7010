use Rattle.std.proofs.Common.{◌∙◌}
use Rattle.spool_check.proofs.BareDirectories.{read_as_job}
use Rattle.spool_check.proofs.target.is_of_job.Goals as goal

pub returns : goal.returns
returns c = c.is_some.ensures ∙ read_as_job c.args.name.now c.read.result c.read.ensures.spelled c.read.ensures.found
