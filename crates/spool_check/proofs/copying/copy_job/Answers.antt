use Rattle.std.proofs.Common.{◌≡◌, false, true, ap, sym, ◌∙◌}
use Rattle.std.specs.Prelude.{is_some}
use Rattle.job_name.specs.JobName.{job_named}
use Rattle.spool_check.specs.inside.CopiedFiles.{IsCopied}
use Rattle.whole_file.specs.Others.{LeavesOthers}
use Rattle.whole_file.proofs.OthersLemmas.{changes_none}
use Rattle.spool_check.proofs.BareDirectories.{named_by, unnamed_by}
use Rattle.spool_check.proofs.CopyLemmas.{copied_one}
use Rattle.spool_check.proofs.copying.copy_job.Goals as goal

pub returns-then-not-is_of_job-clause-files : goal.returns-then-not-is_of_job-clause-files
returns-then-not-is_of_job-clause-files g c = λ tells.
    changes_none (LeavesOthers (IsCopied c.args.name.now) (g.G.Host.world c.args.to.now).now.directory) (g.G.Host.world c.args.to.now)

pub returns-then-not-is_of_job-clause-copied : goal.returns-then-not-is_of_job-clause-copied
returns-then-not-is_of_job-clause-copied g c = λ tells told job.
    absurd (unnamed_by c.args.name.now c.as_bytes.result.now c.is_of_job.result c.as_bytes.ensures.bytes c.is_of_job.ensures
    c.if-not-is_of_job.true job)

pub copy-requires-clause-named : goal.copy-requires-clause-named
copy-requires-clause-named g c =
    named_by c.args.name.now c.as_bytes.result.now c.is_of_job.result c.as_bytes.ensures.bytes c.is_of_job.ensures c.if-not-is_of_job.false

pub returns-clause-files : goal.returns-clause-files
returns-clause-files g c = λ tells.
    copied_one (g.G.Host.world c.args.to.now) (g.G.Host.world c.copy.new.to) c.args.name.now
    (named_by c.args.name.now c.as_bytes.result.now c.is_of_job.result c.as_bytes.ensures.bytes c.is_of_job.ensures
    c.if-not-is_of_job.false)
    (c.copy.ensures.files tells)
