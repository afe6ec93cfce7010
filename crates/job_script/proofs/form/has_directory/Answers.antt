use Rattle.std.proofs.Common.{◌++◌}
use Rattle.job_script.proofs.JobLemmas.{directory_prefix, directory_read, slash_there}
use Rattle.job_script.specs.JobText.{after_directory}
use Rattle.job_script.proofs.form.has_directory.Goals as goal

pub returns-in-Some-after_quoted : goal.returns-in-Some-after_quoted
returns-in-Some-after_quoted c =
    let slash = slash_there c.in-Some.word.now c.after-2.result c.after-2.ensures c.if-is_none.ensures in
    directory_read c.args.bytes.now c.in-Some.word.now slash.0 c.in-Some-after_quoted.rest.now
    c.after-in-Some-after_quoted.result c.is_some.result c.in-Some.ensures slash.1 c.in-Some-after_quoted.ensures
    c.after-in-Some-after_quoted.ensures c.is_some.ensures

pub returns-in-None : goal.returns-in-None
returns-in-None c = (
  λ holds. absurd (cc holds),
  λ place. absurd (c.in-None.ensures (after_directory ++ place.commands)
      (directory_prefix c.args.bytes.now c.in-Some.word.now c.in-Some.ensures place)),
)
