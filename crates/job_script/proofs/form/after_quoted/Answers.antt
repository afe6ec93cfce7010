use Rattle.job_script.proofs.PrefixLemmas.{open_more, value_read}
use Rattle.job_script.proofs.form.after_quoted.Goals as goal

pub loop-more-preserved : goal.loop-more-preserved
loop-more-preserved c =
    open_more c.args.bytes.now c.loop-more.rest.now c.in-Some.more.now c.loop-more.invariant c.in-Some.ensures

pub returns : goal.returns
returns c =
    value_read c.args.bytes.now c.loop-more.rest.now c.after-2.result c.loop-more.invariant c.in_default.ensures
    c.after-2.ensures
