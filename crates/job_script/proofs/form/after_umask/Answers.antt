use Rattle.job_script.proofs.PrefixLemmas.{umask_read}
use Rattle.job_script.proofs.form.after_umask.Goals as goal

pub returns : goal.returns
returns c =
    umask_read c.args.bytes.now c.in_ok-rest.rest.now c.split_at.result.1.now c.after-2.result c.in_ok-rest.ensures
    c.if-rest-lt4.false c.split_at.ensures.back
    (c.is_octal.ensures.0 c.if-not-is_octal.false)
    (c.is_octal-else-not-is_octal.ensures.0 c.if-not-is_octal-2.false)
    (c.is_octal-else-not-is_octal-2.ensures.0 c.if-not-is_octal-3.false) c.after-2.ensures
