use Rattle.std.proofs.Common.{◌∷◌, ℕ, ap, arith, ◌∙◌}
use Rattle.job_script.proofs.PrefixLemmas.{byte_read, quote_read}
use Rattle.job_script.proofs.form.after_part.Goals as goal

pub returns-in-39 : goal.returns-in-39
returns-in-39 c =
    quote_read c.args.bytes.now c.in_ok-first.rest.now c.after.result
    (c.in_ok-first.ensures.cases.0 ∙ ap (λ (byte : ℕ). byte ∷ c.in_ok-first.rest.now) c.in-39.is) c.after.ensures

pub returns-in_default : goal.returns-in_default
returns-in_default c =
    byte_read c.args.bytes.now c.in_ok-first.rest.now c.in_ok-first.first.now c.in_ok-first.ensures.cases.0
    (λ same. omega arith) (λ same. omega arith)
