use Rattle.std.proofs.Common.{◌≡◌, ◌∙◌, ℕ, Bool, Option, Some, None, IfSome, IsSomeAnd, sym, subst}
use Rattle.job_name.specs.declared.job.JobName.{JobName}
use Rattle.job_name.specs.JobName.{SpellsJobName}
use Rattle.job_name.proofs.JobNameLemmas.{form_known}
use Rattle.job_name.proofs.job.JobName.read.Goals as goal

-- what is found, and in which form
in_form : (found : Option JobName) (queue number minute : ℕ) (known new_form : Bool) → known ≡ new_form → IfSome found
    (λ job. job.new_form ≡ known) → IsSomeAnd found (λ job. (job.queue ≡ queue) × (job.number ≡ number) × (job.minute ≡ minute))
    → IsSomeAnd found (λ job. (job.queue ≡ queue) × (job.number ≡ number) × (job.minute ≡ minute) × (job.new_form ≡ new_form))
in_form (Some job) queue number minute known new_form same form is = (is.0, is.1, is.2, form ∙ same)
in_form None queue number minute known new_form same form is = is

pub returns-clause-found : goal.returns-clause-found
returns-clause-found c = λ queue number minute new_form spelled.
    in_form _ queue number minute _ new_form (form_known c.args.bytes.now queue number minute new_form spelled) c.read_as.ensures.form
    (c.read_as.ensures.found queue number minute (subst (SpellsJobName c.args.bytes.now queue number minute)
    (sym (form_known c.args.bytes.now queue number minute new_form spelled)) spelled))
