use Rattle.std.proofs.Common.{ℕ, Bool, List, sym, ap, subst}
use Rattle.std.specs.Prelude.{option_map}
use Rattle.job_name.specs.JobName.{NamedJob, SpellsJobName}
use Rattle.spool_faults.proofs.FoundFiles.{named_job, not_named}
use Rattle.spool_faults.proofs.plan.number_named.Goals as goal

pub returns-in-Some : goal.returns-in-Some
returns-in-Some c =
    let job = c.in-Some.job in
    sym (ap (option_map (λ (one : NamedJob). one.number)) (named_job c.args.name job (subst (λ (text : List ℕ).
    SpellsJobName text job.queue job.number job.minute job.new_form) c.as_bytes.ensures.bytes c.in-Some.ensures.spelled)))

pub returns-in-None : goal.returns-in-None
returns-in-None c =
    sym (ap (option_map (λ (one : NamedJob). one.number)) (not_named c.args.name (subst (λ (text : List ℕ). (queue number minute : ℕ)
    (new_form : Bool) → ¬ (SpellsJobName text queue number minute new_form)) c.as_bytes.ensures.bytes c.in-None.ensures.found)))
