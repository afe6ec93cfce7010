use Rattle.std.proofs.Common.{ℕ, Bool, List, subst}
use Rattle.job_name.specs.JobName.{SpellsJobName}
use Rattle.spool_faults.proofs.FoundFiles.{named_job, none_named}
use Rattle.spool_faults.proofs.find_files.counted_job.Goals as goal

pub returns-in-Some : goal.returns-in-Some
returns-in-Some c = λ marks tell.
    let job = c.in-Some.job in
    c.undecided.ensures marks c.args.name tell
    (named_job c.args.name job (subst (λ (text : List ℕ). SpellsJobName text job.queue job.number job.minute job.new_form)
    c.as_bytes.ensures.bytes c.in-Some.ensures.spelled))

pub returns-in-None : goal.returns-in-None
returns-in-None c = λ marks tell.
    none_named marks c.args.name (subst (λ (text : List ℕ). (queue number minute : ℕ) (new_form : Bool)
    → ¬ (SpellsJobName text queue number minute new_form)) c.as_bytes.ensures.bytes c.in-None.ensures.found)
