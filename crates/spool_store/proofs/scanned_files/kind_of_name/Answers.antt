use Rattle.std.proofs.Common.{◌≡◌, Some, ap, subst, sym, ◌∙◌}
use Rattle.std.specs.Prelude.{ℕ, Bool, List}
use Rattle.job_name.specs.declared.job.JobName.{JobName}
use Rattle.spool_shows.proofs.ShownEntries.{some_same}
use Rattle.start_journal.specs.Lifecycles.{lifecycle_in}
use Rattle.job_name.specs.JobName.{SpellsJobName}
use Rattle.spool_store.proofs.KindLemmas.{counted_kind, decided_kind, other_kind}
use Rattle.spool_store.proofs.scanned_files.kind_of_name.Goals as goal

pub returns-in-Some : goal.returns-in-Some
returns-in-Some c = λ marks tells.
    let job = c.in-Some.job in
    decided_kind marks c.args.lives.now c.args.name job c.get.result tells
    (subst (λ (text : List ℕ). SpellsJobName text job.queue job.number job.minute job.new_form) c.as_bytes.ensures.bytes
    c.in-Some.ensures.spelled)
    c.get.ensures c.if-is_some.ensures

pub returns-in-Some-2 : goal.returns-in-Some-2
returns-in-Some-2 c = λ marks tells.
    let job = c.in-Some-2.job in
    let same : Some c.in-Some.job ≡ Some job = sym c.in-Some.is ∙ c.in-Some-2.is in
    let number : c.in-Some.job.number ≡ job.number = ap (λ (one : JobName). one.number) (some_same same) in
    counted_kind marks c.args.lives.now c.args.name job c.get.result tells
    (subst (λ (text : List ℕ). SpellsJobName text job.queue job.number job.minute job.new_form) c.as_bytes.ensures.bytes
    c.in-Some-2.ensures.spelled)
    (c.get.ensures ∙ ap (lifecycle_in c.args.lives.now) number) c.if-is_some.ensures

pub returns-in-None-2 : goal.returns-in-None-2
returns-in-None-2 c = λ marks tells.
    other_kind marks c.args.name
    (subst (λ (text : List ℕ). (queue number minute : ℕ) (new_form : Bool) → ¬ (SpellsJobName text queue number minute new_form))
    c.as_bytes.ensures.bytes c.in-None.ensures.found)
    c.if-is_temporary.ensures
