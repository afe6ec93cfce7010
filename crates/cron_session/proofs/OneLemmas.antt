-- One job that is submitted.
use Rattle.std.proofs.Common.{◌≡◌, ◌∙◌, ◌+◌, ℕ, Bool, true, false, List, sym, ap, subst, arith}
use Rattle.std.specs.Prelude.{IfErr, IfOk, IsErrAnd, IsSome, Result, Ok, Err, is_some}
use Rattle.host_calls.specs.Session.{CallsInside, IsInside, Session}
use Rattle.host_calls.specs.World.{World}
use Rattle.host_calls.proofs.SessionLemmas.{stays_inside}
use Rattle.job_script.specs.Check.{IsUsableContext}
use Rattle.job_script.specs.declared.context.Context.{Context}
use Rattle.job_script.specs.HeaderIn.{header_in}
use Rattle.job_script.specs.JobText.{text_for}
use Rattle.spool_model.specs.declared.job.Job.{Job}
use Rattle.spool_model.specs.JobTable.{JobTable}
use Rattle.spool_model.specs.Steps.{after_steps, submission}
use Rattle.host_calls.specs.declared.store_fault.StoreFault.{StoreFault}
use Rattle.host_calls.specs.declared.store_fault.StoreFault.TheVariants.{Damaged, FileFault, Memory, NumbersUsedUp, QueueFull}
use Rattle.host_calls.specs.StoreFaults.{IsOfStep}
use Rattle.spool_store.specs.Submission.{HasRoom, IsAnswerOn, job_of_script, kept_after_submission}
use Rattle.spool_store.proofs.WrittenJobs.{header_of_written, job_of_written}
use Rattle.step_runs.specs.Calls.{IsSteppingOn, StoreCall}
use Rattle.step_runs.specs.Current.{IsCurrent, Kept}
use Rattle.step_runs.specs.WithoutScripts.{job_without_script}
use Rattle.whole_file.proofs.OthersLemmas.{changes_none}
use Rattle.cron_session.specs.declared.session.TheConstants.{CRON_QUEUE}
use Rattle.cron_session.specs.inside.Due.{cron_job}
use Rattle.cron_session.specs.inside.Submissions.{SubmitsOne}
use Rattle.cron_session.proofs.CauseLemmas.{memory_is_none}

-- a fault that is handed on
pub submits_one_at : (tells : Bool) (before after : Session) (old new : World) (kept : Kept) (job : Job) (fault : StoreFault)
    (result : Result (Kept × ℕ) StoreFault) →
    IsErrAnd result (λ other. other ≡ fault) → SubmitsOne tells before after old new kept job (Err fault)
    → SubmitsOne tells before after old new kept job result
submits_one_at tells before after old new kept job fault (Ok stored) same submits = absurd same
submits_one_at tells before after old new kept job fault (Err other) same submits =
    subst (λ (of : StoreFault). SubmitsOne tells before after old new kept job (Err of)) (sym same) submits

-- memory ran out before the submission
pub no_memory : (tells : Bool) (session : Session) (world : World) (kept : Kept) (job : Job) → IsInside session
    → SubmitsOne tells session session world world kept job (Err Memory)
no_memory tells session world kept job inside = record {
  inside =
      record { stays = stays_inside session inside; cause = record { later = omega arith; rose = λ bad. absurd (memory_is_none bad) } };
  faults = tt;
  number = tt;
  table_is = tt;
  files = λ known table current. record {
    files = changes_none (IsSteppingOn table (submission table job) world.now.directory) world;
    current = tt;
    others = tt;
  };
}

pub script_has_header : (context : Context) (commands script : List ℕ) → IsUsableContext context → script ≡ text_for context false commands
    → IsSome (header_in script)
script_has_header context commands script fit is = ap is_some (ap header_in is ∙ header_of_written context false commands fit.user)

-- there is room, so neither that nor numbers may be missing
of_step : (table : JobTable) (result : Result (Kept × ℕ) StoreFault) → HasRoom table → IsAnswerOn table result → IfErr result IsOfStep
of_step table (Ok stored) room answer = tt
of_step table (Err FileFault) room answer = tt
of_step table (Err Memory) room answer = tt
of_step table (Err QueueFull) room answer = absurd (omega (arith, answer, room.room))
of_step table (Err NumbersUsedUp) room answer = absurd (omega (arith, answer.greatest, room.more))
of_step table (Err (Damaged damage)) room answer = absurd answer

next_number : (table : JobTable) (result : Result (Kept × ℕ) StoreFault) → IsAnswerOn table result
    → IfOk result (λ stored. stored.1 ≡ table.last + 1)
next_number table (Ok stored) answer = answer.1
next_number table (Err fault) answer = tt

pub submitted_one : (tells : Bool) (before after : Session) (old new : World) (kept : Kept) (context : Context) (minute : ℕ)
    (commands script : List ℕ) (result : Result (Kept × ℕ) StoreFault) →
    IsUsableContext context → script ≡ text_for context false commands → HasRoom kept.table → CallsInside FileFault before after result
    → IsAnswerOn kept.table result →
    IfOk result (λ stored. stored.0.table
    ≡ after_steps kept.table (submission kept.table (job_without_script (job_of_script CRON_QUEUE minute script)))) →
    (tells ≡ true → (table : JobTable) → IsCurrent kept old.now.directory table
    → StoreCall table (submission table (job_of_script CRON_QUEUE minute script)) old new (kept_after_submission result)) →
    SubmitsOne tells before after old new kept (cron_job context minute commands) result
submitted_one tells before after old new kept context minute commands script result fit is room inside answer table_is files = record {
  inside = inside;
  faults = of_step kept.table result room answer;
  number = next_number kept.table result answer;
  table_is = subst (λ (job : Job).
      IfOk result (λ stored. stored.0.table ≡ after_steps kept.table (submission kept.table (job_without_script job)))) same table_is;
  files = λ known table current.
      subst (λ (job : Job). StoreCall table (submission table job) old new (kept_after_submission result)) same (files known table current);
} where
  same : job_of_script CRON_QUEUE minute script ≡ cron_job context minute commands
  same = ap (λ (of : List ℕ). job_of_script CRON_QUEUE minute of) is ∙ job_of_written context CRON_QUEUE minute false commands fit.user
