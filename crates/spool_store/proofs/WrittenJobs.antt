-- The job of a script that was written for who submits.
use Rattle.std.proofs.Common.{◌≡◌, List, ℕ, ap, refl}
use Rattle.std.specs.Prelude.{Bool, Some}
use Rattle.job_script.specs.declared.context.Context.{Context}
use Rattle.job_script.specs.HeaderIn.{header_in}
use Rattle.job_script.specs.JobText.{text_for, job_for}
use Rattle.job_script.proofs.HeaderInLemmas.{header_in-some}
use Rattle.spool_model.specs.Users.{IsUserName}
use Rattle.spool_model.specs.declared.job.Job.{Job}
use Rattle.spool_shows.specs.Shown.{user_of}
use Rattle.spool_store.specs.Submission.{job_of_script}

-- it begins with the header of its user
pub header_of_written : (context : Context) (mail : Bool) (commands : List ℕ) → IsUserName context.user →
    header_in (text_for context mail commands) ≡ Some (context.user, mail)
header_of_written context mail commands named =
    (header_in-some (text_for context mail commands) context.user mail).1 (record { name = named; rest = _; text = refl })

-- so its job is that of who submits
pub job_of_written : (context : Context) (queue minute : ℕ) (mail : Bool) (commands : List ℕ) → IsUserName context.user →
    job_of_script queue minute (text_for context mail commands) ≡ job_for context queue mail minute commands
job_of_written context queue minute mail commands named =
    ap (λ (of : List ℕ). with_user of) (ap user_of (header_of_written context mail commands named)) where
      with_user : List ℕ → Job
      with_user user = record { queue = queue; minute = minute; user = user; script = text_for context mail commands }
