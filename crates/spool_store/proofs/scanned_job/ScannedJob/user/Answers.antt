use Rattle.std.proofs.Common.{◌≡◌, Some, sym, ap, subst, ◌∙◌}
use Rattle.std.specs.Prelude.{Ok}
use Rattle.job_script.specs.HeaderIn.{header_in}
use Rattle.spool_shows.specs.JobFiles.{header_fault_in}
use Rattle.spool_store.specs.inside.ScannedJobs.{IsUserOrPlace}
use Rattle.spool_store.proofs.ScannedJobLemmas.{place_read, user_read}
use Rattle.spool_store.proofs.scanned_job.ScannedJob.user.Goals as goal

pub returns-in-Some : goal.returns-in-Some
returns-in-Some c =
    subst (λ bytes. IsUserOrPlace bytes (Ok c.in-Some.found.user)) c.as_slice-bytes.ensures
    (user_read c.as_slice-bytes.result.now c.in-Some.found.user c.in-Some.found.mail c.in-Some.ensures.read)

pub returns-in-None : goal.returns-in-None
returns-in-None c =
    subst (λ bytes. header_fault_in bytes (header_in bytes) ≡ Some c.unwrap_or.result) c.as_slice-bytes.ensures
    (place_read c.as_slice-bytes.result.now c.header_fault.result c.header_fault.ensures c.in-None.ensures.read
    ∙ ap Some (sym c.unwrap_or.ensures))
