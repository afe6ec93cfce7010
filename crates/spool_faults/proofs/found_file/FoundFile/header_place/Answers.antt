use Rattle.std.proofs.Common.{◌≡◌, Some, None, subst, sym}
use Rattle.job_script.specs.HeaderIn.{header_in}
use Rattle.spool_shows.specs.JobFiles.{header_fault_in}
use Rattle.spool_faults.proofs.FoundFiles.{fault_read, no_fault_read}
use Rattle.spool_faults.proofs.found_file.FoundFile.header_place.Goals as goal

pub returns-in-Some : goal.returns-in-Some
returns-in-Some c =
    sym (subst (λ bytes. header_fault_in bytes (header_in bytes) ≡ Some c.in-Some.place) c.as_slice.ensures
    (fault_read c.as_slice.result.now c.in-Some.place c.in-Some.ensures))

pub returns-in-None : goal.returns-in-None
returns-in-None c =
    sym (subst (λ bytes. header_fault_in bytes (header_in bytes) ≡ None) c.as_slice.ensures
    (no_fault_read c.as_slice.result.now c.in-None.ensures))
