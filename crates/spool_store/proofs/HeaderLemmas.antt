-- The first bytes of a live job's file give its header.
use Rattle.std.proofs.Common.{◌≡◌, ℕ, Bool, List, take, drop, sym, ap, ◌∙◌}
use Rattle.std.specs.Prelude.{Some, option_map}
use Rattle.host_calls.specs.Directory.{Directory, reading_of}
use Rattle.host_calls.specs.World.{bytes_from}
use Rattle.host_calls.proofs.DirectoryLemmas.{reading_is_image}
use Rattle.job_script.specs.declared.headers.JobHeader.{JobHeader}
use Rattle.job_script.specs.Header.{BeginsWithHeader, HasHeader, HeaderSays}
use Rattle.job_script.specs.HeaderIn.{header_in}
use Rattle.job_script.proofs.HeaderInLemmas.{header_in-some, header_in-take}
use Rattle.spool_model.specs.JobTable.{JobTable}
use Rattle.spool_shows.specs.Laws.{HasItsHeader}
use Rattle.spool_shows.proofs.ShownHeaders.{shown_jobs_have_headers}
use Rattle.step_runs.specs.Current.{IsCurrent, Kept}
use Rattle.spool_store.specs.Scripts.{HoldsScript, IsHeaderOn, IsScriptOf}

-- The first bytes of the script begin with the header that it begins with.
pub record BeginsAsJob (table : JobTable) (number : ℕ) (bytes : List ℕ) : Type 0 where
  pub script : List ℕ
  pub of : IsScriptOf table number script
  pub mail : Bool
  pub header : header_in of.job.script ≡ Some (of.job.user, mail)
  pub begins : BeginsWithHeader bytes of.job.user mail

-- what was read of the file's first bytes does
pub begins_as_job : (kept : Kept) (directory : Directory) (table : JobTable) (number : ℕ) (name bytes : List ℕ)
    → IsCurrent kept directory table →
    HoldsScript table directory number name → bytes_from (reading_of directory) name 0 60 ≡ Some bytes → BeginsAsJob table number bytes
begins_as_job kept directory table number name bytes current holds read =
    let part : Some (take 60 holds.bytes) ≡ Some bytes = sym (ap (option_map (λ whole. take 60 (drop 0 whole))) holds.held) ∙ read in
    let part_is : take 60 holds.bytes ≡ bytes = cc in
    let its : HasItsHeader holds.script.job =
    shown_jobs_have_headers (reading_of directory) table number holds.script.job holds.script.state
    (current.shows (reading_of directory) (reading_is_image directory)) holds.script.lives in
    let found : header_in bytes ≡ Some (holds.script.job.user, its.0) =
    ap header_in (sym part_is) ∙ header_in-take holds.bytes ∙ ap header_in holds.script.script ∙ its.1 in
    record {
      script = holds.bytes;
      of = holds.script;
      mail = its.0;
      header = its.1;
      begins = (header_in-some bytes holds.script.job.user its.0).0 found;
    }

-- so a header that is found is that of the job
pub found_is_its : (table : JobTable) (number : ℕ) (bytes : List ℕ) (found : JobHeader) → (is : BeginsAsJob table number bytes) →
    HeaderSays is.of.job.user is.mail found → IsHeaderOn table number found
found_is_its table number bytes found is says = record {
  job = is.of.job;
  state = is.of.state;
  lives = is.of.lives;
  header = is.header ∙ (λ i. Some (sym says.0 i, sym says.1 i));
  user_is = says.0;
}

-- and one is found
pub has_its : (table : JobTable) (number : ℕ) (bytes : List ℕ) → BeginsAsJob table number bytes → HasHeader bytes
has_its table number bytes is = record { user = is.of.job.user; mail = is.mail; header = is.begins }
