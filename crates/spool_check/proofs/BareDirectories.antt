-- Names of the spool's files, and directories that have none of them.
use Rattle.std.proofs.Common.{◌≡◌, ℕ, Bool, true, false, List, sym, ap, subst, ◌∙◌, refl, inl, inr}
use Rattle.std.specs.Prelude.{◌||◌, Option, Some, None, IfSome, IsSome, IsSomeAnd, is_some}
use Rattle.std.specs.FinMap as finite
use Rattle.std.specs.FinMap.{entries}
use Rattle.std.specs.Str.{bytes_eq}
use Rattle.host_calls.specs.Directory.{Files, Directory, IsImage, IsInNoImage, IsSettled, reading_of}
use Rattle.host_calls.proofs.DirectoryLemmas.{reading_of-settled, settled_image}
use Rattle.job_name.specs.declared.job.JobName.{JobName}
use Rattle.job_name.specs.JobName.{NamedJob, SpellsJobName, job_named}
use Rattle.job_name.proofs.NamedJobs.{name_given, name_spelled}
use Rattle.sequence_file.specs.Sequence.{sequence_file}
use Rattle.spool_check.specs.inside.CopiedFiles.{EachHasFile, IsBare, HasOneImage, IsCopyName}
use Rattle.spool_check.specs.SalvageOutcome.{is_of_spool, is_spool}
use Rattle.spool_shows.proofs.EntryLists.{file_is_entry}
use Rattle.spool_shows.proofs.Membership.{any_passes, has_made}
use Rattle.start_journal.specs.Journals.{journal_file}
use Rattle.whole_file.specs.Others.{IsEither}
use Rattle.whole_file.specs.Temporary.{temporary_file}

-- Which names are of the spool.

or_last : (a b c d : Bool) → d ≡ true → (a || (b || (c || d))) ≡ true
or_last true b c d is = refl
or_last false true c d is = refl
or_last false false true d is = refl
or_last false false false d is = is

pub job_of_spool : (name : List ℕ) → IsSome (job_named name) → is_of_spool name ≡ true
job_of_spool name job =
    or_last (bytes_eq name sequence_file) (bytes_eq name journal_file) (bytes_eq name temporary_file) (is_some (job_named name)) job

pub temp_of_spool : is_of_spool temporary_file ≡ true
temp_of_spool = refl

pub journal_of_spool : is_of_spool journal_file ≡ true
journal_of_spool = refl

pub sequence_of_spool : is_of_spool sequence_file ≡ true
sequence_of_spool = refl

named_of_spool : (name other : List ℕ) → is_of_spool other ≡ true → name ≡ other → is_of_spool name ≡ true
named_of_spool name other of is = subst (λ n. is_of_spool n ≡ true) (sym is) of

pub either_of_spool : (first second name : List ℕ) → is_of_spool first ≡ true → is_of_spool second ≡ true → IsEither first second name
    → is_of_spool name ≡ true
either_of_spool first second name one other either = elim either [
  | inl is ↦ named_of_spool name first one is
  | inr is ↦ named_of_spool name second other is
]

pub copy_of_spool : (name : List ℕ) → IsCopyName name → is_of_spool name ≡ true
copy_of_spool name copy = elim copy [
  | inl is ↦ named_of_spool name temporary_file temp_of_spool is
  | inr job ↦ job_of_spool name job
]

-- Directories without any.

pub bare_none : (files : Files) → is_spool files ≡ false → (name : List ℕ) → is_of_spool name ≡ true → finite.get files name ≡ None
bare_none files bare name of = by_held (finite.get files name) refl where
  by_held : (held : Option (List ℕ)) → finite.get files name ≡ held → finite.get files name ≡ None
  by_held None is = is
  by_held (Some bytes) is =
      let any : is_spool files ≡ true = any_passes is_of_spool (finite.keys files) name
      (has_made (λ (e : List ℕ × List ℕ). e.0) (entries files) (name, bytes) (file_is_entry files name bytes is)) of in
      let impossible : true ≡ false = sym any ∙ bare in
      cc

pub bare_each : (directory : Directory) → IsBare directory → (name : List ℕ) → is_of_spool name ≡ true → EachHasFile name None directory
bare_each directory is name of = λ image at. ap (λ (files : Files). finite.get files name) (is.durable image at)
    ∙ bare_none (reading_of directory) is.bare name of

pub bare_temp : (directory : Directory) → IsBare directory → IsInNoImage directory temporary_file
bare_temp directory is = bare_each directory is temporary_file temp_of_spool

-- The names of jobs, as they are read.

pub read_as_job : (name : List ℕ) (read : Option JobName)
    → IfSome read (λ job. SpellsJobName name job.queue job.number job.minute job.new_form)
    → ((queue number minute : ℕ) (new_form : Bool) → SpellsJobName name queue number minute new_form
    → IsSomeAnd read (λ job. (job.queue ≡ queue) × (job.number ≡ number) × (job.minute ≡ minute) × (job.new_form ≡ new_form)))
    → is_some read ≡ is_some (job_named name)
read_as_job name (Some job) spelled found = sym (ap is_some (name_given name job.queue job.number job.minute job.new_form spelled))
read_as_job name None spelled found = by_named (job_named name) refl where
  by_named : (named : Option NamedJob) → job_named name ≡ named → false ≡ is_some (job_named name)
  by_named None is = sym (ap is_some is)
  by_named (Some job) is = absurd (found job.queue job.number job.minute job.new_form (name_spelled name job is))

-- a name that was tested
pub named_by : (name bytes : List ℕ) (test : Bool) → bytes ≡ name → test ≡ is_some (job_named bytes) → test ≡ true → IsSome (job_named name)
named_by name bytes test same is true_is = ap (λ (n : List ℕ). is_some (job_named n)) (sym same) ∙ sym is ∙ true_is

pub unnamed_by : (name bytes : List ℕ) (test : Bool) → bytes ≡ name → test ≡ is_some (job_named bytes) → test ≡ false
    → IsSome (job_named name) → ⊥
unnamed_by name bytes test same is false_is job =
    let impossible : true ≡ false = sym job ∙ ap (λ (n : List ℕ). is_some (job_named n)) (sym same) ∙ sym is ∙ false_is in
    cc

-- Directories that are settled.

pub durable_of : (old new : Directory) → IsSettled old new → HasOneImage new
durable_of old new done = λ image is.
    settled_image old image (subst (λ (directory : Directory). IsImage directory image) done is)
    ∙ sym (ap reading_of done ∙ reading_of-settled old)
