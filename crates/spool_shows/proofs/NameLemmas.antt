-- Which names are those of jobs, and what directories show that agree on them.
use Rattle.std.proofs.Common.{◌≡◌, ◌≤◌, ℕ, Bool, true, false, List, sym, ap, ◌∙◌, refl, arith}
use Rattle.std.specs.Prelude.{Option, Some, None, MatchBool}
use Rattle.std.specs.FinMap as map
use Rattle.std.specs.Str.{bytes_eq}
use Rattle.std.proofs.lemmas.Slice.Eq.{bytes_eq-Decides}
use Rattle.host_calls.specs.Directory.{Files}
use Rattle.sequence_file.specs.Sequence.{sequence_file}
use Rattle.whole_file.specs.Temporary.{temporary_file}
use Rattle.spool_model.specs.JobTable.{JobEntry}
use Rattle.start_journal.specs.declared.mark.Mark.{Mark}
use Rattle.start_journal.specs.Journals.{journal_file}
use Rattle.start_journal.specs.Marks.{is_decided}
use Rattle.whole_file.specs.Others.{IsEither}
use Rattle.whole_file.proofs.OthersLemmas.{neither}
use Rattle.spool_shows.specs.ByName.{AreSound, HasFile, IsJobFile, IsWholeFile, ShowsDone, ShowsEntry, ShowsLive}
use Rattle.spool_shows.specs.JobFiles.{JobFile}
use Rattle.job_name.specs.JobName.{NamedJob, job_named}

-- the names of the other files are not those of jobs
pub sequence_no_job : job_named sequence_file ≡ None
sequence_no_job = refl

pub journal_no_job : job_named journal_file ≡ None
journal_no_job = refl

pub temporary_no_job : job_named temporary_file ≡ None
temporary_no_job = refl

-- the name of a job's file is none of them
pub job_name_differs : (name other : List ℕ) (job : NamedJob) → job_named name ≡ Some job → job_named other ≡ None → ¬ (name ≡ other)
job_name_differs name other job is none same = let impossible : Some job ≡ None = sym is ∙ ap job_named same ∙ none in cc

-- nor one of two of them
pub job_name_apart : (first second name : List ℕ) (job : NamedJob) → job_named first ≡ None → job_named second ≡ None
    → job_named name ≡ Some job → ¬ (IsEither first second name)
job_name_apart first second name job no_first no_second is =
    neither first second name (job_name_differs name first job is no_first) (job_name_differs name second job is no_second)

-- names that the test of bytes tells apart
pub differ_by : (one other : List ℕ) → bytes_eq one other ≡ false → ¬ (one ≡ other)
differ_by one other test same = let impossible : true ≡ false = sym ((bytes_eq-Decides one other).1 same) ∙ test in cc

-- these names are three
pub journal_apart : ¬ (IsEither temporary_file sequence_file journal_file)
journal_apart = neither temporary_file sequence_file journal_file (differ_by _ _ refl) (differ_by _ _ refl)

pub sequence_apart : ¬ (IsEither temporary_file journal_file sequence_file)
sequence_apart = neither temporary_file journal_file sequence_file (differ_by _ _ refl) (differ_by _ _ refl)

-- the directories agree at each name of a job
abbrev pub AgreeOnNames : Files → Files → Type 0
AgreeOnNames before after = (name : List ℕ) (job : NamedJob) → job_named name ≡ Some job → map.get after name ≡ map.get before name

pub agree_back : (before after : Files) → AgreeOnNames before after → AgreeOnNames after before
agree_back before after agree name job named = sym (agree name job named)

-- a file of a job that exists in one exists in the other
pub is_there : (marks : List Mark) (before after : Files) (file : JobFile) → map.get after file.name ≡ map.get before file.name
    → IsJobFile marks before file → IsJobFile marks after file
is_there marks before after file same is = record { held = same ∙ is.held; named = is.named; undecided = is.undecided }

pub job_file_kept : (marks : List Mark) (before after : Files) → AgreeOnNames before after → (file : JobFile) → IsJobFile marks before file
    → IsJobFile marks after file
job_file_kept marks before after agree file is = is_there marks before after file (agree file.name file.job is.named) is

-- the files of the number are the same
pub record KeepFiles (marks : List Mark) (before after : Files) (number : ℕ) : Type 0 where
  pub forward : (file : JobFile) → file.job.number ≡ number → IsJobFile marks before file → IsJobFile marks after file
  pub backward : (file : JobFile) → file.job.number ≡ number → IsJobFile marks after file → IsJobFile marks before file

pub agreeing_keep : (marks : List Mark) (before after : Files) (number : ℕ) → AgreeOnNames before after
    → KeepFiles marks before after number
agreeing_keep marks before after number agree = record {
  forward = λ file is_number is. job_file_kept marks before after agree file is;
  backward = λ file is_number is. job_file_kept marks after before (agree_back before after agree) file is;
}

-- so its entry is the same
live_kept : (marks : List Mark) (before after : Files) (number : ℕ) (entry : Option JobEntry) → KeepFiles marks before after number
    → ShowsLive marks before number entry → ShowsLive marks after number entry
live_kept marks before after number None keep shown = λ file is is_number. shown file (keep.backward file is_number is) is_number
live_kept marks before after number (Some entry) keep shown =
    (shown.0, keep.forward shown.0 (ap (λ (pair : ℕ × JobEntry). pair.0) shown.2) shown.1, shown.2)

pub entry_kept : (marks : List Mark) (before after : Files) (number : ℕ) (entry : Option JobEntry) → KeepFiles marks before after number
    → ShowsEntry marks before number entry → ShowsEntry marks after number entry
entry_kept marks before after number entry keep shown = by_test (is_decided number marks) shown where
  by_test : (decided : Bool) → MatchBool decided (ShowsDone marks number entry) (ShowsLive marks before number entry)
      → MatchBool decided (ShowsDone marks number entry) (ShowsLive marks after number entry)
  by_test true done = done
  by_test false live = live_kept marks before after number entry keep live

-- a file of the number, in another directory
pub has_file_kept : (marks : List Mark) (before after : Files) (number queue : ℕ) → KeepFiles marks before after number
    → HasFile marks before number queue → HasFile marks after number queue
has_file_kept marks before after number queue keep has = record {
  file = has.file;
  is = keep.forward has.file has.number_is has.is;
  number_is = has.number_is;
  queue_is = has.queue_is;
}

-- a file that is whole stays so under a greater last number
pub whole_more : (last more : ℕ) (file : JobFile) → last ≤ more → IsWholeFile last file → IsWholeFile more file
whole_more last more file least whole =
    record { drawn = (let drawn : file.job.number ≤ last = whole.drawn in omega arith); header = whole.header }

-- files that are sound stay so where directories agree on the names of jobs
pub sound_kept : (last more : ℕ) (marks : List Mark) (before after : Files) → last ≤ more → AgreeOnNames before after
    → AreSound last marks before → AreSound more marks after
sound_kept last more marks before after least agree sound =
    let back : (file : JobFile) → IsJobFile marks after file
    → IsJobFile marks before file = job_file_kept marks after before (agree_back before after agree) in
    record {
      each = λ file is. whole_more last more file least (sound.each file (back file is));
      once = λ first second is_first is_second same. sound.once first second (back first is_first) (back second is_second) same;
      started = λ number queue second started undecided. has_file_kept marks before after number queue
          (agreeing_keep marks before after number agree) (sound.started number queue second started undecided);
    }
