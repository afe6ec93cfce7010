-- A job is finished: its mark is added, and then its file is removed, which counts for nothing by then.
use Rattle.std.proofs.Common.{◌≡◌, ◌≤◌, ◌⊎◌, ℕ, Bool, true, false, List, [], ◌∷◌, Contains, sym, ap, subst, ◌∙◌, refl, arith, inl, inr}
use Rattle.std.specs.Prelude.{Some, IsSome, if◌then◌else◌}
use Rattle.std.specs.FinMap as map
use Rattle.host_calls.specs.Directory.{Files, Directory, reading_of}
use Rattle.host_calls.proofs.DirectoryLemmas.{reading_is_image}
use Rattle.whole_file.specs.Temporary.{temporary_file}
use Rattle.spool_model.specs.declared.job.Job.{Job}
use Rattle.spool_model.specs.declared.step.Step.{Step}
use Rattle.spool_model.specs.JobTable.{JobTable}
use Rattle.spool_model.specs.Steps.{after_step}
use Rattle.spool_model.proofs.StepLemmas.{last_rises}
use Rattle.start_journal.specs.declared.mark.Mark.{Mark}
use Rattle.start_journal.specs.declared.mark.Mark.TheVariants.{Removed, Ended, Interrupted}
use Rattle.start_journal.specs.JournalChange.{added, compacted}
use Rattle.start_journal.specs.Journals.{JournalRead, journal_file}
use Rattle.start_journal.specs.Marks.{AreLegalMarks, decides, is_decided, kept_marks}
use Rattle.start_journal.proofs.LifeLemmas.{any_more, any_with}
use Rattle.std.proofs.lemmas.Bool.{eqb-true, or_cases}
use Rattle.whole_file.specs.Removal.{AreFiles}
use Rattle.spool_shows.specs.ByName.{IsJobFile, ShowsByName}
use Rattle.spool_shows.specs.JobFiles.{JobFile}
use Rattle.job_name.specs.JobName.{NamedJob, job_named}
use Rattle.spool_shows.proofs.Membership.{Has, contained, has_contained}
use Rattle.spool_shows.proofs.NameLemmas.{job_name_apart, journal_no_job, temporary_no_job}
use Rattle.spool_shows.proofs.ShownStates.{IsLiveBy}
use Rattle.job_name.proofs.NamedJobs.{name_given, one_job_name}
use Rattle.spool_shows.proofs.StepLaws.{by_name}
use Rattle.spool_shows.proofs.StepMarks.{live_in}
use Rattle.step_runs.specs.Current.{HaveForms, is_new_form}
use Rattle.spool_store.specs.inside.JournalMark.{HaveOneMore, IsDecisionOf, KeepsFiles}
use Rattle.spool_store.specs.Scripts.{IsLiveFileName}
use Rattle.spool_store.specs.OneStep.{needs_room, with_room}
use Rattle.spool_store.proofs.KeptMarks.{kept_decided}
use Rattle.spool_store.proofs.MarkingLemmas.{IsShownWith, reads_as}
use Rattle.spool_store.proofs.RoomLemmas.{shown_with}

-- a number that was drawn was drawn after a step too
pub still_drawn : (table : JobTable) (step : Step) (number : ℕ) → number ≤ table.last → number ≤ (after_step table step).last
still_drawn table step number few = omega (arith, last_rises table.last step)

-- The file of a live job.

-- the name is that of a job of this number, which is not finished; its file exists, and no other has the number
pub record IsItsFile (marks : List Mark) (files : Files) (number : ℕ) (name : List ℕ) : Type 0 where
  pub job : NamedJob
  pub named : job_named name ≡ Some job
  pub number_is : job.number ≡ number
  pub bytes : List ℕ
  pub held : map.get files name ≡ Some bytes
  pub undecided : is_decided number marks ≡ false
  pub alone : (other : JobFile) → IsJobFile marks files other → other.job.number ≡ number → other.name ≡ name

-- a job's file is the one that has the name of it
same_job : (one other : NamedJob) → one.queue ≡ other.queue → one.number ≡ other.number → one.minute ≡ other.minute
    → one.new_form ≡ other.new_form → one ≡ other
same_job one other queue number minute new_form =
    λ i. record { queue = queue i; number = number i; minute = minute i; new_form = new_form i }

-- a live job has its file, in a directory that is shown by name
file_by_name : (old_form : List ℕ) (files : Files) (table : JobTable) (number : ℕ) (name : List ℕ) (shows : ShowsByName files table)
    → HaveForms old_form table.last files → IsLiveFileName table old_form number name → IsItsFile shows.read.marks files number name
file_by_name old_form files table number name shows forms of =
    let marks : List Mark = shows.read.marks in
    let live : IsLiveBy marks files number of.job of.state = live_in files table number of.job of.state shows of.lives in
    let job : NamedJob = record { queue = of.job.queue; number = number; minute = of.job.minute; new_form = is_new_form old_form number } in
    let named : job_named name ≡ Some job = name_given name of.job.queue number of.job.minute (is_new_form old_form number) of.spelled in
    let new_form_is : live.file.job.new_form ≡ is_new_form old_form number =
    forms.each live.file.name live.file.job live.is.named (subst IsSome (sym live.is.held) refl)
    ∙ ap (is_new_form old_form) live.number_is in
    let its_job : live.file.job ≡ job = same_job live.file.job job (ap (λ (j : Job). j.queue) live.job_is) live.number_is
    (ap (λ (j : Job). j.minute) live.job_is) new_form_is in
    let its_name : live.file.name ≡ name = one_job_name live.file.name name job (live.is.named ∙ ap Some its_job) named in
    record {
      job = job;
      named = named;
      number_is = refl;
      bytes = live.file.bytes;
      held = ap (map.get files) (sym its_name) ∙ live.is.held;
      undecided = live.undecided;
      alone = λ other is is_number. shows.sound.once other live.file is live.is (is_number ∙ sym live.number_is) ∙ its_name;
    }

-- and in one that shows the table with the journal
its_file : (old_form : List ℕ) (journal : JournalRead) (table : JobTable) (files : Files) (number : ℕ) (name : List ℕ)
    → IsShownWith journal table files → HaveForms old_form table.last files → IsLiveFileName table old_form number name
    → IsItsFile journal.marks files number name
its_file old_form journal table files number name is forms of =
    subst (λ (read : JournalRead). IsItsFile read.marks files number name) (reads_as journal table files is)
    (file_by_name old_form files table number name (by_name files table is.shows) forms of)

-- the file of the job that is finished
pub decided_file : (old_form : List ℕ) (journal : JournalRead) (directory : Directory) (table : JobTable) (step : Step)
    (mark : Mark) (name : List ℕ) (decision : IsDecisionOf old_form journal directory table step mark name)
    → IsItsFile journal.marks (reading_of directory) decision.number name
decided_file old_form journal directory table step mark name decision =
    its_file old_form journal table (reading_of directory) decision.number name
    (shown_with old_form journal directory table decision.is_mark.current (reading_of directory) (reading_is_image directory))
    decision.is_mark.current.forms decision.file

-- One name alone.

-- a list of it has nothing else
pub only_one : (name other : List ℕ) → Contains (name ∷ []) other → other ≡ name
only_one name other is = by_has (has_contained (name ∷ []) other is) where
  by_has : Has (name ∷ []) other → other ≡ name
  by_has (inl same) = sym same
  by_has (inr none) = absurd none

-- that name is in the list
pub is_the_one : (name : List ℕ) → Contains (name ∷ []) name
is_the_one name = contained (name ∷ []) name (inl refl)

-- and no other is
pub apart_from : (name other : List ℕ) → ¬ (other ≡ name) → ¬ (Contains (name ∷ []) other)
apart_from name other differ is = differ (only_one name other is)

-- it is a file still, once the mark is written
pub decided_held : (old_form : List ℕ) (journal : JournalRead) (first second : Directory) (table : JobTable) (step : Step)
    (mark : Mark) (name : List ℕ) → IsDecisionOf old_form journal first table step mark name → KeepsFiles first second
    → AreFiles (name ∷ []) (reading_of second)
decided_held old_form journal first second table step mark name decision keeps =
    let file : IsItsFile journal.marks (reading_of first) decision.number name =
    decided_file old_form journal first table step mark name decision in
    let held : map.get (reading_of second) name ≡ Some file.bytes =
    keeps name (job_name_apart temporary_file journal_file name file.job temporary_no_job journal_no_job file.named) ∙ file.held in
    record {
      held = λ other is. rw (only_one name other is) (rw held refl);
      different = λ place later other before inside. absurd (omega arith);
    }

-- Marks with one more.

-- a journal to which a mark was added, with room made, has one more
pub one_more : (journal new : JournalRead) (mark : Mark) → new ≡ added (with_room journal) mark → HaveOneMore journal.marks mark new.marks
one_more journal new mark is = by_room (needs_room journal) (ap (λ (read : JournalRead). read.marks) is) where
  by_room : (needs : Bool) → new.marks ≡ (added (if needs then compacted journal else journal) mark).marks
      → HaveOneMore journal.marks mark new.marks
  by_room true more = inr more
  by_room false more = inl more

-- what one more decides is finished
pub decided_by_it : (before after : List Mark) (mark : Mark) (number : ℕ) → HaveOneMore before mark after → decides number mark ≡ true
    → is_decided number after ≡ true
decided_by_it before after mark number (inl more) is = ap (is_decided number) more ∙ any_with (decides number) before mark is
decided_by_it before after mark number (inr kept) is = ap (is_decided number) kept ∙ any_with (decides number) (kept_marks before) mark is

-- what is finished with one more was finished before, or is finished by it
pub decided_before_or_by_it : (before after : List Mark) (mark : Mark) (number : ℕ) → AreLegalMarks before → HaveOneMore before mark after
    → is_decided number after ≡ true → (is_decided number before ≡ true) ⊎ (decides number mark ≡ true)
decided_before_or_by_it before after mark number legal (inl more) is =
    or_cases (is_decided number before) (decides number mark) (sym (any_more (decides number) before mark)
    ∙ sym (ap (is_decided number) more) ∙ is)
decided_before_or_by_it before after mark number legal (inr kept) is =
    elim (or_cases (is_decided number (kept_marks before)) (decides number mark) (sym (any_more (decides number) (kept_marks before) mark)
    ∙ sym (ap (is_decided number) kept) ∙ is)) [
      | inl old ↦ inl (kept_decided before number legal old)
      | inr new ↦ inr new
    ]

-- a mark decides one number
pub one_decided : (mark : Mark) (one other : ℕ) → decides one mark ≡ true → decides other mark ≡ true → one ≡ other
one_decided (Removed number) one other is also = sym (eqb-true number one is) ∙ eqb-true number other also
one_decided (Ended number ending) one other is also = sym (eqb-true number one is) ∙ eqb-true number other also
one_decided (Interrupted number) one other is also = sym (eqb-true number one is) ∙ eqb-true number other also
one_decided _ one other is also = cc
