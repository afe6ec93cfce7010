-- What the entry of a number says of its marks and of its file, and when a directory stays sound.
use Rattle.std.proofs.Common.{◌≡◌, ℕ, ℤ, Bool, true, false, List, Option, Some, None, sym, ap, ◌∙◌, refl}
use Rattle.std.specs.Prelude.{Contains, MatchBool}
use Rattle.host_calls.specs.Directory.{Files}
use Rattle.spool_model.specs.declared.entry.Entry.TheVariants.{Live, Done}
use Rattle.spool_model.specs.declared.fate.Fate.{Fate}
use Rattle.spool_model.specs.declared.job.Job.{Job}
use Rattle.spool_model.specs.declared.state.State.TheVariants.{Pending, Running}
use Rattle.spool_model.specs.JobTable.{JobEntry, JobState}
use Rattle.start_journal.specs.declared.mark.Mark.{Mark}
use Rattle.start_journal.specs.declared.mark.Mark.TheVariants.{Started}
use Rattle.start_journal.specs.Marks.{is_decided, is_forgotten, started_at}
use Rattle.spool_shows.specs.ByName.{AreSound, HasFile, IsJobFile, ShowsDone, ShowsEntry, ShowsLive}
use Rattle.spool_shows.specs.JobFiles.{JobFile}
use Rattle.spool_shows.specs.Shown.{job_of, state_since}
use Rattle.spool_shows.proofs.MarkTests.{TellSame}
use Rattle.spool_shows.proofs.ShownEntries.{LeavesEntry, SameJobs, done_moves, entry_left, file_moves, live_moves, shows_done, shows_live}

-- where the marks of the number and the files of jobs are the same, its entry is
pub entry_moves : (number : ℕ) (marks later : List Mark) (one other : Files) (entry : Option JobEntry) → SameJobs one other
    → TellSame number marks later → ShowsEntry marks one number entry → ShowsEntry later other number entry
entry_moves number marks later one other entry files same shows = by_test (is_decided number marks) refl shows where
  by_test : (decided : Bool) → is_decided number marks ≡ decided
      → MatchBool decided (ShowsDone marks number entry) (ShowsLive marks one number entry) → ShowsEntry later other number entry
  by_test true is done = shows_done later other number entry (same.decided ∙ is) (done_moves number marks later entry same done)
  by_test false is live =
      shows_live later other number entry (same.decided ∙ is) (live_moves number marks later one other entry files same is live)

-- the number is not finished, and its file shows this job in this state
pub record IsLiveBy (marks : List Mark) (files : Files) (number : ℕ) (job : Job) (state : JobState) : Type 0 where
  pub undecided : is_decided number marks ≡ false
  pub file : JobFile
  pub is : IsJobFile marks files file
  pub number_is : file.job.number ≡ number
  pub job_is : job_of file ≡ job
  pub state_is : state_since (started_at number marks) ≡ state

live_parts : (job other : Job) (state since : JobState) → Live job state ≡ Live other since → (job ≡ other) × (state ≡ since)
live_parts job other state since same = (cc, cc)

-- the entry of a live job says this
pub live_known : (marks : List Mark) (files : Files) (number : ℕ) (job : Job) (state : JobState)
    → ShowsEntry marks files number (Some (Live job state)) → IsLiveBy marks files number job state
live_known marks files number job state shows = by_test (is_decided number marks) refl shows where
  by_test : (decided : Bool) → is_decided number marks ≡ decided → MatchBool decided (ShowsDone marks number (Some (Live job state)))
      (ShowsLive marks files number (Some (Live job state))) → IsLiveBy marks files number job state
  by_test true is (mark, there, leaves) =
      let left : LeavesEntry marks number (Live job state) mark = entry_left marks number (Live job state) mark leaves in
      let impossible : Live job state ≡ Done left.done.0 = left.done.1 in
      cc
  by_test false is (file, there, shown) =
      let number_is : file.job.number ≡ number = ap (λ (row : ℕ × JobEntry). row.0) shown in
      let parts = live_parts _ _ _ _ (ap (λ (row : ℕ × JobEntry). row.1) shown) in
      record {
        undecided = is;
        file = file;
        is = there;
        number_is = number_is;
        job_is = parts.0;
        state_is = ap (λ n. state_since (started_at n marks)) (sym number_is) ∙ parts.1;
      }

-- the number is finished, and not forgotten
pub record IsDoneBy (marks : List Mark) (number : ℕ) : Type 0 where
  pub decided : is_decided number marks ≡ true
  pub remembered : is_forgotten number marks ≡ false

-- the entry of a job that is done says this
pub done_known : (marks : List Mark) (files : Files) (number : ℕ) (fate : Fate)
    → ShowsEntry marks files number (Some (Done fate)) → IsDoneBy marks number
done_known marks files number fate shows = by_test (is_decided number marks) refl shows where
  by_test : (decided : Bool) → is_decided number marks ≡ decided → MatchBool decided (ShowsDone marks number (Some (Done fate)))
      (ShowsLive marks files number (Some (Done fate))) → IsDoneBy marks number
  by_test true is (mark, there, leaves) = record { decided = is; remembered = (entry_left marks number (Done fate) mark leaves).remembered }
  by_test false is (file, there, shown) =
      let impossible : Live (job_of file) (state_since (started_at file.job.number marks)) ≡ Done fate =
      ap (λ (row : ℕ × JobEntry). row.1) shown in
      cc

-- what a state says of the start
pub not_started : (since : Option ℤ) → state_since since ≡ Pending → since ≡ None
not_started None is = refl
not_started (Some second) is = cc

pub started_then : (since : Option ℤ) (second : ℤ) → state_since since ≡ Running second → since ≡ Some second
started_then None second is = cc
started_then (Some other) second is = cc

-- Soundness.

-- a file that the later marks leave undecided was one before, and a start that they leave undecided had a file
pub record KeepsSound (marks later : List Mark) (one other : Files) : Type 0 where
  pub files : SameJobs one other
  pub back : (file : JobFile) → IsJobFile later other file → IsJobFile marks one file
  pub started : (number queue : ℕ) (second : ℤ) → Contains later (Started number queue second) → is_decided number later ≡ false
      → HasFile marks one number queue

-- then the directory is as sound as before
pub sound_moves : (last : ℕ) (marks later : List Mark) (one other : Files) → KeepsSound marks later one other → AreSound last marks one
    → AreSound last later other
sound_moves last marks later one other keeps sound = record {
  each = λ file is. sound.each file (keeps.back file is);
  once = λ first second is also same. sound.once first second (keeps.back first is) (keeps.back second also) same;
  started = λ number queue second there undecided. has_file number queue undecided (keeps.started number queue second there undecided);
} where
  has_file : (number queue : ℕ) → is_decided number later ≡ false → HasFile marks one number queue → HasFile later other number queue
  has_file number queue undecided had = record {
    file = had.file;
    is = file_moves marks later one other keeps.files had.file had.is (ap (λ n. is_decided n later) had.number_is ∙ undecided);
    number_is = had.number_is;
    queue_is = had.queue_is;
  }
