-- Jobs that are submitted one after another.
use Rattle.std.proofs.Common.{◌≡◌, ◌∙◌, ◌≤◌, ◌+◌, ℕ, List, [], ◌∷◌, ◌++◌, length, refl, sym, ap, subst, arith}
use Rattle.std.specs.Prelude.{suc, zero}
use Rattle.host_calls.specs.Directory.{Files, Directory, IsImage}
use Rattle.host_calls.specs.World.{World}
use Rattle.spool_model.specs.declared.job.Job.{Job}
use Rattle.spool_model.specs.declared.number.TheConstants.{LAST_NUMBER}
use Rattle.spool_model.specs.declared.step.Step.{Step}
use Rattle.spool_model.specs.declared.step.Step.TheVariants.{Draw, Accept}
use Rattle.spool_model.specs.JobTable.{IsSound, JobTable}
use Rattle.spool_model.specs.Steps.{AreLegal, IsPrefix, after_steps, submission}
use Rattle.spool_model.proofs.StepLemmas.{steps_keep_the_table_sound}
use Rattle.spool_shows.specs.Shown.{Shows}
use Rattle.spool_store.proofs.SubmitStored.{submission_legal}
use Rattle.step_runs.specs.Calls.{IsSteppingOn, KeepsOthers}
use Rattle.step_runs.specs.Current.{EachShows, IsCurrent, IsSpoolName, Kept}
use Rattle.step_runs.specs.Made.{ShowsAfterPrefix}
use Rattle.step_runs.proofs.HandsLemmas.{prefix_after, prefix_longer, steps_then}
use Rattle.step_runs.proofs.RunLemmas.{others_then}
use Rattle.whole_file.specs.Others.{ChangesFiles}
use Rattle.whole_file.proofs.ChangesJoined.{changes_end, changes_on, left_alone}
use Rattle.whole_file.proofs.OthersLemmas.{changes_none}
use Rattle.cron_session.specs.Steps.{next_numbers, submissions}

-- Steps and numbers of jobs, one after another.

-- the last number after the jobs
pub last_after : (table : JobTable) (jobs : List Job) → (after_steps table (submissions table.last jobs)).last ≡ table.last + length jobs
last_after table [] = let none : table.last ≡ table.last + 0 = omega arith in none
last_after table (job ∷ later) =
    let after : (after_steps table (submissions table.last (job ∷ later))).last ≡ (table.last + 1) + length later =
    last_after (after_steps table (submission table job)) later in
    let same : (table.last + 1) + length later ≡ table.last + suc (length later) = omega arith in
    after ∙ same

pub submissions-append : (last : ℕ) (first later : List Job)
    → submissions last (first ++ later) ≡ submissions last first ++ submissions (last + length first) later
submissions-append last [] later = let none : last ≡ last + 0 = omega arith in ap (λ (number : ℕ). submissions number later) none
submissions-append last (job ∷ first) later =
    let same : (last + 1) + length first ≡ last + suc (length first) = omega arith in
    ap (λ (steps : List Step). Draw ∷ Accept (last + 1) job ∷ steps)
    (submissions-append (last + 1) first later
    ∙ ap (λ (number : ℕ). submissions (last + 1) first ++ submissions number later) same)

pub numbers_after-push : (last count : ℕ) → next_numbers last (suc count) ≡ next_numbers last count ++ (last + (count + 1)) ∷ []
numbers_after-push last zero = let one : last + 1 ≡ last + (0 + 1) = omega arith in ap (λ (number : ℕ). number ∷ []) one
numbers_after-push last (suc count) =
    let same : (last + 1) + (count + 1) ≡ last + (suc count + 1) = omega arith in
    ap (λ (numbers : List ℕ). (last + 1) ∷ numbers)
    (numbers_after-push (last + 1) count
    ∙ ap (λ (number : ℕ). next_numbers (last + 1) count ++ number ∷ []) same)

-- the steps are legal where there is a number for each job
pub submissions_legal : (table : JobTable) (jobs : List Job) → IsSound table → table.last + length jobs ≤ LAST_NUMBER
    → AreLegal table (submissions table.last jobs)
submissions_legal table [] sound few = tt
submissions_legal table (job ∷ later) sound few =
    let many : table.last + suc (length later) ≤ LAST_NUMBER = few in
    let one : AreLegal table (submission table job) = submission_legal table job sound (omega (arith, many)) in
    let after : JobTable = after_steps table (submission table job) in
    let others : AreLegal after (submissions after.last later) =
    submissions_legal after later (steps_keep_the_table_sound table (submission table job) sound one) (omega (arith, many)) in
    (one.0, (one.1.0, others))

-- What the first jobs leave.

pub record SoFar (table : JobTable) (jobs first : List Job) (store : Kept) (old here : World) : Type 0 where
  pub files : ChangesFiles (IsSteppingOn table (submissions table.last jobs) old.now.directory) old here
  pub current : IsCurrent store here.now.directory (after_steps table (submissions table.last first))
  pub others : KeepsOthers old.now.directory here.now.directory

-- an image of the start is on the way of any steps
holds : (table : JobTable) (steps : List Step) (start : Directory) → EachShows start table → (image : Files) → IsImage start image
    → IsSteppingOn table steps start image
holds table steps start shows image is = record {
  prefix = [];
  is_prefix = (steps, refl);
  shows = shows image is;
  others = left_alone IsSpoolName start image is;
}

-- no job was submitted yet
pub none_so_far : (table : JobTable) (jobs : List Job) (kept : Kept) (old : World) → IsCurrent kept old.now.directory table
    → SoFar table jobs [] kept old old
none_so_far table jobs kept old current = record {
  files = changes_none (IsSteppingOn table (submissions table.last jobs) old.now.directory) old;
  current = current;
  others = λ name other. refl;
}

module _ (table : JobTable) (jobs first : List Job) (job : Job) (later : List Job) (are : jobs ≡ first ++ job ∷ later)
    (kept store : Kept) (old here : World)
    (was : IsCurrent kept old.now.directory table) (so_far : SoFar table jobs first store old here) where
  abbrev all : List Step
  all = submissions table.last jobs

  abbrev before : List Step
  before = submissions table.last first

  abbrev pub middle : JobTable
  middle = after_steps table before

  abbrev one : List Step
  one = submission middle job

  one_is : one ≡ submissions (table.last + length first) (job ∷ [])
  one_is = ap (λ (number : ℕ). Draw ∷ Accept (number + 1) job ∷ []) (last_after table first)

  abbrev rest : List Step
  rest = submissions (table.last + length first + 1) later

  all_are : all ≡ before ++ (one ++ rest)
  all_are =
      ap (submissions table.last) are ∙ submissions-append table.last first (job ∷ later)
      ∙ ap (λ (number : ℕ). before ++ Draw ∷ Accept (number + 1) job ∷ rest) (sym (last_after table first))

  -- an image on the way of the next job's steps
  along : (image : Files) → IsSteppingOn middle one here.now.directory image → IsSteppingOn table all old.now.directory image
  along image is = record {
    prefix = before ++ is.prefix;
    is_prefix = subst (IsPrefix (before ++ is.prefix)) (sym all_are)
        (prefix_after before is.prefix (one ++ rest) (prefix_longer is.prefix one rest is.is_prefix));
    shows = subst (Shows image) (sym (steps_then table before is.prefix)) is.shows;
    others = others_then old.now.directory here.now.directory image (λ from at.
        (changes_end (IsSteppingOn table all old.now.directory) old here so_far.files (holds table all old.now.directory was.shows)
        from at).others) is.others;
  }

  module _ (new : World) (call : ChangesFiles (IsSteppingOn middle one here.now.directory) here new) where
    -- whatever came of the next job
    pub files_then : ChangesFiles (IsSteppingOn table all old.now.directory) old new
    files_then =
        changes_on (IsSteppingOn table all old.now.directory) (IsSteppingOn middle one here.now.directory)
        (IsSteppingOn table all old.now.directory)
        old here new (λ image is. is) along so_far.files call

    -- it was stopped there
    pub stopped_there : (image : Files) → IsImage new.now.directory image
        → ShowsAfterPrefix table before (submissions (table.last + length first) (job ∷ [])) image
    stopped_there image is =
        let at = changes_end (IsSteppingOn middle one here.now.directory) here new call
        (holds middle one here.now.directory so_far.current.shows) image is in
        record {
          prefix = at.prefix;
          is_prefix = subst (IsPrefix at.prefix) one_is at.is_prefix;
          shows = subst (Shows image) (sym (steps_then table before at.prefix)) at.shows;
        }

    -- it was submitted
    pub one_more : (next : Kept) → IsCurrent next new.now.directory (after_steps middle one)
        → KeepsOthers here.now.directory new.now.directory → SoFar table jobs (first ++ job ∷ []) next old new
    one_more next current others = record {
      files = files_then;
      current = subst (IsCurrent next new.now.directory)
          (ap (after_steps middle) one_is ∙ sym (steps_then table before (submissions (table.last + length first) (job ∷ [])))
          ∙ ap (after_steps table) (sym (submissions-append table.last first (job ∷ [])))) current;
      others = λ name other. others name other ∙ so_far.others name other;
    }
