-- What holds of every directory, and of every change that a step of the job table makes to one.
use Rattle.std.specs.Prelude.{◌≡◌, ◌⊎◌, ◌+◌, ◌++◌, [], ◌∷◌, ℕ, Bool, true, List, Some, None, Ok, Err}
use Rattle.std.specs.FinMap as map
use Rattle.host_calls.specs.declared.damage.Damage.{Damage}
use Rattle.host_calls.specs.Directory.{Files}
use Rattle.job_script.specs.HeaderIn.{header_in}
use Rattle.sequence_file.specs.Sequence.{sequence_file}
use Rattle.whole_file.specs.Temporary.{temporary_file}
use Rattle.spool_model.specs.declared.entry.Entry.TheVariants.{Live}
use Rattle.spool_model.specs.declared.job.Job.{Job}
use Rattle.spool_model.specs.declared.state.State.TheVariants.{Pending}
use Rattle.spool_model.specs.declared.step.Step.{Step}
use Rattle.spool_model.specs.declared.step.Step.TheVariants.{Draw, Accept, Remove, Start, End, Interrupt, Forget}
use Rattle.spool_model.specs.JobTable.{IsSound, JobState, JobTable, entry_at}
use Rattle.spool_model.specs.Steps.{IsLegal, after_step, after_steps}
use Rattle.start_journal.specs.declared.mark.Mark.{Mark}
use Rattle.start_journal.specs.declared.mark.Mark.TheVariants as mark
use Rattle.start_journal.specs.Journals.{journal_file, journal_in}
use Rattle.start_journal.specs.Marks.{IsLegalAfter, is_forgotten, kept_marks}
use Rattle.whole_file.specs.Others.{IsEither}
use Rattle.spool_shows.specs.ByName.{ShowsByName}
use Rattle.spool_shows.specs.JobFiles.{counts}
use Rattle.job_name.specs.JobName.{NamedJob, job_named}
use Rattle.sequence_file.specs.LastNumber.{last_in}
use Rattle.spool_shows.specs.Shown.{Shows, shown_by}

-- what a directory shows, and what its names and numbers show, are one
pub record IsShownByName (files : Files) (table : JobTable) : Type 0 where
  pub by_name : Shows files table → ShowsByName files table
  pub shown : ShowsByName files table → Shows files table

-- for every directory and table
abbrev pub DirectoriesAreShownByName : Type 0
DirectoriesAreShownByName = (files : Files) (table : JobTable) → IsShownByName files table

-- a table that a directory shows is sound
abbrev pub ShownTablesAreSound : Type 0
ShownTablesAreSound = (files : Files) (table : JobTable) → Shows files table → IsSound table

-- the script begins with a header of its job's user
abbrev pub HasItsHeader : Job → Type 0
HasItsHeader job = (mail : Bool) × (header_in job.script ≡ Some (job.user, mail))

-- so does the script of each live job of a table that a directory shows
abbrev pub ShownJobsHaveHeaders : Type 0
ShownJobsHaveHeaders = (files : Files) (table : JobTable) (number : ℕ) (job : Job) (state : JobState) → Shows files table →
    entry_at table number ≡ Some (Live job state) → HasItsHeader job

-- the directory shows a damage, or a table that has no entry
abbrev pub ShowsNoEntry : Files → Type 0
ShowsNoEntry files = ((damage : Damage) × (shown_by files ≡ Err damage)) ⊎
    ((table : JobTable) × Shows files table × ((number : ℕ) → entry_at table number ≡ None))

-- so does each directory without a sequence file, whatever else it has
abbrev pub DirectoriesWithoutSequenceShowNoEntry : Type 0
DirectoriesWithoutSequenceShowNoEntry = (files : Files) → map.get files sequence_file ≡ None → ShowsNoEntry files

-- the journal of the directory gives these marks
pub record HasMarks (files : Files) (marks : List Mark) : Type 0 where
  pub last : ℕ
  pub free : ℕ
  pub number : last_in (map.get files sequence_file) ≡ Ok last
  pub journal : journal_in last (map.get files journal_file) ≡ Ok (record { marks = marks; free = free })

-- the directories agree at the sequence file, at the journal, and at the files of jobs that count
pub record AgreeOnJobs (one other : Files) : Type 0 where
  pub sequence : map.get other sequence_file ≡ map.get one sequence_file
  pub journal : map.get other journal_file ≡ map.get one journal_file
  pub jobs : (marks : List Mark) → HasMarks one marks → (name : List ℕ) → counts marks name ≡ true →
      map.get other name ≡ map.get one name

-- other files, among them those of finished numbers, count for nothing
abbrev pub OtherFilesCountForNothing : Type 0
OtherFilesCountForNothing = (one other : Files) → AgreeOnJobs one other → shown_by other ≡ shown_by one

-- at all names but two the files are the same
abbrev pub AgreeElsewhere : List ℕ → List ℕ → Files → Files → Type 0
AgreeElsewhere first second before after =
    (name : List ℕ) → ¬ (IsEither first second name) → map.get after name ≡ map.get before name

-- the next number was drawn
pub record HasDrawn (table : JobTable) (before after : Files) : Type 0 where
  pub number : last_in (map.get after sequence_file) ≡ Ok (table.last + 1)
  pub others : AgreeElsewhere temporary_file sequence_file before after

-- it shows the table after the draw
abbrev pub DrawsAreShown : Type 0
DrawsAreShown = (before after : Files) (table : JobTable) → Shows before table → HasDrawn table before after →
    Shows after (after_step table Draw)

-- the next number was drawn, and the file of the job that has it was placed, under its name in the new form
pub record HasAccepted (table : JobTable) (job : Job) (before after : Files) : Type 0 where
  pub number : last_in (map.get after sequence_file) ≡ Ok (table.last + 1)
  pub name : List ℕ
  pub named : job_named name ≡ Some (record { queue = job.queue; number = table.last + 1; minute = job.minute; new_form = true })
  pub mail : Bool
  pub header : header_in job.script ≡ Some (job.user, mail)
  pub placed : map.get after name ≡ Some job.script
  pub others : (other : List ℕ) → ¬ (IsEither temporary_file sequence_file other) → ¬ (other ≡ name) →
      map.get after other ≡ map.get before other

-- it shows the table after the draw and the accept
abbrev pub AcceptsAreShown : Type 0
AcceptsAreShown = (before after : Files) (table : JobTable) (job : Job) → Shows before table →
    HasAccepted table job before after →
    Shows after (after_steps table (Draw ∷ Accept (table.last + 1) job ∷ []))

-- the mark that a step on a table adds to the journal
abbrev pub AddsMark : JobTable → Step → Mark → Type 0
AddsMark table (Remove number) added = added ≡ mark.Removed number
AddsMark table (Start number second) added =
    (job : Job) × (entry_at table number ≡ Some (Live job Pending)) × (added ≡ mark.Started number job.queue second)
AddsMark table (End number ending) added = added ≡ mark.Ended number ending
AddsMark table (Interrupt number) added = added ≡ mark.Interrupted number
AddsMark table (Forget number) added = added ≡ mark.Forgotten number
AddsMark table _ added = ⊥

-- one mark was added to the journal
pub record HasMarked (table : JobTable) (added : Mark) (before after : Files) : Type 0 where
  pub marks : List Mark
  pub free : ℕ
  pub had : HasMarks before marks
  pub journal : journal_in table.last (map.get after journal_file) ≡ Ok (record { marks = marks ++ added ∷ []; free = free })
  pub others : AgreeElsewhere temporary_file journal_file before after

-- it shows the table after the step of that mark
abbrev pub MarksAreShown : Type 0
MarksAreShown = (before after : Files) (table : JobTable) (step : Step) (added : Mark) → Shows before table →
    IsLegal table step → AddsMark table step added → HasMarked table added before after →
    Shows after (after_step table step)

-- a step that is legal on the table adds a mark that is legal after those of the journal
abbrev pub LegalStepsAddLegalMarks : Type 0
LegalStepsAddLegalMarks = (files : Files) (table : JobTable) (step : Step) (added : Mark) (marks : List Mark) →
    Shows files table → HasMarks files marks → IsLegal table step → AddsMark table step added →
    IsLegalAfter marks added

-- no file of a job has a number that is forgotten
abbrev pub HasNoForgotten : List Mark → Files → Type 0
HasNoForgotten marks files = (name : List ℕ) (job : NamedJob) → job_named name ≡ Some job →
    is_forgotten job.number marks ≡ true → map.get files name ≡ None

-- the journal was compacted
pub record HasCompacted (table : JobTable) (before after : Files) : Type 0 where
  pub marks : List Mark
  pub free : ℕ
  pub had : HasMarks before marks
  pub none : HasNoForgotten marks before
  pub journal : journal_in table.last (map.get after journal_file) ≡ Ok (record { marks = kept_marks marks; free = free })
  pub others : AgreeElsewhere temporary_file journal_file before after

-- it shows the same table
abbrev pub CompactionsAreShown : Type 0
CompactionsAreShown = (before after : Files) (table : JobTable) → Shows before table → HasCompacted table before after →
    Shows after table

-- the journal was written anew, with the same marks
pub record HasRewritten (table : JobTable) (before after : Files) : Type 0 where
  pub marks : List Mark
  pub free : ℕ
  pub had : HasMarks before marks
  pub journal : journal_in table.last (map.get after journal_file) ≡ Ok (record { marks = marks; free = free })
  pub others : AgreeElsewhere temporary_file journal_file before after

-- it shows the same table
abbrev pub RewritesAreShown : Type 0
RewritesAreShown = (before after : Files) (table : JobTable) → Shows before table → HasRewritten table before after →
    Shows after table
