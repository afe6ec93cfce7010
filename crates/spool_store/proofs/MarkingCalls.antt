-- Which files calls leave alone, and how far steps were made.
use Rattle.std.proofs.Common.{ℕ, List, [], ◌∷◌, ◌∙◌, refl, inl, inr}
use Rattle.host_calls.specs.Directory.{Files, Directory, IsImage}
use Rattle.whole_file.specs.Temporary.{temporary_file}
use Rattle.spool_model.specs.declared.step.Step.{Step}
use Rattle.spool_model.specs.JobTable.{JobTable}
use Rattle.spool_model.specs.Steps.{IsPrefix, after_step}
use Rattle.start_journal.specs.Journals.{journal_file}
use Rattle.whole_file.specs.Others.{IsEither, LeavesOthers}
use Rattle.step_runs.specs.Calls.{IsSteppingOn}
use Rattle.step_runs.specs.Current.{EachShows, IsSpoolName}
use Rattle.spool_shows.specs.Shown.{Shows}
use Rattle.whole_file.proofs.ChangesJoined.{left_alone}

-- Names of the spool.

-- the journal and a file that is being made are files of the spool
pub journal_is_spool : (name : List ℕ) → IsEither temporary_file journal_file name → IsSpoolName name
journal_is_spool name (inl is) = inr (inr (inl is))
journal_is_spool name (inr is) = inr (inl is)

-- what is left alone by way of a middle directory, whose images leave others alone too
pub leaves_through : (may_change : List ℕ → Type 0) (start middle : Directory) (image : Files)
    → ((name : List ℕ) → may_change name → IsSpoolName name) → ((from : Files) → IsImage middle from → LeavesOthers IsSpoolName start from)
    → LeavesOthers may_change middle image → LeavesOthers IsSpoolName start image
leaves_through may_change start middle image spool through alone =
    let before : LeavesOthers IsSpoolName start alone.from = through alone.from alone.was in
    record {
      from = before.from;
      was = before.was;
      others = λ name other. alone.others name (λ may. other (spool name may)) ∙ before.others name other;
    }

-- Steps that were made so far.

-- no step is at the start of any steps
pub stepping_none : (table : JobTable) (steps : List Step) (start : Directory) (image : Files) → Shows image table
    → LeavesOthers IsSpoolName start image → IsSteppingOn table steps start image
stepping_none table steps start image shows others = record { prefix = []; is_prefix = (steps, refl); shows = shows; others = others }

-- at the start none was made
pub stepping_start : (table : JobTable) (steps : List Step) (start : Directory) → EachShows start table → (image : Files)
    → IsImage start image → IsSteppingOn table steps start image
stepping_start table steps start shows image is =
    stepping_none table steps start image (shows image is) (left_alone IsSpoolName start image is)

-- what is at the start of no steps is at the start of any
prefix_of_none : (prefix steps : List Step) → IsPrefix prefix [] → IsPrefix prefix steps
prefix_of_none [] steps (after, is) = (steps, refl)
prefix_of_none (step ∷ later) steps (after, is) = cc

-- where no step was made, none of more was
pub stepping_more : (table : JobTable) (steps : List Step) (start : Directory) (image : Files) → IsSteppingOn table [] start image
    → IsSteppingOn table steps start image
stepping_more table steps start image stepping = record {
  prefix = stepping.prefix;
  is_prefix = prefix_of_none stepping.prefix steps stepping.is_prefix;
  shows = stepping.shows;
  others = stepping.others;
}

-- the one step was made
pub stepping_one : (table : JobTable) (step : Step) (start : Directory) (image : Files) → Shows image (after_step table step)
    → LeavesOthers IsSpoolName start image → IsSteppingOn table (step ∷ []) start image
stepping_one table step start image shows others = record { prefix = step ∷ []; is_prefix = ([], refl); shows = shows; others = others }
