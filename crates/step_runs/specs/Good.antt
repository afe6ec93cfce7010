-- Good directories (own): each of their images shows a table, and none a damage. Whatever comes of a recovery, of a call of
-- the store or of an attempt at steps, a good directory stays good, at each moment.
use Rattle.std.specs.Prelude.{List}
use Rattle.host_calls.specs.Directory.{Files, Directory, IsImage}
use Rattle.host_calls.specs.World.{HasEachImage, LeavesOnly, World}
use Rattle.spool_model.specs.declared.step.Step.{Step}
use Rattle.spool_model.specs.JobTable.{JobTable}
use Rattle.spool_shows.specs.Shown.{Shows}
use Rattle.whole_file.specs.Others.{ChangesFiles}
use Rattle.step_runs.specs.Attempts.{IsBegun, IsUnbegun}
use Rattle.step_runs.specs.Calls.{IsSteppingOn, ShowsAsBefore}
use Rattle.step_runs.specs.Current.{EachShows}
use Rattle.step_runs.specs.Runs.{Runs}

-- the image shows a table
abbrev pub IsGood : Files → Type 0
IsGood image = (table : JobTable) × Shows image table

-- each image of the directory does
abbrev pub IsGoodDirectory : Directory → Type 0
IsGoodDirectory directory = (image : Files) → IsImage directory image → IsGood image

-- so does each image of each moment, and each that the end leaves
pub record KeepsGood (old new : World) : Type 0 where
  pub leaves : LeavesOnly (λ image handed. IsGood image) old new
  pub now : HasEachImage (λ image handed. IsGood image) new.now

-- a recovery leaves a good directory good
abbrev pub RecoveriesKeepGood : Type 0
RecoveriesKeepGood = (old new : World) → IsGoodDirectory old.now.directory → ChangesFiles (ShowsAsBefore old.now.directory) old new →
    KeepsGood old new

-- so does a call of the store, whatever its answer, where each image shows the table that its steps are made on
abbrev pub StoreCallsKeepGood : Type 0
StoreCallsKeepGood = (table : JobTable) (steps : List Step) (old new : World) → EachShows old.now.directory table →
    ChangesFiles (IsSteppingOn table steps old.now.directory) old new → KeepsGood old new

-- so does a run of steps, with what it starts
abbrev pub RunsKeepGood : Type 0
RunsKeepGood = (table : JobTable) (steps : List Step) (old new : World) → IsGoodDirectory old.now.directory →
    Runs table steps old new → KeepsGood old new

-- so does an attempt at steps, as a command or a turn makes it: one that began none of them
abbrev pub UnbegunAttemptsKeepGood : Type 0
UnbegunAttemptsKeepGood = (old new : World) → IsGoodDirectory old.now.directory → IsUnbegun old new → KeepsGood old new

-- and one that began some, or made all
abbrev pub BegunAttemptsKeepGood : Type 0
BegunAttemptsKeepGood = (table : JobTable) (steps : List Step) (old new : World) → IsGoodDirectory old.now.directory →
    IsBegun table steps old new → KeepsGood old new
