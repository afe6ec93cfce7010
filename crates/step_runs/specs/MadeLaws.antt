-- How calls that make steps join, and how a recovery and they are an attempt.
use Rattle.std.specs.Prelude.{◌≡◌, ◌++◌, [], ◌∷◌, ℕ, ℤ, List, Option, Result, Ok}
use Rattle.host_calls.specs.declared.child.Asked.{Asked}
use Rattle.host_calls.specs.declared.child.Child.{Child}
use Rattle.host_calls.specs.declared.child.Ending.{Ending}
use Rattle.host_calls.specs.declared.child.Handed.{Handed}
use Rattle.host_calls.specs.declared.fault.StartFault.{StartFault}
use Rattle.host_calls.specs.World.{Asks, StartCall, World, reading}
use Rattle.spool_model.specs.declared.step.Step.{Step}
use Rattle.spool_model.specs.declared.step.Step.TheVariants.{Start}
use Rattle.spool_model.specs.JobTable.{JobTable}
use Rattle.spool_model.specs.Steps.{AreLegal, IsLegal, after_step, after_steps}
use Rattle.spool_shows.specs.Shown.{shown_by}
use Rattle.whole_file.specs.Others.{ChangesFiles}
use Rattle.step_runs.specs.Attempts.{IsAchieved, IsBegun}
use Rattle.step_runs.specs.Calls.{IsSteppingOn, KeepsOthers, ShowsAsBefore}
use Rattle.step_runs.specs.Current.{EachShows, IsCurrent, Kept}
use Rattle.step_runs.specs.Hands.{StartNothing}
use Rattle.step_runs.specs.Made.{AreCutOff, AreMade, AreStopped, IsScriptFile, StartEnds}

-- where what is kept is current, no steps were made
abbrev pub NoStepsAreMade : Type 0
NoStepsAreMade = (table : JobTable) (kept : Kept) (world : World) → IsCurrent kept world.now.directory table →
    AreMade table [] [] [] kept world world

-- steps that were made, and those that were made after them, are made
abbrev pub StepsAreMadeAfter : Type 0
StepsAreMadeAfter = (table : JobTable) (first later : List Step) (given more : List Handed) (questions others : List Asked)
    (kept last : Kept) (start middle end : World) →
    AreMade table first given questions kept start middle → AreMade (after_steps table first) later more others last middle end →
    AreMade table (first ++ later) (given ++ more) (questions ++ others) last start end

-- steps that were stopped after those that were made are stopped
abbrev pub StepsAreStoppedAfter : Type 0
StepsAreStoppedAfter = (table : JobTable) (first later next : List Step) (given more : List Handed) (questions others : List Asked)
    (kept : Kept) (start middle end : World) →
    AreMade table first given questions kept start middle → AreStopped (after_steps table first) later next more others middle end →
    AreStopped table (first ++ later) next (given ++ more) (questions ++ others) start end

-- steps that were made are stopped too, with none after them
abbrev pub MadeStepsAreStopped : Type 0
MadeStepsAreStopped = (table : JobTable) (steps : List Step) (given : List Handed) (questions : List Asked) (kept : Kept)
    (old new : World) →
    AreMade table steps given questions kept old new → AreStopped table steps [] given questions old new

-- steps that were cut off after those that were made are cut off
abbrev pub StepsAreCutOffAfter : Type 0
StepsAreCutOffAfter = (table : JobTable) (first later next : List Step) (given : List Handed) (questions : List Asked)
    (kept : Kept) (start middle end : World) →
    AreMade table first given questions kept start middle → AreCutOff (after_steps table first) later next middle end →
    AreCutOff table (first ++ later) next start end

-- a call of the store that hands a current one back has made its steps, where they start nothing
abbrev pub CallsMakeTheirSteps : Type 0
CallsMakeTheirSteps = (table : JobTable) (steps : List Step) (kept : Kept) (old new : World) → AreLegal table steps →
    StartNothing steps → EachShows old.now.directory table → ChangesFiles (IsSteppingOn table steps old.now.directory) old new →
    IsCurrent kept new.now.directory (after_steps table steps) → KeepsOthers old.now.directory new.now.directory →
    AreMade table steps [] [] kept old new

-- a call of the store for one step, whatever comes of it, is stopped at that step
abbrev pub CallsStopAtTheirStep : Type 0
CallsStopAtTheirStep = (table : JobTable) (step : Step) (old new : World) → IsLegal table step →
    EachShows old.now.directory table → ChangesFiles (IsSteppingOn table (step ∷ []) old.now.directory) old new →
    AreStopped table [] (step ∷ []) [] [] old new

-- a call of the store for any steps that start nothing, whatever comes of it, is cut off at them
abbrev pub CallsAreCutOff : Type 0
CallsAreCutOff = (table : JobTable) (steps : List Step) (old new : World) → AreLegal table steps → StartNothing steps →
    EachShows old.now.directory table → ChangesFiles (IsSteppingOn table steps old.now.directory) old new →
    AreCutOff table [] steps old new

-- a start that the store made, and the call of the host after it to which its script is given
abbrev pub StartsEnd : Type 0
StartsEnd = (table : JobTable) (number : ℕ) (second : ℤ) (name : List ℕ) (nice : ℕ) (kept : Kept) (old middle new : World)
    (result : Result Child StartFault) → IsLegal table (Start number second) → EachShows old.now.directory table →
    ChangesFiles (IsSteppingOn table (Start number second ∷ []) old.now.directory) old middle →
    IsCurrent kept middle.now.directory (after_step table (Start number second)) → KeepsOthers old.now.directory middle.now.directory →
    IsScriptFile (after_step table (Start number second)) (reading middle) number name nice →
    StartCall number name nice middle new result → StartEnds table number second kept old new result

-- a question to a child, and its answer, make no step
abbrev pub QuestionsMakeNoStep : Type 0
QuestionsMakeNoStep = (table : JobTable) (kept : Kept) (child : Child) (answer : Option Ending) (old new : World) →
    IsCurrent kept old.now.directory table → Asks child old new (Ok answer) →
    AreMade table [] [] (record { child = child; answer = answer } ∷ []) kept old new

-- steps that were made after a recovery are achieved
abbrev pub MadeStepsAreAchieved : Type 0
MadeStepsAreAchieved = (table : JobTable) (steps : List Step) (given : List Handed) (questions : List Asked) (kept : Kept)
    (start middle end : World) → shown_by (reading start) ≡ Ok table →
    ChangesFiles (ShowsAsBefore start.now.directory) start middle →
    KeepsOthers start.now.directory middle.now.directory → AreMade table steps given questions kept middle end →
    IsAchieved table steps start end

-- steps that were stopped after a recovery are begun, with the next one
abbrev pub StoppedStepsAreBegun : Type 0
StoppedStepsAreBegun = (table : JobTable) (steps next : List Step) (given : List Handed) (questions : List Asked)
    (start middle end : World) → shown_by (reading start) ≡ Ok table →
    ChangesFiles (ShowsAsBefore start.now.directory) start middle →
    AreStopped table steps next given questions middle end → IsBegun table (steps ++ next) start end
