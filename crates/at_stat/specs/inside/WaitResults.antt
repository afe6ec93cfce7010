-- What the calls of the wait answer (own).
use Rattle.std.specs.Prelude.{List, ℕ, Option, Some, Result, Ok, Err}
use Rattle.at_words.specs.declared.filter.Filter.{Filter}
use Rattle.tool_output.specs.declared.command_error.CommandError.{CommandError}
use Rattle.tool_output.specs.Outside.{Telling}
use Rattle.step_runs.specs.Current.{Kept}
use Rattle.at_stat.specs.declared.session_loop.StatResult.{StatResult}
use Rattle.at_stat.specs.WaitSessions.{ComesAfter, HasSeen, HasStopped, HasWaited, LooksAt, RestsBetween, StopsStatAfter, StopsWaiting, WaitAt}

-- one more session, after a rest
abbrev pub LooksAgain : Telling → List ℕ → Filter → WaitAt → WaitAt → Result Kept CommandError → Type 0
LooksAgain tells user which old new result =
    (rested : WaitAt) × RestsBetween tells old rested × LooksAt tells user which rested new result

-- the wait for these jobs
abbrev pub HasLooked : Telling → List ℕ → ℕ → Filter → List ℕ → Kept → WaitAt → WaitAt → Result StatResult CommandError → Type 0
HasLooked tells user turns which awaited seen start new (Ok sight) =
    HasWaited tells user turns which awaited seen start new sight.store sight.finished
HasLooked tells user turns which awaited seen start new (Err stopped) =
    StopsWaiting tells user turns which awaited seen start new stopped

-- the wait for the jobs that the first session saw
abbrev pub Awaits : Telling → List ℕ → ℕ → Filter → Kept → WaitAt → WaitAt → Result StatResult CommandError → Type 0
Awaits tells user turns which seen start new (Ok sight) =
    ComesAfter tells user (Some turns) which seen start new sight.store sight.finished
Awaits tells user turns which seen start new (Err stopped) = StopsStatAfter tells user (Some turns) which seen start new stopped

-- the sessions
abbrev pub Sees : Telling → List ℕ → Option ℕ → Filter → WaitAt → WaitAt → Result StatResult CommandError → Type 0
Sees tells user wait which old new (Ok sight) = HasSeen tells user wait which old new sight.store sight.finished
Sees tells user wait which old new (Err stopped) = HasStopped tells user wait which old new stopped
