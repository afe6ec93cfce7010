-- Sessions one after another, until no awaited job lives (own). Between two of them there is a rest, and no session is on.
use Rattle.std.specs.Prelude.{◌≡◌, ◌⊎◌, ◌+◌, ◌≤◌, ℕ, Bool, true, false, not, List, Option, Some, None, Result, Ok, Err}
use Rattle.at_words.specs.declared.filter.Filter.{Filter}
use Rattle.tool_output.specs.Causes.{error_of}
use Rattle.tool_output.specs.declared.command_error.CommandError.{CommandError}
use Rattle.tool_output.specs.Outside.{ClockAt, Rests, Telling, telling}
use Rattle.host_calls.specs.Clock.{Answers, Readers}
use Rattle.host_calls.specs.Session.{Session}
use Rattle.host_calls.specs.World.{World}
use Rattle.listing_text.specs.declared.cause.Cause.TheVariants.{Memory}
use Rattle.step_runs.specs.Current.{Kept}
use Rattle.at_stat.specs.Checks.{awaited_numbers, has_live}
use Rattle.at_stat.specs.declared.session_loop.TheConstants.{REST}
use Rattle.at_stat.specs.OneLook.{LooksAtJobs, SpoolAt, stat_spool_at}

-- the spool and the readings, at a moment
pub record WaitAt : Type 0 where
  pub spool : SpoolAt
  pub clock : ClockAt

abbrev pub wait_at : Session → World → Answers → Readers → WaitAt
wait_at session world answers readers =
    record { spool = stat_spool_at session world; clock = record { answers = answers; readers = readers } }

-- which of them tell what they hold: of what a program is handed the waits have a host and readings alone
abbrev pub wait_telling : Bool → Bool → Bool → Telling
wait_telling files alone clock = telling files alone clock false false false

-- a session, in which no reading is requested
pub record LooksAt (tells : Telling) (user : List ℕ) (which : Filter) (old new : WaitAt)
    (result : Result Kept CommandError) : Type 0 where
  pub spool : LooksAtJobs tells.files tells.alone user which old.spool new.spool result
  pub clock : new.clock ≡ old.clock

-- a rest between two sessions, which changes nothing else
pub record RestsBetween (tells : Telling) (old new : WaitAt) : Type 0 where
  pub clock : Rests tells.clock REST old.clock new.clock
  pub spool : new.spool ≡ old.spool

-- So many sessions more, each while one of the jobs lives by what the session before it saw.
pub data Waits (tells : Telling) (user : List ℕ) (which : Filter) (awaited : List ℕ) (start : WaitAt) (seen : Kept)
    : ℕ → Kept → WaitAt → Type 0 where
  no_more : Waits tells user which awaited start seen 0 seen start
  once_more : (count : ℕ) (kept later : Kept) (before rested after : WaitAt)
      → Waits tells user which awaited start seen count kept before
      → has_live kept.table awaited ≡ true
      → RestsBetween tells before rested
      → LooksAt tells user which rested after (Ok later)
      → Waits tells user which awaited start seen (count + 1) later after

-- All sessions were made after the first: no awaited job lives by what the last one saw, or the turns are used up.
pub record HasWaited (tells : Telling) (user : List ℕ) (turns : ℕ) (which : Filter) (awaited : List ℕ) (seen : Kept)
    (start new : WaitAt) (kept : Kept) (finished : Bool) : Type 0 where
  pub count : ℕ
  pub waits : Waits tells user which awaited start seen count kept new
  pub few : count + 1 ≤ turns
  pub finished_is : finished ≡ not (has_live kept.table awaited)
  pub used_up : finished ≡ false → count + 1 ≡ turns

-- Some sessions were made after the first, and the one after them was stopped.
pub record StopsWaiting (tells : Telling) (user : List ℕ) (turns : ℕ) (which : Filter) (awaited : List ℕ) (seen : Kept)
    (start new : WaitAt) (stopped : CommandError) : Type 0 where
  pub count : ℕ
  pub kept : Kept
  pub before : WaitAt
  pub rested : WaitAt
  pub waits : Waits tells user which awaited start seen count kept before
  pub few : count + 1 ≤ turns
  pub lives : has_live kept.table awaited ≡ true
  pub rests : RestsBetween tells before rested
  pub stops : LooksAt tells user which rested new (Err stopped)

-- what comes after the first session: none where no end is waited for, and else the wait for the jobs that it saw
abbrev pub ComesAfter : Telling → List ℕ → Option ℕ → Filter → Kept → WaitAt → WaitAt → Kept → Bool → Type 0
ComesAfter tells user None which seen start new kept finished = (new ≡ start) × (kept ≡ seen) × (finished ≡ true)
ComesAfter tells user (Some turns) which seen start new kept finished =
    HasWaited tells user turns which (awaited_numbers user which seen.table) seen start new kept finished

-- and how that is stopped: memory ran out for the numbers of the jobs, or a session was stopped
abbrev pub StopsStatAfter : Telling → List ℕ → Option ℕ → Filter → Kept → WaitAt → WaitAt → CommandError → Type 0
StopsStatAfter tells user None which seen start new stopped = ⊥
StopsStatAfter tells user (Some turns) which seen start new stopped =
    ((new ≡ start) × (stopped ≡ error_of Memory))
    ⊎ StopsWaiting tells user turns which (awaited_numbers user which seen.table) seen start new stopped

-- The sessions were made, and this is what the last one saw.
pub record HasSeen (tells : Telling) (user : List ℕ) (wait : Option ℕ) (which : Filter) (old new : WaitAt) (kept : Kept)
    (finished : Bool) : Type 0 where
  pub seen : Kept
  pub start : WaitAt
  pub first : LooksAt tells user which old start (Ok seen)
  pub later : ComesAfter tells user wait which seen start new kept finished

-- The first session was stopped, or what comes after it.
pub data HasStopped (tells : Telling) (user : List ℕ) (wait : Option ℕ) (which : Filter) (old new : WaitAt)
    (stopped : CommandError) : Type 0 where
  at_first : LooksAt tells user which old new (Err stopped) → HasStopped tells user wait which old new stopped
  at_later : (seen : Kept) (start : WaitAt) → LooksAt tells user which old start (Ok seen)
      → StopsStatAfter tells user wait which seen start new stopped → HasStopped tells user wait which old new stopped
