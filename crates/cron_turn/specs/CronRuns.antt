-- The sessions of the program, one after another, and how it ends (own).
use Rattle.std.specs.Prelude.{◌≡◌, ◌⊎◌, ◌<◌, ◌++◌, [], ◌∷◌, ℕ, Bool, List, Option, Some, None, Result, Ok, Err, length, if◌then◌else◌}
use Rattle.cron_session.specs.SessionOutcome.{CronAt}
use Rattle.tool_output.specs.Outside.{RestsBefore, Telling, WorkAt}
use Rattle.at_words.specs.declared.fault.WordsFault.{WordsFault}
use Rattle.tool_output.specs.Causes.{cause_of_script, words_cause}
use Rattle.tool_output.specs.declared.caller.Caller.{Caller}
use Rattle.civil_minute.specs.Zone.{is_unreadable}
use Rattle.tool_output.specs.SaidLines.{IsSaid}
use Rattle.civil_minute.specs.declared.zone.Zone.{Zone}
use Rattle.host_calls.specs.Causes.{Rose}
use Rattle.job_script.specs.Check.{first_fault}
use Rattle.job_script.specs.declared.fault.ScriptFault.{ScriptFault}
use Rattle.listing_text.specs.declared.cause.Cause.{Cause}
use Rattle.listing_text.specs.declared.cause.Cause.TheVariants.{Done, Refused, InputFault, Memory, OutputFault}
use Rattle.listing_text.specs.declared.refusal.Refusal.TheVariants.{BadZone}
use Rattle.cron_turn.specs.declared.words.CronRequest.{CronRequest}
use Rattle.cron_turn.specs.Items.{GoesOnSaying, CronItem, cron_program_name, rest_after_session}
use Rattle.cron_turn.specs.Sessions.{IsSessionMade, Stops}

-- The sessions lead from the first state to this one: each begins where the one before it ended, after a rest. So many
-- seconds are to be rested before the next one.
pub data MakesCronSessions (tells : Telling) (caller : Caller) (path : List ℕ) (first : WorkAt CronAt)
    : List CronItem → Option ℕ → WorkAt CronAt → Type 0 where
  no_session : MakesCronSessions tells caller path first [] None first
  next_session : (before : List CronItem) (rest : Option ℕ) (item : CronItem) (last rested after : WorkAt CronAt)
      → MakesCronSessions tells caller path first before rest last
      → RestsBefore tells.clock rest last rested
      → IsSessionMade tells caller path item rested after
      → GoesOnSaying tells.errors item.end rested.said after.said
      → MakesCronSessions tells caller path first (before ++ item ∷ []) (Some (rest_after_session item.end item.now)) after

-- After the last of the sessions there was a rest, and one more was begun, at which it ended.
pub record IsCutShort (tells : Telling) (caller : Caller) (path : List ℕ) (rest : Option ℕ)
    (last new : WorkAt CronAt) (cause : Cause) : Type 0 where
  pub rested : WorkAt CronAt
  pub rests : RestsBefore tells.clock rest last rested
  pub stops : Stops tells caller path rested new cause

-- Why there are no more of them: all that were requested were made, after the last of which there is no rest; or the next
-- one ended it.
pub data EndsAfter (tells : Telling) (caller : Caller) (path : List ℕ) (turns count : ℕ) (rest : Option ℕ) (last : WorkAt CronAt)
    : WorkAt CronAt → Cause → Type 0 where
  all_made : count ≡ turns → EndsAfter tells caller path turns count rest last last Done
  cut_short : (new : WorkAt CronAt) (cause : Cause) → count < turns → IsCutShort tells caller path rest last new cause
      → EndsAfter tells caller path turns count rest last new cause

-- how the program works on a crontab: its sessions, and why there are no more
pub record RunsSessions (tells : Telling) (caller : Caller) (request : CronRequest) (old new : WorkAt CronAt)
    (cause : Cause) : Type 0 where
  pub items : List CronItem
  pub rest : Option ℕ
  pub last : WorkAt CronAt
  pub serves : MakesCronSessions tells caller request.file old items rest last
  pub ends : EndsAfter tells caller request.file request.turns (length items) rest last new cause

-- what the caller is refused for before the first session: its user, its directory, its variables, then its zone
abbrev pub refused_zone : Zone → Option Cause
refused_zone zone = if is_unreadable zone then Some (Refused BadZone) else None

abbrev pub refused_by : Option ScriptFault → Zone → Option Cause
refused_by (Some fault) zone = Some (cause_of_script fault)
refused_by None zone = refused_zone zone

abbrev pub caller_refused : Caller → Option Cause
caller_refused caller = refused_by (first_fault caller.context) caller.zone

abbrev pub WorksUnless : Option Cause → Telling → Caller → CronRequest → WorkAt CronAt → (WorkAt CronAt) → Cause → Type 0
WorksUnless (Some refused) tells caller request old new cause = (cause ≡ refused) × (new ≡ old)
WorksUnless None tells caller request old new cause = RunsSessions tells caller request old new cause

-- what the words request is done: words that request nothing are refused first, and then the caller
abbrev pub RunsAsRequested : Result CronRequest WordsFault → Telling → Caller → WorkAt CronAt → (WorkAt CronAt) → Cause → Type 0
RunsAsRequested (Err fault) tells caller old new cause = (cause ≡ words_cause fault) × (new ≡ old)
RunsAsRequested (Ok request) tells caller old new cause = WorksUnless (caller_refused caller) tells caller request old new cause

-- or the words were not read, for lack of memory
abbrev pub RunsOrLacksMemory : Result CronRequest WordsFault → Telling → Caller → WorkAt CronAt → (WorkAt CronAt) → Cause → Type 0
RunsOrLacksMemory asked tells caller old new cause = ((cause ≡ Memory) × (new ≡ old)) ⊎ RunsAsRequested asked tells caller old new cause

-- the line of the cause was said after all else
pub record IsEnded (tells : Bool) (cause : Cause) (old new : WorkAt CronAt) (final : Cause) : Type 0 where
  pub spool : new.spool ≡ old.spool
  pub clock : new.clock ≡ old.clock
  pub input : new.input ≡ old.input
  pub said : IsSaid cron_program_name tells cause old.said new.said final

-- How the program runs: what the words request is done, and the line of its cause is said.
pub record CronRuns (asked : Result CronRequest WordsFault) (tells : Telling) (caller : Caller)
    (old new : WorkAt CronAt) (final : Cause) : Type 0 where
  pub cause : Cause
  pub done : WorkAt CronAt
  pub does : RunsOrLacksMemory asked tells caller old done cause
  pub ended : IsEnded tells.errors cause done new final

-- The faults of the outside come only where their counts rose; those of the directory, and that it is held, end no
-- program.
pub record HasRisenInTurns (old new : WorkAt CronAt) (cause : Cause) : Type 0 where
  pub input_fault : cause ≡ InputFault → Rose old.input.sources.input_faults new.input.sources.input_faults
  pub output_fault : cause ≡ OutputFault → Rose old.said.faults new.said.faults
