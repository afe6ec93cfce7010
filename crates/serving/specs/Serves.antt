-- Serving, turn by turn (own).
use Rattle.std.specs.Prelude.{◌≡◌, ◌≤◌, ◌++◌, [], ◌∷◌, ℕ, ℤ, Bool, true, false, List, Option, Some, None}
use Rattle.host_calls.specs.ClockRange.{IsClockSecond}
use Rattle.host_calls.specs.Causes.{Rose}
use Rattle.tool_output.specs.Outside.{ClockAt, RestsOn, Telling}
use Rattle.host_calls.specs.Clock.{Answers, Readers, with_load, with_now}
use Rattle.host_calls.specs.Session.{Session}
use Rattle.host_calls.specs.World.{World}
use Rattle.daemon_turn.specs.Daemons.{DaemonState}
use Rattle.daemon_turn.specs.TurnOutcome.{DaemonAt, TurnsTo}
use Rattle.serving.specs.Items.{TurnItem, ends_after, last_item, mode_after, next_rest}

-- what is served with, at a moment: a host and what its daemon keeps, and the readings
pub record ServeState : Type 0 where
  pub spool : DaemonAt
  pub clock : ClockAt

abbrev pub serve_at : Session → World → DaemonState → Answers → Readers → ServeState
serve_at session world daemon answers readers = record {
  spool = record { session = session; world = world; daemon = daemon };
  clock = record { answers = answers; readers = readers };
}

-- The readings answered the second and the load, and nothing else of them changed but the count of loads that were
-- not read.
pub record AnswersTurn (tells : Bool) (item : TurnItem) (old new : ClockAt) : Type 0 where
  pub known : tells ≡ true → new.answers ≡ with_load item.load (with_now item.now old.answers)
  pub made_as : new.readers.made_as ≡ old.readers.made_as
  pub later : old.readers.load_faults ≤ new.readers.load_faults
  pub unread : item.load ≡ None → Rose old.readers.load_faults new.readers.load_faults

-- One turn was made, at the second and with the load that the readings answered.
pub record Served (tells : Telling) (once : Bool) (before : List TurnItem) (item : TurnItem) (old new : ServeState) : Type 0 where
  pub now : IsClockSecond item.now
  pub read : AnswersTurn tells.clock item old.clock new.clock
  pub turn : TurnsTo tells.files tells.alone (record { now = item.now; load = item.load; mode = mode_after once before })
      old.spool new.spool item.end item.steps

-- the rest after the last turn: none before the first one
abbrev pub rest_of : Bool → Option TurnItem → Option ℕ
rest_of once None = None
rest_of once (Some item) = Some (next_rest once item.end item.now)

-- it rests, and nothing else changes
pub record RestsAfter (tells once : Bool) (last : Option TurnItem) (old new : ServeState) : Type 0 where
  pub clock : RestsOn tells (rest_of once last) old.clock new.clock
  pub spool : new.spool ≡ old.spool

-- The turns lead from the first state to this one: each begins where the one before it ended, after a rest.
pub data Serves (tells : Telling) (once : Bool) (first : ServeState) : List TurnItem → ServeState → Type 0 where
  no_turn : Serves tells once first [] first
  next_turn : (before : List TurnItem) (item : TurnItem) (last rested after : ServeState)
      → Serves tells once first before last
      → ends_after once (last_item before) last.spool.daemon.kids ≡ false
      → RestsAfter tells.clock once (last_item before) last rested
      → Served tells once before item rested after
      → Serves tells once first (before ++ item ∷ []) after

-- The clock answered a second out of its range after the last turn and its rest: no load was read, and no turn made.
pub record ServeStopsAtClock (tells once : Bool) (last : Option TurnItem) (old new : ServeState) : Type 0 where
  pub now : ℤ
  pub out : ¬ (IsClockSecond now)
  pub rested : ServeState
  pub rests : RestsAfter tells once last old rested
  pub known : tells ≡ true → new.clock.answers ≡ with_now now rested.clock.answers
  pub readers : new.clock.readers ≡ rested.clock.readers
  pub spool : new.spool ≡ rested.spool
