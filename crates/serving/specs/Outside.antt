-- What serving leaves of all that it is handed (own).
use Rattle.std.specs.Prelude.{◌≡◌, ℕ, Bool}
use Rattle.tool_output.specs.Outside.{HasRisen, OutsideAt, no_inputs, outside_at}
use Rattle.daemon_turn.specs.Daemons.{DaemonState}
use Rattle.daemon_turn.specs.Kids.{KeepsChildren}
use Rattle.host_calls.specs.Causes.{Rose}
use Rattle.host_calls.specs.declared.host.Host as host
use Rattle.host_calls.specs.declared.readings.Readings as readings
use Rattle.host_calls.specs.declared.sink.Sink as sink
use Rattle.host_calls.specs.Session.{IsOutside, KeepsCounts, Session}
use Rattle.listing_text.specs.declared.cause.Cause.{Cause}
use Rattle.serving.specs.Serves.{ServeState, serve_at}
use Rattle.serving.specs.Serving.{Serving}

-- no session is on, no child is forgotten, and no count has fallen
pub record EndsOutside (old new : Session) : Type 0 where
  pub outside : IsOutside new
  pub kept : KeepsChildren old.children new.children
  pub counts : KeepsCounts old new

-- all that serving is handed: no inputs
abbrev pub serving_outside : {H R O E : Type 0} → host.Ghosts H → readings.Ghosts R → sink.Ghosts O → sink.Ghosts E
    → H → R → O → E → OutsideAt
serving_outside h r o e host readings out err = outside_at h r no_inputs o e host readings tt out err

-- what is served with, once the daemon keeps this
abbrev pub served_at : OutsideAt → DaemonState → ServeState
served_at at daemon = serve_at at.session at.holds.spool daemon at.holds.answers at.readers

-- How it is served, at most so many turns, and only until no child is left where that is requested: the daemon keeps
-- this before, and that after.
abbrev pub IsServed : Bool → ℕ → DaemonState → DaemonState → OutsideAt → OutsideAt → Cause → Type 0
IsServed once turns kept keeps old new cause =
    Serving old.tells once turns (served_at old kept) (served_at new keeps) old.holds.output new.holds.output
    old.holds.errors new.holds.errors cause

-- each fault comes only where its count rose
abbrev pub HasRisenServing : OutsideAt → OutsideAt → Cause → Type 0
HasRisenServing old new cause = HasRisen (Rose old.out.sink_faults new.out.sink_faults) old new cause

-- what the readings and the sinks were made as stays
pub record StaysMadeServing (old new : OutsideAt) : Type 0 where
  pub readers : new.readers.made_as ≡ old.readers.made_as
  pub out : new.out.made_as ≡ old.out.made_as
  pub err : new.err.made_as ≡ old.err.made_as
