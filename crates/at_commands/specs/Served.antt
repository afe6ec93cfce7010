-- Which requests are served, and how (own).
use Rattle.std.specs.Prelude.{ℕ, Bool, Ok, Err}
use Rattle.at_words.specs.declared.tool_request.ToolRequest.TheVariants as request
use Rattle.command_rules.specs.Found.{Asked}
use Rattle.tool_output.specs.Sinks.{SinkAt}
use Rattle.daemon_turn.specs.Daemons.{DaemonState, new_daemon}
use Rattle.listing_text.specs.declared.cause.Cause.{Cause}
use Rattle.serving.specs.Serves.{ServeState}
use Rattle.tool_output.specs.Outside.{Telling}
use Rattle.serving.specs.Serving.{Serving}

-- no daemon is requested
abbrev pub IsNotServed : Asked → Type 0
IsNotServed (Ok (request.Submit queue mail file when)) = Unit {0}
IsNotServed (Ok (request.List filter)) = Unit {0}
IsNotServed (Ok (request.Remove numbers)) = Unit {0}
IsNotServed (Ok (request.Show numbers)) = Unit {0}
IsNotServed (Ok (request.Daemon limit interval once turns)) = ⊥
IsNotServed (Ok (request.Make count)) = Unit {0}
IsNotServed (Err fault) = Unit {0}

-- where a daemon is requested, this is so of its limit, its interval, whether it is served only until no child is left,
-- and the number of its turns
abbrev pub WhereServed : Asked → (ℕ → ℕ → Bool → ℕ → Type 0) → Type 0
WhereServed (Ok (request.Submit queue mail file when)) IsSo = Unit {0}
WhereServed (Ok (request.List filter)) IsSo = Unit {0}
WhereServed (Ok (request.Remove numbers)) IsSo = Unit {0}
WhereServed (Ok (request.Show numbers)) IsSo = Unit {0}
WhereServed (Ok (request.Daemon limit interval once turns)) IsSo = IsSo limit interval once turns
WhereServed (Ok (request.Make count)) IsSo = Unit {0}
WhereServed (Err fault) IsSo = Unit {0}

-- A daemon without children served, and is gone. What it was served with is given by what the daemon keeps.
pub record ServesAnew (tells : Telling) (limit interval : ℕ) (once : Bool) (turns : ℕ) (old new : DaemonState → ServeState)
    (out_old out_new err_old err_new : SinkAt) (cause : Cause) : Type 0 where
  pub daemon : DaemonState
  pub serving : Serving tells once turns (old (new_daemon limit interval)) (new daemon) out_old out_new err_old err_new cause
