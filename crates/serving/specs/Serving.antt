-- How serving ends: its turns, what is printed and said of them, and its cause (own).
use Rattle.std.specs.Prelude.{◌≡◌, ◌≤◌, ℕ, Bool, true, false, List, length}
use Rattle.host_calls.specs.Causes.{Rose}
use Rattle.listing_text.specs.declared.cause.Cause.{Cause}
use Rattle.tool_output.specs.Sinks.{IsCut, IsPut, IsPutInPart, SinkAt}
use Rattle.tool_output.specs.SaidLines.{IsSaid}
use Rattle.serving.specs.Items.{TurnItem, but_last}
use Rattle.serving.specs.Lines.{SaysEnds, daemon_name, turn_lines}
use Rattle.serving.specs.Outcomes.{Stop, StopsBy, at_a_line, at_the_clock, at_the_end, serve_outcome}
use Rattle.serving.specs.Serves.{ServeState, Serves}
use Rattle.tool_output.specs.Outside.{Telling}
use Rattle.serving.specs.declared.outcome.ServeOutcome.{ServeOutcome}
use Rattle.serving.specs.declared.outcome.ServeOutcome.TheVariants.{OfTurn, Own}

-- the text was put, or a prefix of it, and then nothing more, since a put of it failed
abbrev pub PutsUnless : Bool → List ℕ → SinkAt → SinkAt → Type 0
PutsUnless false text old new = IsPut text old new
PutsUnless true text old new = IsCut text old new

-- and a prefix of it where a line ran out of memory
abbrev pub PutsTurnsBy : Stop → Bool → List ℕ → SinkAt → SinkAt → Type 0
PutsTurnsBy at_the_end output_failed text old new = PutsUnless output_failed text old new
PutsTurnsBy at_the_clock output_failed text old new = PutsUnless output_failed text old new
PutsTurnsBy at_a_line output_failed text old new = IsPutInPart text old new

-- What is printed of the turns. A put fails only where the count of such faults rose.
pub record TurnsPrint (tells : Bool) (stop : Stop) (output_failed : Bool) (text : List ℕ) (old new : SinkAt) : Type 0 where
  pub later : old.faults ≤ new.faults
  pub rose : output_failed ≡ true → Rose old.faults new.faults
  pub puts : tells ≡ true → PutsTurnsBy stop output_failed text old new

-- the turns whose ends were said: not the last one, where a line of it ran out of memory
abbrev pub said_of : Stop → List TurnItem → List TurnItem
said_of at_the_end items = items
said_of at_the_clock items = items
said_of at_a_line items = but_last items

-- The last line: that of a cause of its own. The line of a turn that ended it was said before.
abbrev pub SaysServeOutcome : Bool → ServeOutcome → SinkAt → SinkAt → Cause → Type 0
SaysServeOutcome tells (OfTurn cause) old new final = (final ≡ cause) × (tells ≡ true → new ≡ old)
SaysServeOutcome tells (Own cause) old new final = IsSaid daemon_name tells cause old new final

-- How serving ends: its turns, and no more than were requested, lead from the state at its start to that at its end; their
-- lines are printed and their ends said, one after the other; and the cause is what it came to.
pub record Serving (tells : Telling) (once : Bool) (turns : ℕ) (old new : ServeState)
    (out_old out_new err_old err_new : SinkAt) (cause : Cause) : Type 0 where
  pub items : List TurnItem
  pub last : ServeState
  pub stop : Stop
  pub output_failed : Bool
  pub few : length items ≤ turns
  pub serves : Serves tells once old items last
  pub stops : StopsBy stop tells.clock once turns items last new
  pub prints : TurnsPrint tells.output stop output_failed (turn_lines items) out_old out_new
  pub between : SinkAt
  pub says : tells.errors ≡ true → SaysEnds (said_of stop items) err_old between
  pub outcome : SaysServeOutcome tells.errors (serve_outcome stop once items last.spool.daemon.kids output_failed) between err_new cause
