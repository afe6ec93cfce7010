-- How far serving has come, and one more turn (own).
use Rattle.std.specs.Prelude.{◌≡◌, ◌<◌, ◌≤◌, ◌++◌, [], ◌∷◌, ℕ, Bool, true, false, List, Option, Some, None, length, if◌then◌else◌}
use Rattle.tool_output.specs.Sinks.{SinkAt}
use Rattle.daemon_turn.specs.declared.kid.Kid.{Kid}
use Rattle.daemon_turn.specs.declared.mode.Mode.{Mode}
use Rattle.daemon_turn.specs.declared.mode.Mode.TheVariants.{Full, EndsOnly}
use Rattle.host_calls.specs.declared.turn_end.TurnEnd.{TurnEnd}
use Rattle.serving.specs.Items.{TurnItem, ends_after, first_end, is_last_turn, last_item, next_rest}
use Rattle.serving.specs.Lines.{SaysEnds, turn_lines}
use Rattle.serving.specs.Outcomes.{Stop, StopsBy, at_a_line, at_the_end, damage_outcome, serve_outcome, turns_outcome}
use Rattle.serving.specs.Serves.{ServeState, Serves}
use Rattle.tool_output.specs.Outside.{Telling}
use Rattle.serving.specs.Serving.{TurnsPrint, said_of}
use Rattle.serving.specs.declared.outcome.ServeOutcome.{ServeOutcome}
use Rattle.serving.specs.declared.progress.Progress.{Progress}

-- the mode of the next turn, by the end of the first one
abbrev pub mode_by : Bool → Option TurnEnd → Mode
mode_by false first = Full
mode_by true None = Full
mode_by true (Some end) = EndsOnly

-- the end of the first turn, once one more ended so
abbrev pub first_end_or : Option TurnEnd → TurnEnd → Option TurnEnd
first_end_or None end = Some end
first_end_or (Some first) end = Some first

-- what serving comes to after a turn that ended so, if no further one is made
abbrev pub outcome_if : Bool → TurnEnd → Option TurnEnd → List Kid → Bool → Option ServeOutcome
outcome_if once end first kids output_failed =
    if is_last_turn once end kids then Some (damage_outcome end (turns_outcome once first kids output_failed)) else None

-- the rest before the next turn: none before the first one
abbrev pub rest_if : Option TurnEnd → ℕ → Option ℕ
rest_if None seconds = None
rest_if (Some end) seconds = Some seconds

-- these are the seconds of the rest after the last turn
abbrev pub IsRest : Bool → Option TurnItem → ℕ → Type 0
IsRest once None seconds = Unit {0}
IsRest once (Some item) seconds = seconds ≡ next_rest once item.end item.now

-- where a line ran out of memory, serving stops at it
abbrev pub stop_where : Bool → Stop
stop_where true = at_the_end
stop_where false = at_a_line

-- More was printed after what was printed before, unless a put had failed: all of it, or up to a put that failed, or up to
-- a line that ran out of memory.
abbrev pub PrintsMore : Bool → List ℕ → Bool → Bool → SinkAt → SinkAt → Bool → Type 0
PrintsMore tells text cut_old cut_new old new found =
    (before : List ℕ) (start : SinkAt) → TurnsPrint tells at_the_end cut_old before start old
    → TurnsPrint tells (stop_where found) cut_new (before ++ text) start new

-- These turns were made, and a further one is to come.
pub record HasServed (tells : Telling) (once : Bool) (items : List TurnItem) (made : Progress) (first now : ServeState)
    (out_first out_now err_first err_now : SinkAt) : Type 0 where
  pub serves : Serves tells once first items now
  pub goes_on : ends_after once (last_item items) now.spool.daemon.kids ≡ false
  pub begun : made.first ≡ first_end items
  pub rest : IsRest once (last_item items) made.rest
  pub prints : TurnsPrint tells.output at_the_end made.output_failed (turn_lines items) out_first out_now
  pub says : tells.errors ≡ true → SaysEnds items err_first err_now

-- Serving ended, and came to this.
pub record HasEnded (tells : Telling) (once : Bool) (turns : ℕ) (first now : ServeState)
    (out_first out_now err_first err_now : SinkAt) (outcome : ServeOutcome) : Type 0 where
  pub items : List TurnItem
  pub last : ServeState
  pub stop : Stop
  pub output_failed : Bool
  pub few : length items ≤ turns
  pub serves : Serves tells once first items last
  pub stops : StopsBy stop tells.clock once turns items last now
  pub prints : TurnsPrint tells.output stop output_failed (turn_lines items) out_first out_now
  pub says : tells.errors ≡ true → SaysEnds (said_of stop items) err_first err_now
  pub comes : outcome ≡ serve_outcome stop once items last.spool.daemon.kids output_failed

-- One more turn was made, or serving ended.
abbrev pub Proceeds : Telling → Bool → List TurnItem → Progress → ServeState → ServeState
    → SinkAt → SinkAt → SinkAt → SinkAt → Option ServeOutcome → Type 0
Proceeds tells once items made first now out_first out_now err_first err_now None =
    (item : TurnItem) × HasServed tells once (items ++ item ∷ []) made first now out_first out_now err_first err_now
Proceeds tells once items made first now out_first out_now err_first err_now (Some outcome) =
    (turns : ℕ) → length items < turns → HasEnded tells once turns first now out_first out_now err_first err_now outcome
