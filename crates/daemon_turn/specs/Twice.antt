-- Two turns, one after the other (own).
use Rattle.std.specs.Prelude.{Bool}
use Rattle.daemon_turn.specs.declared.turn_input.TurnInput.{TurnInput}
use Rattle.daemon_turn.specs.declared.report.TurnReport.{TurnReport}
use Rattle.daemon_turn.specs.TurnOutcome.{DaemonAt, TurnsTo}

-- The second turn begins where the first one ended: with its children, and on what it left.
pub record TurnsTwice (tells alone : Bool) (one other : TurnInput) (old new : DaemonAt) (first second : TurnReport) : Type 0 where
  pub between : DaemonAt
  pub begins : TurnsTo tells alone one old between first.end first.steps
  pub ends : TurnsTo tells alone other between new second.end second.steps
