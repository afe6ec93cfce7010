-- What a turn will do on a table (own).
use Rattle.std.specs.Prelude.{◌≡◌, List}
use Rattle.spool_model.specs.JobTable.{JobTable}
use Rattle.daemon_turn.specs.declared.kid.Kid.{Kid}
use Rattle.daemon_turn.specs.declared.turn_input.TurnInput.{TurnInput}
use Rattle.daemon_turn.specs.declared.plan.TurnPlan.{TurnPlan}
use Rattle.daemon_turn.specs.Daemons.{DaemonState}
use Rattle.daemon_turn.specs.Decisions.{interrupts}
use Rattle.daemon_turn.specs.StartOrder.{IsOrder, turn_of}

-- the same daemon with other children
abbrev pub with_kids : List Kid → DaemonState → DaemonState
with_kids kids daemon = record { kids = kids; limit = daemon.limit; interval = daemon.interval }

-- the jobs that are given up, and the numbers of those that start, whatever the children are
pub record IsPlan (daemon : DaemonState) (at : TurnInput) (table : JobTable) (plan : TurnPlan) : Type 0 where
  pub interrupted : plan.interrupted.items ≡ interrupts table daemon.kids
  pub ordered : (kids : List Kid) → IsOrder (turn_of (with_kids kids daemon) at) table plan.order.items
