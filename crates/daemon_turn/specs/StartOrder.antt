-- Which jobs a turn starts, and in which order (own).
use Rattle.std.specs.Prelude.{◌≡◌, ◌⊎◌, ◌++◌, [], ◌∷◌, ℕ, ℤ, Bool, true, false, List, Option, map}
use Rattle.host_calls.specs.declared.child.Ending.TheVariants.{NotStarted}
use Rattle.queue_rules.specs.Order.{AreInDueOrder, IsFirstBatch, is_ready_batch, places_of}
use Rattle.queue_rules.specs.Queues.{may_start_batch}
use Rattle.spool_model.specs.JobTable.{JobTable}
use Rattle.spool_model.specs.Lists.{live_rows, surplus}
use Rattle.daemon_turn.specs.declared.kid.Kid.{Kid}
use Rattle.daemon_turn.specs.declared.mode.Mode.{Mode}
use Rattle.daemon_turn.specs.declared.mode.Mode.TheVariants.{Full, EndsOnly}
use Rattle.daemon_turn.specs.declared.turn_input.TurnInput.{TurnInput}
use Rattle.spool_model.specs.declared.turn_step.TurnStep.{TurnStep}
use Rattle.spool_model.specs.declared.turn_step.TurnStep.TheVariants.{HandedOver, Ended, Forgotten}
use Rattle.daemon_turn.specs.Daemons.{DaemonState}

-- What a turn is made with: the children, the limit of the load in hundredths, the interval of batch starts in seconds,
-- the second now, the load, if one was read, and the mode.
pub record Turn : Type 0 where
  pub kids : List Kid
  pub limit : ℕ
  pub interval : ℕ
  pub now : ℤ
  pub load : Option ℕ
  pub mode : Mode

-- the turn of a daemon on what it is given
abbrev pub turn_of : DaemonState → TurnInput → Turn
turn_of daemon at = record {
  kids = daemon.kids;
  limit = daemon.limit;
  interval = daemon.interval;
  now = at.now;
  load = at.load;
  mode = at.mode;
}

-- a batch job may start on the table
abbrev pub has_batch_turn : Turn → JobTable → Bool
has_batch_turn turn table = may_start_batch turn.load turn.limit table.last_batch turn.now turn.interval

-- the first ready job of the batch queues, or none where none is ready
abbrev pub IsBatchOrder : JobTable → ℤ → List ℕ → Type 0
IsBatchOrder table now order =
    ((number : ℕ) × IsFirstBatch (live_rows table) now number × (order ≡ number ∷ []))
    ⊎ ((places_of (is_ready_batch now) (live_rows table) ≡ []) × (order ≡ []))

-- and none where no batch job may start
abbrev pub IsBatchOrderWhere : Bool → JobTable → ℤ → List ℕ → Type 0
IsBatchOrderWhere true table now order = IsBatchOrder table now order
IsBatchOrderWhere false table now order = order ≡ []

-- The numbers of the jobs that start: those that are ready, by minute, then number, and then the first batch job, where
-- one may start.
pub record IsFullOrder (turn : Turn) (table : JobTable) (order : List ℕ) : Type 0 where
  pub jobs : List ℕ
  pub batch : List ℕ
  pub due : AreInDueOrder (live_rows table) turn.now jobs
  pub allowed : IsBatchOrderWhere (has_batch_turn turn table) table turn.now batch
  pub both : order ≡ jobs ++ batch

-- the numbers of the jobs that start in a mode
abbrev pub IsOrderIn : Mode → Turn → JobTable → List ℕ → Type 0
IsOrderIn Full turn table order = IsFullOrder turn table order
IsOrderIn EndsOnly turn table order = order ≡ []

-- the numbers of the jobs that start
abbrev pub IsOrder : Turn → JobTable → List ℕ → Type 0
IsOrder turn table order = IsOrderIn turn.mode turn table order

-- the steps of a start, by whether a child came of it: a job of which none came is done
abbrev pub start_steps : ℕ → ℤ → Bool → List TurnStep
start_steps number second true = HandedOver number second ∷ []
start_steps number second false = HandedOver number second ∷ Ended number NotStarted ∷ []

-- The steps of starts, by whether a child came of each: after the last answer the next start took effect, and no
-- more.
abbrev pub steps_of_starts : List ℕ → ℤ → List Bool → List TurnStep
steps_of_starts [] second flags = []
steps_of_starts (number ∷ numbers) second [] = HandedOver number second ∷ []
steps_of_starts (number ∷ numbers) second (flag ∷ flags) = start_steps number second flag ++ steps_of_starts numbers second flags

-- the lowest done numbers are forgotten, as many as are too many
abbrev pub forgotten_steps : JobTable → List TurnStep
forgotten_steps table = map Forgotten (surplus table)
