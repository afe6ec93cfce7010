-- What the events of a day are among events where notices of mail are sent too, and what holds of all of these (own).
use Rattle.std.specs.Prelude.{List}
use Rattle.host_calls.specs.World.{World}
use Rattle.headline.specs.Effects.{Effect}
use Rattle.later_day.specs.LaterEffects.{LeavesTheRest, OfTable, TakesLaterEffect}
use Rattle.at_day.specs.EventOutcomes.{EventOutcome, IsDoneOn}
use Rattle.at_day.specs.Machines.{Machine, spool_of}
use Rattle.later_day.specs.LaterMachines.{LaterMachine}
use Rattle.later_day.specs.LaterOutcomes.{AreLaterDoneOn, LaterOutcome}
use Rattle.later_day.specs.LaterPromise.{KeepsLaterPromise}

-- the effect leads from one world to another where notices are sent too, and leaves alone what is next to the
-- store
pub record PassesLater (effect : Effect) (old new : World) : Type 0 where
  pub later : TakesLaterEffect (OfTable effect) old new
  pub rest : LeavesTheRest old new

-- so does that of each outcome of a day
abbrev pub DayOutcomesPass : Type 0
DayOutcomesPass = (old : Machine) (outcome : EventOutcome) → IsDoneOn old outcome →
    PassesLater outcome.effect (spool_of old) (spool_of outcome.left)

-- outcomes one after another keep the promise, sessions of mail and of crontabs among them
abbrev pub LaterOutcomesKeepTheirPromise : Type 0
LaterOutcomesKeepTheirPromise = (first : LaterMachine) (outcomes : List LaterOutcome) → AreLaterDoneOn first outcomes →
    KeepsLaterPromise first outcomes
