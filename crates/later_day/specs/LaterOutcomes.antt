-- The outcomes of events where mail is sent too, and a crontab kept (own): what happened with each, what it did to the
-- spool, and the machine that it left.
use Rattle.std.specs.Prelude.{◌≡◌, [], ◌∷◌, List, map}
use Rattle.headline.specs.Effects.{Effect}
use Rattle.host_calls.specs.World.{reading}
use Rattle.later_day.specs.LaterEffects.{Beside, LaterEffect, LaterPassed, OfTable, TakesLaterEffect}
use Rattle.later_day.specs.SessionsPass.{IsCronEffect}
use Rattle.at_day.specs.EventOutcomes.{IsEventEffect}
use Rattle.later_day.specs.declared.entry.LaterEntry.{LaterEntry}
use Rattle.later_day.specs.declared.entry.LaterEntry.TheVariants as known
use Rattle.later_day.specs.declared.later.Later.{Later}
use Rattle.later_day.specs.declared.later.Later.TheVariants.{Day, Post, Cron}
use Rattle.later_day.specs.LaterEventEffects.{IsLaterEvent, LaterHappens, cron_of_event}
use Rattle.later_day.specs.LaterMachines.{LaterMachine, later_spool}

-- the effect is on the table, and is so
abbrev pub IsOfTable : (Effect → Type 0) → LaterEffect → Type 0
IsOfTable is (OfTable effect) = is effect
IsOfTable is Beside = ⊥

-- what an event does, by its entry: an event of a day its steps, or the crash that it is; a session of mail nothing to the
-- table; a session of a crontab its submissions
abbrev pub IsLaterEffect : Later → LaterEntry → LaterMachine → LaterEffect → Type 0
IsLaterEffect (Day event) (known.Day report) old effect = IsOfTable (IsEventEffect event report old.at) effect
IsLaterEffect Post (known.Post report) old effect = effect ≡ Beside
IsLaterEffect (Cron context zone entries now) (known.Cron report) old effect =
    IsOfTable (IsCronEffect (cron_of_event context zone entries now) report.end report.numbers (reading (later_spool old))) effect
IsLaterEffect _ _ old effect = ⊥

-- an event, its entry, what it did to the spool, and the machine that it left
pub record LaterOutcome : Type 0 where
  pub event : Later
  pub entry : LaterEntry
  pub effect : LaterEffect
  pub left : LaterMachine

-- the outcome is one on the machine, of an event that may come
pub record IsLaterDoneOn (old : LaterMachine) (outcome : LaterOutcome) : Type 0 where
  pub may_come : IsLaterEvent outcome.event
  pub happens : LaterHappens outcome.event outcome.entry old outcome.left
  pub does : IsLaterEffect outcome.event outcome.entry old outcome.effect
  pub passes : TakesLaterEffect outcome.effect (later_spool old) (later_spool outcome.left)

-- the outcomes are one after another, the first of them on this machine
abbrev pub AreLaterDoneOn : LaterMachine → List LaterOutcome → Type 0
AreLaterDoneOn old [] = Unit {0}
AreLaterDoneOn old (outcome ∷ later) = IsLaterDoneOn old outcome × AreLaterDoneOn outcome.left later

-- the machine that the outcomes leave
abbrev pub later_machine_after : LaterMachine → List LaterOutcome → LaterMachine
later_machine_after old [] = old
later_machine_after old (outcome ∷ later) = later_machine_after outcome.left later

-- the events of outcomes, their entries, and what they did to the spool
abbrev pub later_events_of : List LaterOutcome → List Later
later_events_of outcomes = map (λ outcome. outcome.event) outcomes

abbrev pub entries_of : List LaterOutcome → List LaterEntry
entries_of outcomes = map (λ outcome. outcome.entry) outcomes

abbrev pub later_passed_of : List LaterOutcome → List LaterPassed
later_passed_of outcomes = map (λ outcome. record { effect = outcome.effect; left = later_spool outcome.left }) outcomes
