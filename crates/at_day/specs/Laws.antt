-- What follows of a simulated run (own).
use Rattle.std.specs.Prelude.{◌≡◌, ◌⊎◌, ℕ, Bool, true}
use Rattle.tool_output.specs.Sinks.{SinkAt}
use Rattle.host_calls.specs.Causes.{Rose}
use Rattle.listing_text.specs.declared.cause.Cause.{Cause}
use Rattle.listing_text.specs.declared.cause.Cause.TheVariants.{Done, Memory}
use Rattle.headline.specs.Laws.{IsEventWhole}
use Rattle.at_day.specs.EventOutcomes.{AreEventSteps, EventOutcome, IsDoneOn, is_acknowledged}
use Rattle.at_day.specs.Machines.{Machine, spool_of}
use Rattle.at_day.specs.Programs.{EndsMade}

-- where the count of failed puts has not risen, the day was told, or memory ran out
abbrev pub MadeDaysAreReported : Type 0
MadeDaysAreReported = (tells : Bool) (count : ℕ) (old new : SinkAt) (cause : Cause) → EndsMade tells count old new cause →
    ¬ (Rose old.faults new.faults) → (cause ≡ Done) ⊎ (cause ≡ Memory)

-- An event that was acknowledged made all of its steps, on the table that the reading showed: a command with status 0 those
-- of its words, a turn that was done those that it reports.
abbrev pub AcknowledgedEventsAreWhole : Type 0
AcknowledgedEventsAreWhole = (old : Machine) (outcome : EventOutcome) → IsDoneOn old outcome →
    is_acknowledged outcome.report ≡ true →
    IsEventWhole (AreEventSteps outcome.event outcome.report old) (spool_of old) (spool_of outcome.left)
