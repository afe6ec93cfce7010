-- What serving comes to, before its last line is said (own).
use Rattle.std.specs.Prelude.{◌≡◌, ◌⊎◌, ◌<◌, [], ◌∷◌, ℕ, Bool, true, false, List, Option, Some, None, length, if◌then◌else◌}
use Rattle.listing_text.specs.declared.cause.Cause.{Cause}
use Rattle.listing_text.specs.declared.cause.Cause.TheVariants as cause
use Rattle.listing_text.specs.declared.refusal.Refusal.TheVariants.{BadClock}
use Rattle.daemon_turn.specs.declared.kid.Kid.{Kid}
use Rattle.host_calls.specs.declared.turn_end.TurnEnd.{TurnEnd}
use Rattle.host_calls.specs.declared.turn_end.TurnEnd.TheVariants.{Done, Busy, FileFault, Damaged, Memory}
use Rattle.serving.specs.Items.{TurnItem, ends_after, first_end, last_item}
use Rattle.serving.specs.Serves.{ServeState, ServeStopsAtClock}
use Rattle.serving.specs.declared.outcome.ServeOutcome.{ServeOutcome}
use Rattle.serving.specs.declared.outcome.ServeOutcome.TheVariants.{OfTurn, Own}

-- why no further turn is made
pub data Stop : Type 0 where
  at_the_end : Stop
  at_the_clock : Stop
  at_a_line : Stop

-- the output failed, or all was done
abbrev pub output_outcome : Bool → ServeOutcome
output_outcome output_failed = Own (if output_failed then cause.OutputFault else cause.Done)

-- children that are left come before that
abbrev pub kids_outcome : List Kid → Bool → ServeOutcome
kids_outcome [] output_failed = output_outcome output_failed
kids_outcome (kid ∷ kids) output_failed = Own cause.StillRunning

-- what a turn ended with, unless it was done
abbrev pub end_outcome : TurnEnd → ServeOutcome → ServeOutcome
end_outcome Done other = other
end_outcome Busy other = OfTurn cause.Busy
end_outcome FileFault other = OfTurn cause.FileFault
end_outcome (Damaged damage) other = OfTurn (cause.Damaged damage)
end_outcome Memory other = OfTurn cause.Memory

-- the end of the first turn comes before children that are left
abbrev pub first_outcome : Option TurnEnd → List Kid → Bool → ServeOutcome
first_outcome None kids output_failed = kids_outcome kids output_failed
first_outcome (Some end) kids output_failed = end_outcome end (kids_outcome kids output_failed)

-- where all turns are made, by whether it is served only until no child is left
abbrev pub turns_outcome : Bool → Option TurnEnd → List Kid → Bool → ServeOutcome
turns_outcome true first kids output_failed = first_outcome first kids output_failed
turns_outcome false first kids output_failed = output_outcome output_failed

-- a damage that the last turn found comes before all else
abbrev pub damage_outcome : TurnEnd → ServeOutcome → ServeOutcome
damage_outcome (Damaged damage) other = OfTurn (cause.Damaged damage)
damage_outcome Done other = other
damage_outcome Busy other = other
damage_outcome FileFault other = other
damage_outcome Memory other = other

abbrev pub last_turn_outcome : Option TurnItem → ServeOutcome → ServeOutcome
last_turn_outcome None other = other
last_turn_outcome (Some item) other = damage_outcome item.end other

-- What serving comes to: by its turns, the children that are left, and whether a put on the output failed.
abbrev pub serve_outcome : Stop → Bool → List TurnItem → List Kid → Bool → ServeOutcome
serve_outcome at_the_end once items kids output_failed =
    last_turn_outcome (last_item items) (turns_outcome once (first_end items) kids output_failed)
serve_outcome at_the_clock once items kids output_failed = Own (cause.Refused BadClock)
serve_outcome at_a_line once items kids output_failed = Own cause.Memory

-- When no further turn is made: all are, or one ended it; the clock went out of range before all were; or a line found no
-- memory.
abbrev pub StopsBy : Stop → Bool → Bool → ℕ → List TurnItem → ServeState → ServeState → Type 0
StopsBy at_the_end tells once turns items last new =
    ((length items ≡ turns) ⊎ (ends_after once (last_item items) last.spool.daemon.kids ≡ true)) × (new ≡ last)
StopsBy at_the_clock tells once turns items last new =
    (length items < turns) × (ends_after once (last_item items) last.spool.daemon.kids ≡ false)
    × ServeStopsAtClock tells once (last_item items) last new
StopsBy at_a_line tells once turns items last new = new ≡ last

-- the cause that an outcome is of
abbrev pub cause_of_outcome : ServeOutcome → Cause
cause_of_outcome (OfTurn of) = of
cause_of_outcome (Own of) = of
