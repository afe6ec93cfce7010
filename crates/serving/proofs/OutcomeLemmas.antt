-- Why serving comes to its result.
use Rattle.std.proofs.Common.{◌≡◌, ℕ, Bool, true, false, List, [], ◌∷◌, refl, sym, ap, subst, ◌∙◌, inl, inr}
use Rattle.std.specs.Prelude.{Option, Some, None}
use Rattle.host_calls.specs.Causes.{Rose}
use Rattle.host_calls.specs.Session.{Session}
use Rattle.listing_text.specs.declared.cause.Cause.{Cause}
use Rattle.listing_text.specs.declared.cause.Cause.TheVariants as cause
use Rattle.tool_output.specs.Sinks.{SinkAt}
use Rattle.daemon_turn.specs.TurnOutcome.{DaemonAt}
use Rattle.daemon_turn.specs.declared.kid.Kid.{Kid}
use Rattle.host_calls.specs.declared.turn_end.TurnEnd.{TurnEnd}
use Rattle.host_calls.specs.declared.turn_end.TurnEnd.TheVariants.{Done, Busy, FileFault, Damaged, Memory}
use Rattle.serving.specs.Items.{TurnItem, ends_after, first_end, is_last_turn, last_item}
use Rattle.serving.specs.Outcomes.{Stop, StopsBy, at_a_line, at_the_clock, at_the_end, damage_outcome, end_outcome, kids_outcome, last_turn_outcome, serve_outcome, output_outcome, turns_outcome}
use Rattle.serving.specs.Serves.{ServeState}
use Rattle.tool_output.specs.Outside.{Telling}
use Rattle.serving.specs.Serving.{SaysServeOutcome}
use Rattle.serving.specs.declared.outcome.ServeOutcome.{ServeOutcome}
use Rattle.serving.specs.declared.outcome.ServeOutcome.TheVariants.{OfTurn, Own}
use Rattle.serving.specs.inside.NextTurn.{HasEnded}
use Rattle.serving.proofs.ServeLemmas.{RoseFirst, rose_first}

-- what the outside has to have done where serving comes to a cause
abbrev pub IsCaused : Cause → Session → Session → SinkAt → SinkAt → Type 0
IsCaused cause.FileFault old new was is = Rose old.file_faults new.file_faults
IsCaused cause.Busy old new was is = Rose old.taken new.taken
IsCaused cause.OutputFault old new was is = Rose was.faults is.faults
IsCaused cause.InputFault old new was is = ⊥
IsCaused _ old new was is = Unit {0}

abbrev pub IsCausedFor : ServeOutcome → Session → Session → SinkAt → SinkAt → Type 0
IsCausedFor (OfTurn of) old new was is = IsCaused of old new was is
IsCausedFor (Own of) old new was is = IsCaused of old new was is

module _ (old new : Session) (was is : SinkAt) (output_failed : Bool) (rose : output_failed ≡ true → Rose was.faults is.faults) where
  output_caused : IsCausedFor (output_outcome output_failed) old new was is
  output_caused = by_output_failed output_failed rose where
    by_output_failed : (flag : Bool) → (flag ≡ true → Rose was.faults is.faults) → IsCausedFor (output_outcome flag) old new was is
    by_output_failed true risen = risen refl
    by_output_failed false risen = tt

  kids_caused : (kids : List Kid) → IsCausedFor (kids_outcome kids output_failed) old new was is
  kids_caused [] = output_caused
  kids_caused (kid ∷ kids) = tt

  end_caused : (end : TurnEnd) (other : ServeOutcome) → RoseFirst (Some end) old new → IsCausedFor other old new was is
      → IsCausedFor (end_outcome end other) old new was is
  end_caused Done other risen caused = caused
  end_caused Busy other risen caused = risen
  end_caused FileFault other risen caused = risen
  end_caused (Damaged damage) other risen caused = tt
  end_caused Memory other risen caused = tt

  turns_caused : (once : Bool) (first : Option TurnEnd) (kids : List Kid) → RoseFirst first old new
      → IsCausedFor (turns_outcome once first kids output_failed) old new was is
  turns_caused true None kids risen = kids_caused kids
  turns_caused true (Some end) kids risen = end_caused end (kids_outcome kids output_failed) risen (kids_caused kids)
  turns_caused false first kids risen = output_caused

  damage_caused : (end : TurnEnd) (other : ServeOutcome) → IsCausedFor other old new was is
      → IsCausedFor (damage_outcome end other) old new was is
  damage_caused Done other caused = caused
  damage_caused Busy other caused = caused
  damage_caused FileFault other caused = caused
  damage_caused (Damaged damage) other caused = tt
  damage_caused Memory other caused = caused

  last_caused : (last : Option TurnItem) (other : ServeOutcome) → IsCausedFor other old new was is
      → IsCausedFor (last_turn_outcome last other) old new was is
  last_caused None other caused = caused
  last_caused (Some item) other caused = damage_caused item.end other caused

  outcome_caused : (stop : Stop) (once : Bool) (items : List TurnItem) (kids : List Kid) → RoseFirst (first_end items) old new
      → IsCausedFor (serve_outcome stop once items kids output_failed) old new was is
  outcome_caused at_the_end once items kids risen =
      last_caused (last_item items) (turns_outcome once (first_end items) kids output_failed)
      (turns_caused once (first_end items) kids risen)
  outcome_caused at_the_clock once items kids risen = tt
  outcome_caused at_a_line once items kids risen = tt

-- what is said at the end is caused as what serving comes to
said_caused : (tells : Bool) (outcome : ServeOutcome) (final : Cause) (before after : SinkAt) (old new : Session) (was is : SinkAt)
    → SaysServeOutcome tells outcome before after final → IsCausedFor outcome old new was is → IsCaused final old new was is
said_caused tells (OfTurn of) final before after old new was is says caused =
    subst (λ (other : Cause). IsCaused other old new was is) (sym says.0) caused
said_caused tells (Own of) final before after old new was is (inl says) caused =
    subst (λ (other : Cause). IsCaused other old new was is) (sym says.0) caused
said_caused tells (Own of) final before after old new was is (inr says) caused =
    subst (λ (other : Cause). IsCaused other old new was is) (sym says.1) tt

-- the spool is that after the last turn
pub stops_spool : (stop : Stop) (tells once : Bool) (turns : ℕ) (items : List TurnItem) (last now : ServeState)
    → StopsBy stop tells once turns items last now → now.spool ≡ last.spool
stops_spool at_the_end tells once turns items last now stops = ap (λ (at : ServeState). at.spool) stops.1
stops_spool at_the_clock tells once turns items last now stops =
    stops.2.spool ∙ stops.2.rests.spool
stops_spool at_a_line tells once turns items last now stops = ap (λ (at : ServeState). at.spool) stops

pub ended_caused : (tells : Telling) (once : Bool) (turns : ℕ) (first now : ServeState)
    (out_first out_now err_first err_now err_end : SinkAt) (outcome : ServeOutcome) (final : Cause)
    → HasEnded tells once turns first now out_first out_now err_first err_now outcome
    → SaysServeOutcome tells.errors outcome err_now err_end final
    → IsCaused final first.spool.session now.spool.session out_first out_now
ended_caused tells once turns first now out_first out_now err_first err_now err_end outcome final ended says =
    subst (λ (spool : DaemonAt). IsCaused final first.spool.session spool.session out_first out_now)
    (sym (stops_spool ended.stop tells.clock once turns ended.items ended.last now ended.stops))
    (said_caused tells.errors outcome final err_now err_end first.spool.session ended.last.spool.session out_first out_now says
    (subst (λ (other : ServeOutcome). IsCausedFor other first.spool.session ended.last.spool.session out_first out_now) (sym ended.comes)
    (outcome_caused first.spool.session ended.last.spool.session out_first out_now ended.output_failed ended.prints.rose ended.stop once
    ended.items ended.last.spool.daemon.kids
    (rose_first tells once first ended.items ended.last ended.serves))))

caused_for : (final cause : Cause) (old new : Session) (was is : SinkAt) → IsCaused final old new was is → final ≡ cause
    → IsCaused cause old new was is
caused_for final cause old new was is caused same = subst (λ (other : Cause). IsCaused other old new was is) same caused

-- the faults that it can be, one by one
pub risen_by : (final : Cause) (old new : Session) (was is : SinkAt) → IsCaused final old new was is →
    (final ≡ cause.FileFault → Rose old.file_faults new.file_faults) × (final ≡ cause.Busy → Rose old.taken new.taken)
    × (final ≡ cause.OutputFault → Rose was.faults is.faults) × (final ≡ cause.InputFault → ⊥)
risen_by final old new was is caused = (
  caused_for final cause.FileFault old new was is caused,
  caused_for final cause.Busy old new was is caused,
  caused_for final cause.OutputFault old new was is caused,
  caused_for final cause.InputFault old new was is caused,
)

-- where a further turn is to come, the last one found no damage
pub no_damage : (once : Bool) (last : Option TurnItem) (kids : List Kid) (other : ServeOutcome) → ends_after once last kids ≡ false
    → last_turn_outcome last other ≡ other
no_damage once None kids other further = refl
no_damage once (Some item) kids other further = by_end item.end further where
  by_end : (end : TurnEnd) → is_last_turn once end kids ≡ false → damage_outcome end other ≡ other
  by_end Done so = refl
  by_end Busy so = refl
  by_end FileFault so = refl
  by_end (Damaged damage) so = cc
  by_end Memory so = refl
