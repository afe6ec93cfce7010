-- What follows of serving.
use Rattle.std.proofs.Common.{◌≡◌, ◌≤◌, ℕ, Bool, true, false, List, [], ◌∷◌, ◌++◌, refl, sym, subst, inl, inr, arith}
use Rattle.host_calls.specs.Causes.{Rose}
use Rattle.host_calls.specs.Session.{KeepsCounts, Session}
use Rattle.host_calls.specs.World.{reading}
use Rattle.listing_text.specs.declared.cause.Cause.{Cause}
use Rattle.tool_output.specs.Sinks.{SinkAt}
use Rattle.daemon_turn.specs.declared.kid.Kid.{Kid}
use Rattle.host_calls.specs.declared.turn_end.TurnEnd.{TurnEnd}
use Rattle.host_calls.specs.declared.turn_end.TurnEnd.TheVariants.{Done, Memory}
use Rattle.daemon_turn.specs.Laws.{IsDoneOrMemory}
use Rattle.step_runs.specs.Good.{IsGood}
use Rattle.daemon_turn.specs.TurnOutcome.{DaemonAt}
use Rattle.daemon_turn.proofs.LawLemmas.{readings_stay_good, turns_are_done}
use Rattle.serving.specs.Items.{TurnItem, first_end, last_item}
use Rattle.serving.specs.Laws.{IsLastInRange, IsServedWell, ServingIsDone}
use Rattle.serving.specs.Outcomes.{Stop, StopsBy, at_a_line, at_the_clock, at_the_end, damage_outcome, end_outcome, kids_outcome, last_turn_outcome, serve_outcome, turns_outcome}
use Rattle.serving.specs.Serves.{ServeState, Served, Serves, next_turn, no_turn}
use Rattle.tool_output.specs.Outside.{Telling}
use Rattle.serving.specs.Serving.{SaysServeOutcome}
use Rattle.serving.specs.declared.outcome.ServeOutcome.{ServeOutcome}
use Rattle.serving.specs.declared.outcome.ServeOutcome.TheVariants.{OfTurn, Own}
use Rattle.serving.proofs.OutcomeLemmas.{stops_spool}
use Rattle.serving.proofs.ServeLemmas.{serves_counts}

-- each of the turns was done, or ran out of memory
abbrev pub AreWell : List TurnItem → Type 0
AreWell [] = Unit {0}
AreWell (item ∷ items) = IsDoneOrMemory item.end × AreWell items

well_more : (items : List TurnItem) (item : TurnItem) → AreWell items → IsDoneOrMemory item.end → AreWell (items ++ item ∷ [])
well_more [] item well last = (last, tt)
well_more (one ∷ items) item (here, well) last = (here, well_more items item well last)

-- the reading shows a table
abbrev pub ReadsGood : DaemonAt → Type 0
ReadsGood at = IsGood (reading at.world)

-- no fault of the spool rose
pub record IsSound (old new : Session) : Type 0 where
  pub taken : ¬ (Rose old.taken new.taken)
  pub files : ¬ (Rose old.file_faults new.file_faults)

-- turns that the outside didn't hinder
pub record GoWell (items : List TurnItem) (at : DaemonAt) : Type 0 where
  pub well : AreWell items
  pub good : ReadsGood at

module _ (tells : Telling) (once : Bool) (first : ServeState) (known : tells.files ≡ true) (alone : tells.alone ≡ true)
    (opening : ReadsGood first.spool) where
  served_well : (before : List TurnItem) (item : TurnItem) (rested after : ServeState) → Served tells once before item rested after
      → ReadsGood rested.spool
      → IsSound rested.spool.session after.spool.session → GoWell (item ∷ []) after.spool
  served_well before item rested after served good sound = record {
    well = (
      turns_are_done tells.files tells.alone _ rested.spool after.spool item.end item.steps served.turn known alone good.0 good.1
          sound.taken sound.files,
      tt,
    );
    good = readings_stay_good tells.files tells.alone _ rested.spool after.spool item.end item.steps served.turn known alone good;
  }

  pub go_well : (items : List TurnItem) (last : ServeState) → Serves tells once first items last
      → IsSound first.spool.session last.spool.session → GoWell items last.spool
  go_well _ _ no_turn sound = record { well = tt; good = opening }
  go_well _ _ (next_turn before item last rested after serves goes_on rests served) sound =
      let same : rested.spool ≡ last.spool = rests.spool in
      let counts : KeepsCounts last.spool.session after.spool.session =
      subst (λ (spool : DaemonAt). KeepsCounts spool.session after.spool.session) same served.turn.counts in
      let up_to : KeepsCounts first.spool.session last.spool.session = serves_counts tells once first before last serves in
      let earlier : GoWell before last.spool = go_well before last serves (record {
        taken = λ rose. sound.taken (let later : last.spool.session.taken ≤ after.spool.session.taken = counts.taken in
            let risen : Rose first.spool.session.taken last.spool.session.taken = rose in omega arith);
        files = λ rose. sound.files (let later : last.spool.session.file_faults ≤ after.spool.session.file_faults = counts.file_faults in
            let risen : Rose first.spool.session.file_faults last.spool.session.file_faults = rose in omega arith);
      }) in
      let here : IsSound last.spool.session after.spool.session = record {
        taken = λ rose. sound.taken (let before_it : first.spool.session.taken ≤ last.spool.session.taken = up_to.taken in
            let risen : Rose last.spool.session.taken after.spool.session.taken = rose in omega arith);
        files = λ rose. sound.files (let before_it : first.spool.session.file_faults ≤ last.spool.session.file_faults = up_to.file_faults in
            let risen : Rose last.spool.session.file_faults after.spool.session.file_faults = rose in omega arith);
      } in
      let now : GoWell (item ∷ []) after.spool = served_well before item rested after served (subst ReadsGood (sym same) earlier.good)
      (subst (λ (spool : DaemonAt). IsSound spool.session after.spool.session) (sym same) here) in
      record { well = well_more before item earlier.well now.well.0; good = now.good }

-- Its result then.

abbrev pub IsWellFor : ServeOutcome → Type 0
IsWellFor (OfTurn of) = IsServedWell of
IsWellFor (Own of) = IsServedWell of

kids_well : (kids : List Kid) (output_failed : Bool) → ¬ (output_failed ≡ true) → IsWellFor (kids_outcome kids output_failed)
kids_well [] false unfailed = tt
kids_well [] true unfailed = absurd (unfailed refl)
kids_well (kid ∷ kids) output_failed unfailed = tt

end_well : (end : TurnEnd) (other : ServeOutcome) → IsDoneOrMemory end → IsWellFor other → IsWellFor (end_outcome end other)
end_well Done other well rest = rest
end_well Memory other well rest = tt
end_well _ other well rest = absurd well

turns_well : (once : Bool) (items : List TurnItem) (kids : List Kid) (output_failed : Bool) → AreWell items → ¬ (output_failed ≡ true)
    → IsWellFor (turns_outcome once (first_end items) kids output_failed)
turns_well true [] kids output_failed well unfailed = kids_well kids output_failed unfailed
turns_well true (item ∷ items) kids output_failed well unfailed =
    end_well item.end (kids_outcome kids output_failed) well.0 (kids_well kids output_failed unfailed)
turns_well false items kids output_failed well unfailed = kids_well [] output_failed unfailed

damage_well : (end : TurnEnd) (other : ServeOutcome) → IsDoneOrMemory end → IsWellFor other → IsWellFor (damage_outcome end other)
damage_well Done other well rest = rest
damage_well Memory other well rest = rest
damage_well _ other well rest = absurd well

last_well : (items : List TurnItem) (other : ServeOutcome) → AreWell items → IsWellFor other
    → IsWellFor (last_turn_outcome (last_item items) other)
last_well [] other well rest = rest
last_well (item ∷ []) other well rest = damage_well item.end other well.0 rest
last_well (item ∷ next ∷ items) other well rest = last_well (next ∷ items) other well.1 rest

stop_well : (stop : Stop) (tells once : Bool) (turns : ℕ) (items : List TurnItem) (last new : ServeState) (kids : List Kid)
    (output_failed : Bool) → tells ≡ true
    → StopsBy stop tells once turns items last new → AreWell items → ¬ (output_failed ≡ true) → IsLastInRange new.clock.answers
    → IsWellFor (serve_outcome stop once items kids output_failed)
stop_well at_the_end tells once turns items last new kids output_failed known stops well unfailed range =
    last_well items (turns_outcome once (first_end items) kids output_failed) well (turns_well once items kids output_failed well unfailed)
stop_well at_the_clock tells once turns items last new kids output_failed known stops well unfailed range =
    absurd (stops.2.out (range stops.2.now stops.2.rested.clock.answers (stops.2.known known)))
stop_well at_a_line tells once turns items last new kids output_failed known stops well unfailed range = tt

said_well : (tells : Bool) (outcome : ServeOutcome) (before beyond : SinkAt) (final : Cause)
    → SaysServeOutcome tells outcome before beyond final → IsWellFor outcome → IsServedWell final
said_well tells (OfTurn of) before beyond final says well = subst IsServedWell (sym says.0) well
said_well tells (Own of) before beyond final (inl says) well = subst IsServedWell (sym says.0) well
said_well tells (Own of) before beyond final (inr says) well = subst IsServedWell (sym says.1) tt

pub serving_is_done : ServingIsDone
serving_is_done tells once turns old new out_old out_new err_old err_new final serving known alone clock good no_taken
    no_fault no_output range =
    let same : new.spool ≡ serving.last.spool =
    stops_spool serving.stop tells.clock once turns serving.items serving.last new serving.stops in
    let sound : IsSound old.spool.session new.spool.session = record { taken = no_taken; files = no_fault } in
    let well : GoWell serving.items serving.last.spool = go_well tells once old known alone good serving.items serving.last serving.serves
    (subst (λ (spool : DaemonAt). IsSound old.spool.session spool.session) same sound) in
    said_well tells.errors _ serving.between err_new final serving.outcome
    (stop_well serving.stop tells.clock once turns serving.items serving.last new serving.last.spool.daemon.kids serving.output_failed
    clock serving.stops well.well
    (λ output_failed. no_output (serving.prints.rose output_failed)) range)
