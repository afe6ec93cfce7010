-- What is new of a number may come after the records.
use Rattle.std.proofs.Common.{◌≡◌, ◌∙◌, ℕ, Bool, true, false, List, [], ◌∷◌, ◌++◌, Option, Some, None, refl, sym, subst, map, arith}
use Rattle.std.specs.Prelude.{◌&&◌, ◌==◌}
use Rattle.std.proofs.lemmas.Bool.{and_parts}
use Rattle.std.proofs.lemmas.Bool.Decides.{nat_tests}
use Rattle.record_lines.specs.Lines.{AreLegalAfter}
use Rattle.at_account.specs.declared.ledger.RecordState.{RecordState}
use Rattle.at_account.specs.declared.new_records.KnownJob.{KnownJob}
use Rattle.at_account.specs.declared.new_records.KnownJob.TheVariants.{Done, Live}
use Rattle.at_account.specs.declared.record.AccountEvent.{AccountEvent}
use Rattle.at_account.specs.declared.record.AccountRecord.{AccountRecord}
use Rattle.at_account.specs.declared.record.Owner.{Owner}
use Rattle.at_account.specs.News.{closing_event, fate_is_handed_over, news_of, records_of, said_by, seen_event, start_event}
use Rattle.at_account.specs.Records.{IsRecordAllowed}
use Rattle.at_account.specs.RecordStates.{IsRecordStateAt, event_may_follow, record_state_after}
use Rattle.at_account.proofs.NewsLemmas.{events_told}
use Rattle.at_account.proofs.StandingLemmas.{holds_here, told_by}

-- the record of an event
abbrev of_number : ℕ → AccountEvent → AccountRecord
of_number number event = record { number = number; event = event }

-- an event, if there is one
abbrev one_of : Option AccountEvent → List AccountEvent
one_of None = []
one_of (Some event) = event ∷ []

-- events that may come one after the other
abbrev may_all : Option RecordState → List AccountEvent → Bool
may_all record_state [] = true
may_all record_state (event ∷ later) = event_may_follow record_state event && may_all (record_state_after record_state event) later

legal_all : (before : List AccountRecord) (number : ℕ) (record_state : Option RecordState) (events : List AccountEvent)
    → IsRecordStateAt before number record_state
    → may_all record_state events ≡ true → AreLegalAfter IsRecordAllowed before (map (of_number number) events)
legal_all before number record_state [] holds may = tt
legal_all before number record_state (event ∷ later) holds may =
    let parts = and_parts (event_may_follow record_state event) (may_all (record_state_after record_state event) later) may in
    let same : (number == number) ≡ true = grind (arith, nat_tests) in (
      told_by before number record_state event holds ∙ parts.0,
      legal_all (before ++ of_number number event ∷ []) number (record_state_after record_state event) later
          (holds_here before number record_state (of_number number event) same event refl parts.0 holds) parts.1,
    )

-- the events as one list
each_of : (number : ℕ) (first second third : Option AccountEvent)
    → (records_of number first ++ records_of number second) ++ records_of number third
    ≡ map (of_number number) ((one_of first ++ one_of second) ++ one_of third)
each_of number None None None = refl
each_of number None None (Some third) = refl
each_of number None (Some second) None = refl
each_of number None (Some second) (Some third) = refl
each_of number (Some first) None None = refl
each_of number (Some first) None (Some third) = refl
each_of number (Some first) (Some second) None = refl
each_of number (Some first) (Some second) (Some third) = refl

-- the events of a job
abbrev events_of : Bool → Bool → Bool → Option KnownJob → List AccountEvent
events_of seen started closed known =
    (one_of (seen_event seen known) ++ one_of (start_event seen started closed known)) ++ one_of (closing_event seen closed known)

may_of_seen : (owner : Owner) (started closed : Bool) (known : Option KnownJob)
    → may_all (Some (record { owner = owner; started = started; closed = closed })) (events_of true started closed known) ≡ true
may_of_seen owner true true known = refl
may_of_seen owner false true known = refl
may_of_seen owner true false None = refl
may_of_seen owner true false (Some (Live other running)) = refl
may_of_seen owner true false (Some (Done fate)) = refl
may_of_seen owner false false None = refl
may_of_seen owner false false (Some (Live other true)) = refl
may_of_seen owner false false (Some (Live other false)) = refl
may_of_seen owner false false (Some (Done fate)) = by_test (fate_is_handed_over fate) refl where
  by_test : (handed : Bool) → fate_is_handed_over fate ≡ handed
      → may_all (Some (record { owner = owner; started = false; closed = false })) (events_of true false false (Some (Done fate))) ≡ true
  by_test true is = rw is refl
  by_test false is = rw is refl

may_of : (record_state : Option RecordState) (known : Option KnownJob)
    → may_all record_state (events_of (said_by record_state).seen (said_by record_state).started (said_by record_state).closed known) ≡ true
may_of None None = refl
may_of None (Some (Live owner true)) = refl
may_of None (Some (Live owner false)) = refl
may_of None (Some (Done fate)) = refl
may_of (Some record_state) known = may_of_seen record_state.owner record_state.started record_state.closed known

pub news_legal : (before : List AccountRecord) (number : ℕ) (record_state : Option RecordState) (known : Option KnownJob)
    → IsRecordStateAt before number record_state
    → AreLegalAfter IsRecordAllowed before (news_of before number known)
news_legal before number record_state known holds =
    let said = said_by record_state in
    subst (AreLegalAfter IsRecordAllowed before)
    (sym (each_of number (seen_event said.seen known) (start_event said.seen said.started said.closed known)
    (closing_event said.seen said.closed known))
    ∙ sym (events_told before number record_state known holds))
    (legal_all before number record_state (events_of said.seen said.started said.closed known) holds (may_of record_state known))
