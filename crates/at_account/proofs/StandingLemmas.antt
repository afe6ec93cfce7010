-- What records say of a job, with one more record.
use Rattle.std.proofs.Common.{◌≡◌, ◌∙◌, ℕ, Bool, true, false, List, [], ◌∷◌, ◌++◌, Option, Some, None, cond, refl, sym, ap, subst, arith}
use Rattle.std.specs.Prelude.{◌==◌, not}
use Rattle.std.specs.BTreeMap as tree
use Rattle.std.specs.BTreeMap.{BTreeMap, is_at}
use Rattle.std.specs.Ordering.{nat_cmp}
use Rattle.std.proofs.lemmas.Bool.Decides.{nat_tests}
use Rattle.std.proofs.Math.Bool.{or-false, or-true}
use Rattle.record_lines.proofs.SayingLemmas as saying
use Rattle.record_lines.proofs.SayingLemmas.{any_else, any_here, any_more, none_says, saying_names}
use Rattle.at_account.specs.declared.ledger.RecordState.{RecordState}
use Rattle.at_account.specs.declared.record.AccountEvent.{AccountEvent}
use Rattle.at_account.specs.declared.record.AccountEvent.TheVariants.{Closed, Seen, Started}
use Rattle.at_account.specs.declared.record.AccountRecord.{AccountRecord}
use Rattle.at_account.specs.Records.{is_closing_event, is_seeing, is_seeing_of, is_start, may_be_noted, is_record_allowed, is_account_record_of}
use Rattle.at_account.specs.RecordStates.{AreRecordStates, IsRecordStateAt, event_may_follow, record_state_after}

-- the standing tells what may come
pub told_by : (records : List AccountRecord) (number : ℕ) (record_state : Option RecordState) (event : AccountEvent)
    → IsRecordStateAt records number record_state
    → may_be_noted records number event ≡ event_may_follow record_state event
told_by records number None (Seen owner) holds = ap not holds
told_by records number None Started holds =
    rw (none_says (is_account_record_of number) (λ one. is_seeing one.event) records holds) refl
told_by records number None (Closed closing) holds =
    rw (none_says (is_account_record_of number) (λ one. is_seeing one.event) records holds) refl
told_by records number (Some record_state) (Seen owner) holds =
    ap not (saying_names (is_account_record_of number) (λ one. is_seeing one.event) records holds.seen)
told_by records number (Some record_state) Started holds = rw (holds.seen, holds.started, holds.closed) refl
told_by records number (Some record_state) (Closed closing) holds = rw (holds.seen, holds.closed) refl

-- a record of another number
pub holds_else : (records : List AccountRecord) (number : ℕ) (record_state : Option RecordState) (next : AccountRecord)
    → is_account_record_of number next ≡ false
    → IsRecordStateAt records number record_state → IsRecordStateAt (records ++ next ∷ []) number record_state
holds_else records number None next apart holds = any_more (is_account_record_of number) records next ∙ rw (holds, apart) refl
holds_else records number (Some record_state) next apart holds = record {
  seen = any_else (is_account_record_of number) (λ one. is_seeing one.event) records next apart ∙ holds.seen;
  owner = λ other. any_else (is_account_record_of number) (λ one. is_seeing_of other one.event) records next apart ∙ holds.owner other;
  started = any_else (is_account_record_of number) (λ one. is_start one.event) records next apart ∙ holds.started;
  closed = any_else (is_account_record_of number) (λ one. is_closing_event one.event) records next apart ∙ holds.closed;
}

-- a record of the number, which may come
pub holds_here : (records : List AccountRecord) (number : ℕ) (record_state : Option RecordState) (next : AccountRecord)
    → is_account_record_of number next ≡ true
    → (event : AccountEvent) → next.event ≡ event → event_may_follow record_state event ≡ true
    → IsRecordStateAt records number record_state → IsRecordStateAt (records ++ next ∷ []) number (record_state_after record_state event)
holds_here records number None next here (Seen owner) is may holds = record {
  seen = any_here (is_account_record_of number) (λ one. is_seeing one.event) records next here
      ∙ rw (none_says (is_account_record_of number) (λ one. is_seeing one.event) records holds, is) refl;
  owner = λ other. any_here (is_account_record_of number) (λ one. is_seeing_of other one.event) records next here
      ∙ rw (none_says (is_account_record_of number) (λ one. is_seeing_of other one.event) records holds, is) refl;
  started = any_here (is_account_record_of number) (λ one. is_start one.event) records next here
      ∙ rw (none_says (is_account_record_of number) (λ one. is_start one.event) records holds, is) refl;
  closed = any_here (is_account_record_of number) (λ one. is_closing_event one.event) records next here
      ∙ rw (none_says (is_account_record_of number) (λ one. is_closing_event one.event) records holds, is) refl;
}
holds_here records number None next here Started is may holds = absurd cc
holds_here records number None next here (Closed closing) is may holds = absurd cc
holds_here records number (Some record_state) next here (Seen owner) is may holds = absurd cc
holds_here records number (Some record_state) next here Started is may holds = record {
  seen = any_here (is_account_record_of number) (λ one. is_seeing one.event) records next here ∙ rw holds.seen refl;
  owner = λ other. any_here (is_account_record_of number) (λ one. is_seeing_of other one.event) records next here
      ∙ rw (holds.owner other, is) (or-false _);
  started = any_here (is_account_record_of number) (λ one. is_start one.event) records next here ∙ rw is (or-true _);
  closed = any_here (is_account_record_of number) (λ one. is_closing_event one.event) records next here
      ∙ rw (holds.closed, is) (or-false _);
}
holds_here records number (Some record_state) next here (Closed closing) is may holds = record {
  seen = any_here (is_account_record_of number) (λ one. is_seeing one.event) records next here ∙ rw holds.seen refl;
  owner = λ other. any_here (is_account_record_of number) (λ one. is_seeing_of other one.event) records next here
      ∙ rw (holds.owner other, is) (or-false _);
  started = any_here (is_account_record_of number) (λ one. is_start one.event) records next here ∙ rw (holds.started, is) (or-false _);
  closed = any_here (is_account_record_of number) (λ one. is_closing_event one.event) records next here ∙ rw is (or-true _);
}

-- what may come has a standing
none_after : (record_state : Option RecordState) (event : AccountEvent) → event_may_follow record_state event ≡ true
    → record_state_after record_state event ≡ None → ⊥
none_after None (Seen owner) may none = cc
none_after None Started may none = cc
none_after None (Closed closing) may none = cc
none_after (Some record_state) (Seen owner) may none = cc
none_after (Some record_state) Started may none = cc
none_after (Some record_state) (Closed closing) may none = cc

-- one more record, which may come, in a map that has the number's standing after it
pub stand_more : (records : List AccountRecord) (next : AccountRecord) (old new : BTreeMap ℕ RecordState) (record_state : RecordState)
    → AreRecordStates records old → is_record_allowed records next ≡ true
    → record_state_after (tree.get nat_cmp old next.number) next.event ≡ Some record_state
    → ((other : ℕ) → tree.get nat_cmp new other ≡ cond (is_at (nat_cmp next.number) other) (Some record_state) (tree.get nat_cmp old other))
    → AreRecordStates (records ++ next ∷ []) new
stand_more records next old new record_state stand may after updates =
    let here : event_may_follow (tree.get nat_cmp old next.number) next.event ≡ true =
    sym (told_by records next.number (tree.get nat_cmp old next.number) next.event (stand next.number)) ∙ may in
    let same : (next.number == next.number) ≡ true = grind (arith, nat_tests) in
    saying.stand_more (IsRecordStateAt (records ++ next ∷ [])) old new next.number record_state updates
    (subst (IsRecordStateAt (records ++ next ∷ []) next.number) after
    (holds_here records next.number (tree.get nat_cmp old next.number) next same next.event refl here (stand next.number)))
    (λ other apart. holds_else records other (tree.get nat_cmp old other) next apart (stand other))

-- where there is no standing after a record, it may not come
pub none_more : (records : List AccountRecord) (next : AccountRecord) (old : BTreeMap ℕ RecordState) → AreRecordStates records old
    → is_record_allowed records next ≡ true
    → record_state_after (tree.get nat_cmp old next.number) next.event ≡ None → ⊥
none_more records next old stand may after =
    none_after (tree.get nat_cmp old next.number) next.event
    (sym (told_by records next.number (tree.get nat_cmp old next.number) next.event (stand next.number)) ∙ may) after

-- the standing of the number decides whether a record may come
pub may_decided : (records : List AccountRecord) (next : AccountRecord) (old : BTreeMap ℕ RecordState) (answer : Bool)
    → AreRecordStates records old
    → answer ≡ event_may_follow (tree.get nat_cmp old next.number) next.event → is_record_allowed records next ≡ answer
may_decided records next old answer stand is =
    told_by records next.number (tree.get nat_cmp old next.number) next.event (stand next.number) ∙ sym is
