use Rattle.std.proofs.Common.{◌≡◌, ◌∙◌, ◌++◌, ◌+◌, ◌<◌, [], ap, arith, length, length-append, subst, sym}
use Rattle.std.specs.List.{All}
use Rattle.record_lines.specs.Lines.{AreLegalAfter, CanBeSpelled}
use Rattle.at_account.specs.Lines.{SpellsRecord}
use Rattle.at_account.specs.Records.{IsRecordAllowed}
use Rattle.at_account.specs.RecordStates.{IsLedgerOf}
use Rattle.at_account.specs.ObservedTable.{AreNews, IsObserved, WouldPass, known_in}
use Rattle.at_account.proofs.AccountLemmas.{grown}
use Rattle.at_account.proofs.WritableLemmas.{all_can_be_written}
use Rattle.at_account.proofs.account.Account.observe.Goals as goal

pub returns-then-old-new-gt-MAX_RECORDS-clause-full : goal.returns-then-old-new-gt-MAX_RECORDS-clause-full
returns-then-old-new-gt-MAX_RECORDS-clause-full c same table live done =
    let old = c.as_slice-old.result.now in
    let in_turn : AreLegalAfter IsRecordAllowed [] old =
    subst (AreLegalAfter IsRecordAllowed []) (sym c.as_slice-old.ensures.value) c.self.invariant.in_turn in
    let ledger : IsLedgerOf old c.add_records.new.ledger = c.in_ok-add_records.ensures [] c.new-ledger.ensures in_turn in
    let are : AreNews old table c.in_ok-new_records.new_records.items =
    c.in_ok-new_records.ensures.are old (known_in table) ledger (c.in_ok-jobs.ensures table live done) in
    let kept : old ≡ c.args.self.now = cc in
    subst (λ records. WouldPass records table) kept (record {
      new_records = c.in_ok-new_records.new_records.items;
      are = are;
      many = subst (λ new_records. 100000 < length old + length new_records) c.as_slice-new.ensures.value (omega arith);
    })

pub invariant_of-self-2 : goal.invariant_of-self-2
invariant_of-self-2 c =
    let old = c.as_slice-old.result.now in
    let new = c.as_slice-new.result.now in
    let in_turn : AreLegalAfter IsRecordAllowed [] old =
    subst (AreLegalAfter IsRecordAllowed []) (sym c.as_slice-old.ensures.value) c.self.invariant.in_turn in
    let ledger : IsLedgerOf old c.add_records.new.ledger = c.in_ok-add_records.ensures [] c.new-ledger.ensures in_turn in
    let may : AreLegalAfter IsRecordAllowed old new =
    subst (AreLegalAfter IsRecordAllowed old) (sym c.as_slice-new.ensures.value) (c.in_ok-new_records.ensures.in_turn old ledger) in
    let whole : IsLedgerOf (old ++ new) c.add_records-2.new.ledger = c.in_ok-add_records-2.ensures old ledger may in
    grown old new c.extend_from_slice.new.self.items c.in_ok-totals.totals.items
    (c.in_ok-extend_from_slice.ensures.items ∙ ap (λ records. records ++ new) (sym c.as_slice-old.ensures.value)) in_turn may
    (c.in_ok-totals.ensures whole (omega (arith, length-append old new)))

pub returns-clause-observed : goal.returns-clause-observed
returns-clause-observed c table live done =
    let old = c.as_slice-old.result.now in
    let in_turn : AreLegalAfter IsRecordAllowed [] old =
    subst (AreLegalAfter IsRecordAllowed []) (sym c.as_slice-old.ensures.value) c.self.invariant.in_turn in
    let ledger : IsLedgerOf old c.add_records.new.ledger = c.in_ok-add_records.ensures [] c.new-ledger.ensures in_turn in
    let are : AreNews old table c.in_ok-new_records.new_records.items =
    c.in_ok-new_records.ensures.are old (known_in table) ledger (c.in_ok-jobs.ensures table live done) in
    let kept : old ≡ c.args.self.now = cc in
    subst (λ records. IsObserved records c.extend_from_slice.new.self.items table) kept (record {
      new_records = c.in_ok-new_records.new_records.items;
      added = c.in_ok-extend_from_slice.ensures.items
          ∙ ap (λ records. records ++ c.as_slice-new.result.now) (sym c.as_slice-old.ensures.value)
          ∙ ap (λ new_records. old ++ new_records) c.as_slice-new.ensures.value;
      are = are;
    })

pub returns-clause-spelled : goal.returns-clause-spelled
returns-clause-spelled c can table sound live done letters =
    let old = c.as_slice-old.result.now in
    let in_turn : AreLegalAfter IsRecordAllowed [] old =
    subst (AreLegalAfter IsRecordAllowed []) (sym c.as_slice-old.ensures.value) c.self.invariant.in_turn in
    let ledger : IsLedgerOf old c.add_records.new.ledger = c.in_ok-add_records.ensures [] c.new-ledger.ensures in_turn in
    let are : AreNews old table c.in_ok-new_records.new_records.items =
    c.in_ok-new_records.ensures.are old (known_in table) ledger (c.in_ok-jobs.ensures table live done) in
    let kept : old ≡ c.args.self.now = cc in
    all_can_be_written old c.in_ok-new_records.new_records.items c.args.rows.now table
    (subst (All (CanBeSpelled SpellsRecord)) (sym kept) can) sound live letters c.users_are_names.ensures are
    c.extend_from_slice.new.self.items
    (c.in_ok-extend_from_slice.ensures.items ∙ ap (λ records. records ++ c.as_slice-new.result.now) (sym c.as_slice-old.ensures.value)
    ∙ ap (λ new_records. old ++ new_records) c.as_slice-new.ensures.value)
