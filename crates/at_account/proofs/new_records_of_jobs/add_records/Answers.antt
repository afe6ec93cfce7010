use Rattle.std.proofs.Common.{◌++◌, append-nil, subst, sym, take}
use Rattle.std.proofs.lemmas.List.{take_all}
use Rattle.at_account.specs.Records.{IsRecordAllowed}
use Rattle.at_account.specs.RecordStates.{IsLedgerOf}
use Rattle.at_account.proofs.GatheringLemmas.{legal_at, so_far_more}
use Rattle.at_account.proofs.new_records_of_jobs.add_records.Goals as goal

pub loop-one-init : goal.loop-one-init
loop-one-init c before ledger legal = subst (λ r. IsLedgerOf r c.args.ledger.now) (sym (append-nil before)) ledger

pub loop-one-preserved : goal.loop-one-preserved
loop-one-preserved c before ledger legal =
    let place = c.loop-one.one-index in
    let records = c.args.records.now in
    subst (λ r. IsLedgerOf r c.add.new.self) (so_far_more before records place c.one-item.result c.loop-one-test.true c.one-item.is)
    (c.in_ok-add.ensures (before ++ take place records) (c.loop-one.invariant before ledger legal)
    (legal_at IsRecordAllowed before records place c.one-item.result c.loop-one-test.true c.one-item.is legal))

pub returns : goal.returns
returns c before ledger legal =
    subst (λ r. IsLedgerOf (before ++ r) c.loop-one.ledger) (take_all c.loop-one.one-index c.args.records.now c.loop-one-test.false)
    (c.loop-one.invariant before ledger legal)
