use Rattle.std.proofs.Common.{◌++◌, append-nil, subst, sym, take}
use Rattle.std.proofs.lemmas.List.{take_all}
use Rattle.at_account.specs.inside.OwnerCounts.{IsTallyOf}
use Rattle.at_account.proofs.GatheringLemmas.{so_far_more}
use Rattle.at_account.proofs.tally.count_all.Goals as goal

pub loop-one-init : goal.loop-one-init
loop-one-init c all counted ledger tally = subst (λ r. IsTallyOf all r c.args.tally.now) (sym (append-nil counted)) tally

pub loop-one-preserved : goal.loop-one-preserved
loop-one-preserved c all counted ledger tally =
    let place = c.loop-one.one-index in
    let records = c.args.records.now in
    subst (λ r. IsTallyOf all r c.count_one.new.tally)
    (so_far_more counted records place c.one-item.result c.loop-one-test.true c.one-item.is)
    (c.in_ok-count_one.ensures all (counted ++ take place records) ledger (c.loop-one.invariant all counted ledger tally))

pub returns : goal.returns
returns c all counted ledger tally =
    subst (λ r. IsTallyOf all (counted ++ r) c.loop-one.tally) (take_all c.loop-one.one-index c.args.records.now c.loop-one-test.false)
    (c.loop-one.invariant all counted ledger tally)
