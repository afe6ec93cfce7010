use Rattle.std.proofs.Common.{subst}
use Rattle.std.specs.BTreeMap as tree
use Rattle.at_account.specs.inside.OwnerCounts.{AreRaised, owner_pair, pair_cmp}
use Rattle.at_account.proofs.TallyLemmas.{tally_more, tally_same}
use Rattle.at_account.proofs.tally.count_one.Goals as goal

pub returns : goal.returns
returns c all counted ledger tally =
    tally_more all counted c.args.one.now c.in-Some.record_state.now c.args.tally.now c.insert.new.self c.raised-counts.result
    (c.in-Some.ensures all ledger)
    (subst (λ kind. AreRaised (tree.get pair_cmp c.args.tally.now (owner_pair c.in-Some.record_state.now.owner)) kind
    c.raised-counts.result) c.kind_of_event.ensures.kind
    (subst (λ found. AreRaised found c.kind_of_event.result c.raised-counts.result) c.get.ensures.value c.raised-counts.ensures))
    c.in_ok-insert.ensures.updates.0 tally

pub returns-in_default : goal.returns-in_default
returns-in_default c all counted ledger tally =
    tally_same all counted c.args.one.now c.args.tally.now (c.in_default.ensures all ledger) tally
