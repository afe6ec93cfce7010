use Rattle.at_account.proofs.ShowLemmas.{counts_all, counts_more}
use Rattle.at_account.proofs.lines.add_counts.Goals as goal

pub loop-count-preserved : goal.loop-count-preserved
loop-count-preserved c =
    counts_more c.args.text.now.items c.loop-count.text.items c.add_count.new.text.items c.args.counts.now c.loop-count.count-index 0
    c.loop-count-test.true c.loop-count.invariant c.in_ok-add_count.ensures

pub returns : goal.returns
returns c = counts_all c.args.text.now.items c.loop-count.text.items c.args.counts.now c.loop-count.count-index
    c.loop-count-test.false c.loop-count.invariant
