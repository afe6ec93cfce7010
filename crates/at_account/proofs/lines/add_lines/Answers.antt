use Rattle.at_account.proofs.ShowLemmas.{lines_all, lines_more}
use Rattle.at_account.proofs.lines.add_lines.Goals as goal

pub loop-line-preserved : goal.loop-line-preserved
loop-line-preserved c =
    lines_more c.args.text.now.items c.loop-line.text.items c.add_owner_line.new.text.items c.args.lines.now c.loop-line.line-index
    c.line-item.result c.loop-line-test.true c.line-item.is c.loop-line.invariant c.in_ok-add_owner_line.ensures

pub returns : goal.returns
returns c = lines_all c.args.text.now.items c.loop-line.text.items c.args.lines.now c.loop-line.line-index
    c.loop-line-test.false c.loop-line.invariant
