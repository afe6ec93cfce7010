use Rattle.at_stat.proofs.LineLemmas.{one_more}
use Rattle.at_stat.proofs.report.report_of.Goals as goal

pub loop-number-preserved : goal.loop-number-preserved
loop-number-preserved c =
    one_more c.args.form c.args.zone.now c.args.store.now.table c.args.numbers.now c.loop-number.number-index 0 c.loop-number.text.items
    c.in_ok-put_number_line.ensures.line c.put_number_line.new.text.items c.loop-number-test.true c.loop-number.invariant
    c.in_ok-put_number_line.ensures.shown c.in_ok-put_number_line.ensures.put
