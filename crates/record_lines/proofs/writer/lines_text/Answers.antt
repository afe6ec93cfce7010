use Rattle.record_lines.proofs.FileLemmas.{line_at}
use Rattle.record_lines.proofs.writer.lines_text.Goals as goal

pub loop-one-preserved : goal.loop-one-preserved
loop-one-preserved g c =
    let added = c.in_ok-write.ensures in
    rw c.in_ok-push.ensures.items
    (line_at g.R.LineRecord.spells c.loop-one.text.items added.line c.write.new.text.items c.args.records.now
    c.loop-one.one-index c.one-item.result
    c.loop-one-test.true c.one-item.is added.added c.loop-one.invariant added.whole added.spelled)
