use Rattle.std.proofs.Common.{take}
use Rattle.record_lines.specs.Lines.{AreSpelled}
use Rattle.record_lines.proofs.writer.lines_text.Given as goal

abbrev pub invariant-loop-one : goal.invariant-loop-one
invariant-loop-one g l = AreSpelled g.R.LineRecord.spells l.text.items (take l.one-index l.records)
