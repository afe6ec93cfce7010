use Rattle.std.proofs.Common.{length, take, ◌-◌, ◌≤◌}
use Rattle.record_lines.specs.Lines.{AreRecordLines}
use Rattle.record_lines.proofs.reader.read_lines.Given as goal

abbrev pub invariant-loop-offset : goal.invariant-loop-offset
invariant-loop-offset g l =
    (l.offset ≤ length l.bytes)
    × AreRecordLines g.R.LineRecord.spells g.K.Keeper.legal (take l.offset l.bytes) l.records.items
    × g.K.Keeper.tells l.records.items l.keeper

abbrev pub decreases-loop-offset : goal.decreases-loop-offset
decreases-loop-offset g l = length l.bytes - l.offset
