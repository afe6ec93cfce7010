use Rattle.std.proofs.Common.{take}
use Rattle.cron_session.specs.Mark.{BeginsMark}
use Rattle.cron_session.proofs.mark_text.longest_start.Given as goal

abbrev pub invariant-loop-place : goal.invariant-loop-place
invariant-loop-place l = BeginsMark (take l.place l.bytes)
