use Rattle.std.proofs.Common.{◌≡◌, [], length, drop}
use Rattle.text_reader.specs.Lines.{lines_of}
use Rattle.cron_text.specs.inside.Reader.{lines_in}
use Rattle.cron_text.proofs.crontab.read_crontab.Given as goal

abbrev pub invariant-loop-line : goal.invariant-loop-line
invariant-loop-line l =
    (goal.iterator-loop-line).can_next l.line-iterator
    × (l.number ≡ length l.yielded)
    × (lines_in l.entries.items l.number (drop (length l.yielded) (lines_of l.text)) ≡ lines_in [] 0 (lines_of l.text))
