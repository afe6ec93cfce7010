use Rattle.std.proofs.Common.{◌≡◌, ◌≤◌, drop}
use Rattle.at_words.specs.Tools.{last_part, part_after}
use Rattle.at_words.proofs.tool.file_name.Given as goal

abbrev pub invariant-loop-place : goal.invariant-loop-place
invariant-loop-place l =
    record { within : l.start ≤ l.place; same : part_after (drop l.start l.word) (drop l.place l.word) ≡ last_part l.word }
