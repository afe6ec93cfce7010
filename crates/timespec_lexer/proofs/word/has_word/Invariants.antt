use Rattle.std.proofs.Common.{◌≡◌, ◌+◌, ◌<◌, ℕ}
use Rattle.std.specs.Prelude.{slice_index}
use Rattle.std.specs.Char.{to_ascii_lowercase}
use Rattle.timespec_lexer.proofs.word.has_word.Given as goal

abbrev pub invariant-loop-offset : goal.invariant-loop-offset
invariant-loop-offset l =
    (k : ℕ) → k < l.offset → to_ascii_lowercase (slice_index l.text (l.place + k)) ≡ slice_index l.word k
