use Rattle.std.proofs.Common.{◌≡◌, length}
use Rattle.text_reader.specs.Blanks.{before_blanks}
use Rattle.text_reader.proofs.line.before_blanks.Given as goal

abbrev pub invariant-loop-rest : goal.invariant-loop-rest
invariant-loop-rest l = before_blanks l.rest ≡ before_blanks l.fn.line

abbrev pub decreases-loop-rest : goal.decreases-loop-rest
decreases-loop-rest l = length l.rest
