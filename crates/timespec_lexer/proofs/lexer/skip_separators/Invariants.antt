use Rattle.std.proofs.Common.{length, ◌-◌, ◌≤◌}
use Rattle.timespec_lexer.specs.Tokens.{AreSeparators}
use Rattle.timespec_lexer.proofs.lexer.skip_separators.Given as goal

abbrev pub invariant-loop-place : goal.invariant-loop-place
invariant-loop-place l = record {
  within : l.place ≤ length l.text;
  separators : AreSeparators l.text l.from l.place;
}

abbrev pub decreases-loop-place : goal.decreases-loop-place
decreases-loop-place l = length l.text - l.place
