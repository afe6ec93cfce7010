use Rattle.std.proofs.Common.{◌-◌, ◌≤◌, length}
use Rattle.timespec_lexer.specs.Tokens.{Walks}
use Rattle.timespec_lexer.specs.declared.lexer.TheConstants.{MAX_TOKENS}
use Rattle.timespec_lexer.proofs.lexer.tokens.Given as goal

abbrev pub invariant-loop-placed : goal.invariant-loop-placed
invariant-loop-placed l = record {
  within : l.end ≤ length l.text;
  few : length l.placed.items ≤ MAX_TOKENS;
  walks : Walks l.text 0 l.placed.items l.end;
}

abbrev pub decreases-loop-placed : goal.decreases-loop-placed
decreases-loop-placed l = length l.text - l.end
