use Rattle.std.proofs.Common.{length, ◌-◌, ◌+◌, ◌<◌, ◌≤◌, ℕ, ◌≡◌}
use Rattle.timespec_lexer.specs.Tokens.{IsDigitAt, number_at}
use Rattle.timespec_lexer.specs.declared.number.TheConstants.{MAX_DIGITS}
use Rattle.timespec_lexer.proofs.number.number_at.Given as goal

abbrev pub invariant-loop-end : goal.invariant-loop-end
invariant-loop-end l = record {
  forward : l.place ≤ l.end;
  within : l.end ≤ length l.text;
  few : l.end ≤ l.place + MAX_DIGITS;
  digits : (k : ℕ) → l.place ≤ k → k < l.end → IsDigitAt l.text k;
  value : l.value ≡ number_at l.text l.place (l.end - l.place);
}

abbrev pub decreases-loop-end : goal.decreases-loop-end
decreases-loop-end l = length l.text - l.end
