use Rattle.std.proofs.Common.{◌≡◌, ℕ, ◌<◌, true}
use Rattle.start_journal.specs.SlotBytes.{may_stand}
use Rattle.start_journal.proofs.right_prefix.right_prefix.Given as goal

abbrev pub invariant-loop-place : goal.invariant-loop-place
invariant-loop-place l = (at : ℕ) → at < l.place → may_stand l.slot at ≡ true
