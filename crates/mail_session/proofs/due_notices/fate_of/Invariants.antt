use Rattle.std.proofs.Common.{◌≡◌, ℕ, ◌<◌, get_or}
use Rattle.spool_model.specs.declared.decided.Decided.{Decided}
use Rattle.mail_session.proofs.due_notices.fate_of.Given as goal

abbrev pub invariant-loop-done : goal.invariant-loop-done
invariant-loop-done l = (k : ℕ) (d : Decided) → k < l.done-index → (get_or l.decided k d).number ≡ l.number → ⊥
