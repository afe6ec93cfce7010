use Rattle.std.proofs.Common.{sym, arith}
use Rattle.start_journal.proofs.PrefixLemmas.{prefix_is}
use Rattle.start_journal.proofs.right_prefix.right_prefix.Goals as goal

pub returns-then-not-may_stand-clause-prefix : goal.returns-then-not-may_stand-clause-prefix
returns-then-not-may_stand-clause-prefix c =
    prefix_is c.args.slot.now c.loop-place.place (omega arith) c.loop-place.invariant (λ inside. sym c.if-not-may_stand.ensures)

pub returns-clause-prefix : goal.returns-clause-prefix
returns-clause-prefix c =
    prefix_is c.args.slot.now 32 (omega arith) (λ at inside. c.loop-place.invariant at (omega arith)) (λ inside. absurd (omega arith))
