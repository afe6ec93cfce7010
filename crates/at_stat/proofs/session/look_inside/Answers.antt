use Rattle.std.proofs.Common.{ap, inr, sym}
use Rattle.tool_output.specs.declared.command_error.CommandError.{CommandError}
use Rattle.at_stat.proofs.LateLemmas.{denied_comes}
use Rattle.at_stat.proofs.session.look_inside.Goals as goal

pub returns-in-Some-clause-comes : goal.returns-in-Some-clause-comes
returns-in-Some-clause-comes g c =
    rw c.refused.ensures (denied_comes c.args.user.now c.in_ok-store.store.table c.args.which.now c.in-Some.refusal c.in-Some.ensures)

pub returns-in-Some-clause-looks : goal.returns-in-Some-clause-looks
returns-in-Some-clause-looks g c = inr (record {
  kept = c.in_ok-store.store;
  refusal = c.in-Some.refusal;
  opened = c.in_ok-store.ensures.opened;
  checked = sym c.in-Some.ensures;
  cause_is = ap (λ (one : CommandError). one.cause) c.refused.ensures;
})
