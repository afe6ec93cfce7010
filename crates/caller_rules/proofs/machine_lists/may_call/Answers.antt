use Rattle.std.proofs.Common.{ℕ, List, inr, subst}
use Rattle.caller_rules.specs.MachineLists.{LetsUser}
use Rattle.caller_rules.proofs.machine_lists.may_call.Goals as goal

-- both lists decide
pub returns : goal.returns
returns g c = inr (record {
  allow = c.found_list-allow.result;
  deny = c.found_list-deny.result;
  allow_read = g.S.System.trace c.found_list-allow.new.system;
  both_read = g.S.System.trace c.found_list-deny.new.system;
  allow_named = g.S.System.trace c.warn_of_list.new.system;
  allow_found = c.found_list-allow.ensures;
  deny_found = c.found_list-deny.ensures;
  allow_warned = c.in_ok-warn_of_list.ensures;
  deny_warned = c.in_ok-warn_of_list-2.ensures;
  is = subst (λ (name : List ℕ). LetsUser name c.found_list-allow.result c.found_list-deny.result c.lets_user.result)
      c.as_str.ensures c.lets_user.ensures;
})
