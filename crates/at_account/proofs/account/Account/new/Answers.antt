use Rattle.at_account.proofs.AccountLemmas.{no_account}
use Rattle.at_account.proofs.account.Account.new.Goals as goal

pub invariant_of-result : goal.invariant_of-result
invariant_of-result c = no_account _ _ c.new.ensures.items c.new-2.ensures.items
