use Rattle.std.proofs.Common.{refl}
use Rattle.spool_model.proofs.UserLemmas.{padded_prefix}
use Rattle.spool_model.proofs.user_name.UserName.of.Goals as goal

pub invariant_of-result : goal.invariant_of-result
invariant_of-result c = rw c.copy_from_slice.ensures.after (padded_prefix c.args.bytes.now (c.if-not-is_user_name.ensures.0 refl))
