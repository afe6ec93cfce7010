use Rattle.std.proofs.Common.{refl}
use Rattle.host_calls.proofs.NameLemmas.{padded_prefix}
use Rattle.host_calls.proofs.name.Name.of.Goals as goal

pub invariant_of-result : goal.invariant_of-result
invariant_of-result c = rw c.copy_from_slice.ensures.after (padded_prefix c.args.bytes.now (c.if-not-is_name.ensures.0 refl))
