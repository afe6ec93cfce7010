use Rattle.std.proofs.Common.{rules}
use Rattle.caller_rules.proofs.DurableLemmas.{durably_with}
use Rattle.caller_rules.proofs.own_spool.make_parents.Goals as goal

pub loop-end-preserved-else-not-make_one_directory : goal.loop-end-preserved-else-not-make_one_directory
loop-end-preserved-else-not-make_one_directory g c =
    durably_with c.loop-end.invariant (c.make_one_directory.ensures.durable (search rules))
