use Rattle.caller_rules.proofs.DurableLemmas.{durably_with}
use Rattle.caller_rules.proofs.own_spool.make_directories.Goals as goal

pub returns-then-make_parents-clause-durable : goal.returns-then-make_parents-clause-durable
returns-then-make_parents-clause-durable g c h =
    durably_with (c.make_parents.ensures c.if-make_parents.true) (c.make_one_directory.ensures.durable h)
