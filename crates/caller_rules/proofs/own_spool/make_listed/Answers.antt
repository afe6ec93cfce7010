use Rattle.caller_rules.proofs.DurableLemmas.{durably_with}
use Rattle.caller_rules.proofs.own_spool.make_listed.Goals as goal

pub returns-then-make_directories-clause-durable : goal.returns-then-make_directories-clause-durable
returns-then-make_directories-clause-durable g c h =
    durably_with (c.make_directories.ensures.durable c.if-make_directories.true) (c.put_files.ensures.durable h)
