use Rattle.caller_rules.proofs.DurableLemmas.{durably, durably_with}
use Rattle.caller_rules.proofs.own_spool.sync_name.Goals as goal

pub returns-then-sync_directory-clause-durable : goal.returns-then-sync_directory-clause-durable
returns-then-sync_directory-clause-durable g c =
    durably_with (durably _ c.sync_directory.ensures (tt, tt)) (durably _ c.sync_directory-then-sync_directory.ensures (tt, tt))
