use Rattle.caller_rules.proofs.DurableLemmas.{durably, durably_with}
use Rattle.caller_rules.proofs.own_spool.has_list.Goals as goal

pub returns-clause-durable : goal.returns-clause-durable
returns-clause-durable g c = durably_with (durably _ c.link_status.ensures (tt, tt)) (durably _ c.link_status-2.ensures (tt, tt))
