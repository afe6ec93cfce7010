use Rattle.caller_rules.proofs.DurableLemmas.{durably_with}
use Rattle.caller_rules.proofs.own_spool.make_spool.Goals as goal

pub returns-clause-durable : goal.returns-clause-durable
returns-clause-durable g c h = durably_with c.has_list.ensures.durable (c.make_listed.ensures.durable h)
