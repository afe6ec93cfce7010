use Rattle.caller_rules.proofs.DurableLemmas.{durably_with, file_durably}
use Rattle.caller_rules.proofs.own_spool.put_files.Goals as goal

pub returns-then-put_durably-clause-durable : goal.returns-then-put_durably-clause-durable
returns-then-put_durably-clause-durable g c h =
    durably_with (file_durably _ (c.put_durably.ensures c.if-put_durably.true))
    (file_durably _ (c.put_durably-then-put_durably.ensures h))
