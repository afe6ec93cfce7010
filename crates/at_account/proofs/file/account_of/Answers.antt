use Rattle.at_account.specs.Lines.{SpellsRecord}
use Rattle.record_lines.proofs.FileLemmas.{all_can}
use Rattle.at_account.proofs.file.account_of.Goals as goal

pub returns-in-Ok-clause-spelled : goal.returns-in-Ok-clause-spelled
returns-in-Ok-clause-spelled c = all_can SpellsRecord c.args.bytes.now c.in-Ok.account c.in-Ok.ensures.records.spelled
