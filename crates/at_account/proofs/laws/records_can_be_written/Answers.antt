use Rattle.at_account.proofs.WritingLemmas.{can_write}
use Rattle.at_account.proofs.laws.records_can_be_written.Goals as goal

pub returns : goal.returns
returns c = can_write
