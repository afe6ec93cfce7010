use Rattle.record_lines.proofs.FileLemmas.{all_can}
use Rattle.record_lines.proofs.laws.read_records_can_be_written.Goals as goal

pub returns : goal.returns
returns g c = all_can g.R.LineRecord.spells c.args.bytes.now
