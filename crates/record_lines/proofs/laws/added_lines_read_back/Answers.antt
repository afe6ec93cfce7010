use Rattle.record_lines.proofs.FileLemmas.{lines_both}
use Rattle.record_lines.proofs.laws.added_lines_read_back.Goals as goal

pub returns : goal.returns
returns g c = lines_both g.R.LineRecord.spells g.K.Keeper.legal c.args.bytes.now c.args.added.now
