use Rattle.record_lines.proofs.FileLemmas.{none_bad, one_list, one_offset}
use Rattle.record_lines.proofs.laws.files_have_one_reading.Goals as goal

pub returns-clause-records : goal.returns-clause-records
returns-clause-records g c one two first second =
    one_list g.R.LineRecord.spells g.met.R.LineRecord.spells_one c.args.bytes.now one two first.spelled second.spelled

pub returns-clause-good : goal.returns-clause-good
returns-clause-good g c = none_bad g.R.LineRecord.spells g.K.Keeper.legal g.met.R.LineRecord.spells_one c.args.bytes.now

pub returns-clause-offset : goal.returns-clause-offset
returns-clause-offset g c = one_offset g.R.LineRecord.spells g.K.Keeper.legal g.met.R.LineRecord.spells_one c.args.bytes.now
