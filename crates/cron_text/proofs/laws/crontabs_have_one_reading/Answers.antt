use Rattle.cron_text.proofs.LengthLemmas.{crontab-few}
use Rattle.cron_text.proofs.LineLemmas.{none_bad, one_line, one_list}
use Rattle.cron_text.proofs.laws.crontabs_have_one_reading.Goals as goal

pub returns : goal.returns
returns c = record {
  entries = one_list c.args.text.now;
  few = crontab-few c.args.text.now;
  good = none_bad c.args.text.now;
  line = one_line c.args.text.now;
}
