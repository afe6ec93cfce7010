use Rattle.std.proofs.Common.{rules}
use Rattle.cron_session.proofs.CronMarkLemmas.{long_start}
use Rattle.cron_session.proofs.mark_text.starts.Goals as goal

pub returns-else-bytes-le-DIGITS : goal.returns-else-bytes-le-DIGITS
returns-else-bytes-le-DIGITS c = rw c.is_some.ensures
    (long_start c.args.bytes.now c.minute_in_mark.result (search rules) c.minute_in_mark.ensures.some c.minute_in_mark.ensures.none)
