use Rattle.std.proofs.Common.{rules}
use Rattle.cron_session.proofs.CronMarkLemmas.{nine_bytes, text_of}
use Rattle.cron_session.proofs.mark_text.minute_in_mark.Goals as goal

pub returns-clause-some : goal.returns-clause-some
returns-clause-some c = text_of _ c.args.bytes.now c.minute_of_digits.result
    (nine_bytes c.args.bytes.now c.in-10.len_at_least c.in-10.len_below (search rules)) c.minute_of_digits.ensures.some
