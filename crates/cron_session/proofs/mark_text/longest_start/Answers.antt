use Rattle.std.proofs.Common.{◌∙◌, rules, sym}
use Rattle.cron_session.proofs.CronMarkLemmas.{longest_so, never}
use Rattle.cron_session.proofs.mark_text.longest_start.Goals as goal

pub returns-then-not-starts : goal.returns-then-not-starts
returns-then-not-starts c = longest_so c.args.bytes.now c.loop-place.place (search rules) c.loop-place.invariant
    (λ begins. never (sym c.if-not-starts.true ∙ c.starts.ensures.1 begins))
