use Rattle.std.proofs.Common.{rules}
use Rattle.cron_session.proofs.CronMarkLemmas.{eight_of, spelled_of, too_late}
use Rattle.cron_session.proofs.mark_text.minute_of_digits.Goals as goal

pub returns-in_err-number-clause-none : goal.returns-in_err-number-clause-none
returns-in_err-number-clause-none c =
    rw c.from_residual.ensures (λ minute low is. c.in_err-number.ensures.none minute (spelled_of c.args.digits.now minute low is))

pub returns-then-number-clause-none : goal.returns-then-number-clause-none
returns-then-number-clause-none c =
    λ minute low is. too_late c.args.digits.now c.in_ok-number.number minute c.in_ok-number.ensures.number (search rules) low is

pub returns-clause-some : goal.returns-clause-some
returns-clause-some c = (search rules, eight_of c.args.digits.now c.in_ok-number.number c.requires c.in_ok-number.ensures.number)
