use Rattle.at_mail.proofs.MakingLemmas.{rests_first, rests_later}
use Rattle.at_mail.proofs.session_loop.rest_before_mail_session.Goals as goal

pub returns-then-place-ne0 : goal.returns-then-place-ne0
returns-then-place-ne0 g c = rests_later c.args.place g.R.Readings.tells _ _ c.if-place-ne0.true
    (record { known = c.rest.ensures.known; readers = c.rest.ensures.same })

pub returns-else-place-ne0 : goal.returns-else-place-ne0
returns-else-place-ne0 g c = rests_first c.args.place g.R.Readings.tells _ c.if-place-ne0.false
