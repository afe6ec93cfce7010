use Rattle.std.proofs.Common.{refl}
use Rattle.daemon_turn.proofs.AskLemmas.{at_place}
use Rattle.mail_session.proofs.ask.child_at.Goals as goal

pub returns : goal.returns
returns c = record { kid = _; at = at_place c.args.kids.now c.args.place _ c.requires; is = refl }
