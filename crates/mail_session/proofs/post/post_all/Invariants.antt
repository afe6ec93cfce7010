use Rattle.std.proofs.Common.{take}
use Rattle.std.specs.Prelude.{Ok}
use Rattle.mail_session.specs.DueNotices.{Posts}
use Rattle.mail_session.proofs.post.post_all.Given as goal

abbrev pub invariant-loop-due : goal.invariant-loop-due
invariant-loop-due g l =
    Posts l.program g.H.Host.tells (g.H.Host.session l.fn.host) (g.H.Host.session l.host) (g.H.Host.world l.fn.host) (g.H.Host.world l.host)
    (take l.due-index l.due_notices) l.fn.text.items l.text.items l.fn.kids.items l.kids.items l.fn.sent.items l.sent.items (Ok tt)
