use Rattle.std.proofs.Common.{◌≡◌, ◌+◌, ◌++◌, ◌∷◌, [], List, arith, drop, length, subst, sym, take, take_all}
use Rattle.std.specs.Prelude.{Err, Ok}
use Rattle.mail_session.specs.declared.due.NoticeDue.{NoticeDue}
use Rattle.mail_session.specs.DueNotices.{Posts}
use Rattle.mail_session.proofs.PostLemmas.{all_of, posts_at, posts_longer, posts_none, posts_then, take_one}
use Rattle.mail_session.proofs.post.post_all.Goals as goal

pub loop-due-init : goal.loop-due-init
loop-due-init g c =
    posts_none c.args.program.now g.H.Host.tells (g.H.Host.session c.args.host.now) (g.H.Host.world c.args.host.now)
    c.args.text.now.items c.args.kids.now.items c.args.sent.now.items c.requires.inside c.requires.no_temp

pub returns-in_err-post : goal.returns-in_err-post
returns-in_err-post g c =
    posts_at _ _ _ _ _ _ _ _ _ _ _ _ _ c.in_err-post.field-0.0 c.from_residual.result c.from_residual.ensures.1
    (subst (λ (due_notices : List NoticeDue).
    Posts c.args.program.now g.H.Host.tells (g.H.Host.session c.args.host.now) (g.H.Host.session c.post.new.host)
    (g.H.Host.world c.args.host.now) (g.H.Host.world c.post.new.host) due_notices c.args.text.now.items c.post.new.text.items
    c.args.kids.now.items c.post.new.kids.items c.args.sent.now.items c.post.new.sent.items (Err c.in_err-post.field-0.0))
    (all_of c.args.due_notices.now c.loop-due.due-index c.due-item.result c.loop-due-test.true c.due-item.is)
    (posts_longer c.args.program.now g.H.Host.tells (g.H.Host.session c.args.host.now) (g.H.Host.session c.post.new.host)
    (g.H.Host.world c.args.host.now) (g.H.Host.world c.post.new.host)
    (take c.loop-due.due-index c.args.due_notices.now ++ c.due-item.result ∷ []) (drop (c.loop-due.due-index + 1) c.args.due_notices.now)
    c.args.text.now.items c.post.new.text.items c.args.kids.now.items c.post.new.kids.items c.args.sent.now.items
    c.post.new.sent.items c.in_err-post.field-0.0
    (posts_then c.args.program.now g.H.Host.tells (g.H.Host.session c.args.host.now) (g.H.Host.session c.loop-due.host)
    (g.H.Host.session c.post.new.host)
    (g.H.Host.world c.args.host.now) (g.H.Host.world c.loop-due.host) (g.H.Host.world c.post.new.host)
    (take c.loop-due.due-index c.args.due_notices.now) (c.due-item.result ∷ [])
    c.args.text.now.items c.loop-due.text.items c.post.new.text.items c.args.kids.now.items c.loop-due.kids.items c.post.new.kids.items
    c.args.sent.now.items c.loop-due.sent.items c.post.new.sent.items (Err c.in_err-post.field-0.0) c.loop-due.invariant
    c.in_err-post.ensures)))

pub loop-due-preserved : goal.loop-due-preserved
loop-due-preserved g c =
    subst (λ (due_notices : List NoticeDue).
    Posts c.args.program.now g.H.Host.tells (g.H.Host.session c.args.host.now) (g.H.Host.session c.post.new.host)
    (g.H.Host.world c.args.host.now) (g.H.Host.world c.post.new.host) due_notices c.args.text.now.items c.post.new.text.items
    c.args.kids.now.items c.post.new.kids.items c.args.sent.now.items c.post.new.sent.items (Ok tt))
    (sym (take_one c.args.due_notices.now c.loop-due.due-index c.due-item.result c.loop-due-test.true c.due-item.is))
    (posts_then c.args.program.now g.H.Host.tells (g.H.Host.session c.args.host.now) (g.H.Host.session c.loop-due.host)
    (g.H.Host.session c.post.new.host)
    (g.H.Host.world c.args.host.now) (g.H.Host.world c.loop-due.host) (g.H.Host.world c.post.new.host)
    (take c.loop-due.due-index c.args.due_notices.now) (c.due-item.result ∷ [])
    c.args.text.now.items c.loop-due.text.items c.post.new.text.items c.args.kids.now.items c.loop-due.kids.items c.post.new.kids.items
    c.args.sent.now.items c.loop-due.sent.items c.post.new.sent.items (Ok tt) c.loop-due.invariant c.in_ok-post.ensures)

pub returns : goal.returns
returns g c =
    let whole : c.loop-due.due-index ≡ length c.args.due_notices.now = omega arith in
    subst (λ (due_notices : List NoticeDue).
    Posts c.args.program.now g.H.Host.tells (g.H.Host.session c.args.host.now) (g.H.Host.session c.loop-due.host)
    (g.H.Host.world c.args.host.now) (g.H.Host.world c.loop-due.host) due_notices c.args.text.now.items c.loop-due.text.items
    c.args.kids.now.items c.loop-due.kids.items c.args.sent.now.items c.loop-due.sent.items (Ok tt))
    (take_all c.loop-due.due-index c.args.due_notices.now (omega arith)) c.loop-due.invariant
