use Rattle.std.proofs.Common.{List, ℕ, subst}
use Rattle.std.specs.Prelude.{Err, Ok}
use Rattle.mail_notes.specs.declared.note.NotedJob.{NotedJob}
use Rattle.mail_session.specs.declared.due.NoticeDue.{NoticeDue}
use Rattle.mail_session.specs.NewNotes.{Notes}
use Rattle.mail_session.specs.DueNotices.{Posts}
use Rattle.mail_session.proofs.MakeLemmas.{ask_wants, note_stops, steps_made}
use Rattle.mail_session.proofs.work.make_steps.Goals as goal

pub returns-in_err-ask_kids : goal.returns-in_err-ask_kids
returns-in_err-ask_kids g c =
    ask_wants c.args.program.now g.H.Host.tells (g.H.Host.session c.args.host.now) (g.H.Host.session c.ask_kids.new.host)
    (g.H.Host.world c.args.host.now) (g.H.Host.world c.ask_kids.new.host)
    c.args.plan.now c.args.kids.now.items c.ask_kids.new.kids.items c.args.sent.now.items c.in_err-ask_kids.ensures.inside
    c.from_residual.result c.from_residual.ensures.1
    c.ask_kids.result c.ask_kids.ensures.asks

pub returns-in_err-note_news : goal.returns-in_err-note_news
returns-in_err-note_news g c =
    note_stops c.args.program.now g.H.Host.tells (g.H.Host.session c.args.host.now) (g.H.Host.session c.ask_kids.new.host)
    (g.H.Host.world c.args.host.now) (g.H.Host.world c.ask_kids.new.host)
    c.args.plan.now c.args.kids.now.items c.ask_kids.new.kids.items c.args.sent.now.items c.in_ok-ask_kids.ensures.inside
    c.in_ok-ask_kids.ensures.asks
    (g.H.Host.session c.note_news.new.host) (g.H.Host.world c.note_news.new.host) c.in_err-note_news.field-0.0
    c.from_residual-in_err-note_news.result c.from_residual-in_err-note_news.ensures.1
    (subst (λ (text : List ℕ). Notes g.H.Host.tells (g.H.Host.session c.ask_kids.new.host) (g.H.Host.session c.note_news.new.host)
    (g.H.Host.world c.ask_kids.new.host) (g.H.Host.world c.note_news.new.host)
    c.args.plan.now.new_jobs.items text (Err c.in_err-note_news.field-0.0)) c.as_slice-2.ensures.value
    (subst (λ (new_jobs : List NotedJob). Notes g.H.Host.tells (g.H.Host.session c.ask_kids.new.host)
    (g.H.Host.session c.note_news.new.host) (g.H.Host.world c.ask_kids.new.host) (g.H.Host.world c.note_news.new.host)
    new_jobs c.as_slice-2.result.now (Err c.in_err-note_news.field-0.0)) c.as_slice.ensures.value c.in_err-note_news.ensures))

pub returns : goal.returns
returns g c =
    steps_made c.args.program.now g.H.Host.tells (g.H.Host.session c.args.host.now) (g.H.Host.session c.ask_kids.new.host)
    (g.H.Host.world c.args.host.now) (g.H.Host.world c.ask_kids.new.host)
    c.args.plan.now c.args.kids.now.items c.ask_kids.new.kids.items c.args.sent.now.items c.in_ok-ask_kids.ensures.inside
    c.in_ok-ask_kids.ensures.asks
    (g.H.Host.session c.note_news.new.host) (g.H.Host.world c.note_news.new.host)
    (subst (λ (text : List ℕ). Notes g.H.Host.tells (g.H.Host.session c.ask_kids.new.host) (g.H.Host.session c.note_news.new.host)
    (g.H.Host.world c.ask_kids.new.host) (g.H.Host.world c.note_news.new.host)
    c.args.plan.now.new_jobs.items text (Ok tt)) c.as_slice-2.ensures.value
    (subst (λ (new_jobs : List NotedJob). Notes g.H.Host.tells (g.H.Host.session c.ask_kids.new.host)
    (g.H.Host.session c.note_news.new.host) (g.H.Host.world c.ask_kids.new.host) (g.H.Host.world c.note_news.new.host)
    new_jobs c.as_slice-2.result.now (Ok tt)) c.as_slice.ensures.value c.in_ok-note_news.ensures))
    (g.H.Host.session c.post_all.new.host) (g.H.Host.world c.post_all.new.host) c.post_all.new.sent.items c.post_all.new.text.items
    c.post_all.new.kids.items c.post_all.result
    (subst (λ (due_notices : List NoticeDue).
    Posts c.args.program.now g.H.Host.tells (g.H.Host.session c.note_news.new.host) (g.H.Host.session c.post_all.new.host)
    (g.H.Host.world c.note_news.new.host) (g.H.Host.world c.post_all.new.host) due_notices c.args.plan.now.text.items
    c.post_all.new.text.items
    c.ask_kids.new.kids.items c.post_all.new.kids.items c.args.sent.now.items c.post_all.new.sent.items c.post_all.result)
    c.as_slice-3.ensures.value c.post_all.ensures)
