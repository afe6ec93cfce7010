use Rattle.std.proofs.Common.{Bool, List, subst, ℕ}
use Rattle.std.proofs.lemmas.Result.{err_from_is_err_and}
use Rattle.mail_notes.specs.Names.{mail_file, mail_temp}
use Rattle.mail_notes.specs.declared.note.NotedJob.{NotedJob}
use Rattle.at_mail.specs.NotingOutcome.{IsNoted, IsNoting}
use Rattle.whole_file.specs.Others.{ChangesFiles}
use Rattle.whole_file.specs.Placement.{IsPlacing}
use Rattle.at_mail.specs.inside.FoundNews.{AreNewsOn, IsNewsWritten}
use Rattle.at_mail.proofs.NotingLemmas.{noted, noting_stopped}
use Rattle.at_mail.proofs.RewritingLemmas.{leaves_unread, leaves_unrecovered}
use Rattle.at_mail.proofs.noting.note_session_body.Goals as goal

pub returns-in_err-store-clause-leaves : goal.returns-in_err-store-clause-leaves
returns-in_err-store-clause-leaves g c = λ known.
    let p = err_from_is_err_and c.from_residual.result c.from_residual.ensures.1 in
    rw (p.1, p.2)
    (leaves_unrecovered IsNoted IsNoting c.in_err-store.field-0.0 (g.H.Host.world c.args.host.now) (g.H.Host.world c.recover.new.host)
    c.in_err-store.ensures.of_reading
    (c.in_err-store.ensures.files known) (c.in_err-store.ensures.recovered known) (c.in_err-store.ensures.untouched known))

pub news_on-requires-clause-current : goal.news_on-requires-clause-current
news_on-requires-clause-current g c =
    λ known. ((c.in_ok-store.ensures.recovered known).table, (c.in_ok-store.ensures.recovered known).current)

pub returns-in_err-news-clause-leaves : goal.returns-in_err-news-clause-leaves
returns-in_err-news-clause-leaves g c = λ known.
    let p = err_from_is_err_and c.from_residual-in_err-news.result c.from_residual-in_err-news.ensures.1 in
    rw (p.1, p.2)
    (leaves_unread IsNoted IsNoting c.in_ok-store.store (g.H.Host.world c.args.host.now) (g.H.Host.world c.recover.new.host)
    (c.in_ok-store.ensures.files known) (c.in_ok-store.ensures.recovered known)
    c.in_err-news.field-0.0 (g.H.Host.world c.news_on.new.host) (c.in_err-news.ensures.looks known) c.in_err-news.ensures.of_reading
    (c.in_err-news.ensures.damaged known))

pub returns-in_err-write_news-clause-leaves : goal.returns-in_err-write_news-clause-leaves
returns-in_err-write_news-clause-leaves g c = λ known.
    let p = err_from_is_err_and c.from_residual-in_err-write_news.result c.from_residual-in_err-write_news.ensures.1 in
    rw (p.1, p.2)
    (noting_stopped c.in_ok-store.store (g.H.Host.world c.args.host.now) (g.H.Host.world c.recover.new.host)
    (c.in_ok-store.ensures.files known) (c.in_ok-store.ensures.recovered known) c.in_ok-news.news.new_jobs.items
    c.in_ok-news.news.text.items
    (subst (λ (is : Bool). AreNewsOn is (g.H.Host.world c.recover.new.host) c.in_ok-store.store c.in_ok-news.news.new_jobs.items
    c.in_ok-news.news.text.items) known c.in_ok-news.ensures.news)
    (g.H.Host.world c.news_on.new.host) (g.H.Host.world c.write_news.new.host) (c.in_ok-news.ensures.looks known)
    (subst (λ (text : List ℕ). ChangesFiles (IsPlacing mail_temp mail_file text (g.H.Host.world c.news_on.new.host).now.directory)
    (g.H.Host.world c.news_on.new.host) (g.H.Host.world c.write_news.new.host)) c.as_slice-2.ensures.value
    (c.in_err-write_news.ensures.files known)) c.in_err-write_news.field-0.0)

pub returns-clause-leaves : goal.returns-clause-leaves
returns-clause-leaves g c = λ known.
    noted c.in_ok-store.store (g.H.Host.world c.args.host.now) (g.H.Host.world c.recover.new.host)
    (c.in_ok-store.ensures.files known) (c.in_ok-store.ensures.recovered known) c.in_ok-news.news.new_jobs.items
    c.in_ok-news.news.text.items
    (subst (λ (is : Bool). AreNewsOn is (g.H.Host.world c.recover.new.host) c.in_ok-store.store c.in_ok-news.news.new_jobs.items
    c.in_ok-news.news.text.items) known c.in_ok-news.ensures.news)
    (g.H.Host.world c.news_on.new.host) (g.H.Host.world c.write_news.new.host) (c.in_ok-news.ensures.looks known)
    (subst (λ (text : List ℕ). ChangesFiles (IsPlacing mail_temp mail_file text (g.H.Host.world c.news_on.new.host).now.directory)
    (g.H.Host.world c.news_on.new.host) (g.H.Host.world c.write_news.new.host)) c.as_slice-2.ensures.value
    (c.in_ok-write_news.ensures.files known))
    (subst (λ (text : List ℕ). IsNewsWritten c.in_ok-news.news.new_jobs.items text (g.H.Host.world c.news_on.new.host)
    (g.H.Host.world c.write_news.new.host)) c.as_slice-2.ensures.value
    (subst (λ (new_jobs : List NotedJob). IsNewsWritten new_jobs c.as_slice-2.result.now (g.H.Host.world c.news_on.new.host)
    (g.H.Host.world c.write_news.new.host)) c.as_slice.ensures.value (c.in_ok-write_news.ensures.written known)))
