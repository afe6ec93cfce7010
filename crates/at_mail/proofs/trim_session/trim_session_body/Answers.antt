use Rattle.std.proofs.Common.{inl, inr, refl, subst, sym}
use Rattle.std.proofs.lemmas.Result.{err_from_is_err_and}
use Rattle.host_calls.specs.World.{World}
use Rattle.whole_file.specs.TempFiles.{IsDurableAt}
use Rattle.mail_notes.specs.Names.{mail_temp}
use Rattle.mail_notes.proofs.NameLemmas.{mail_is_none_of_the_stores}
use Rattle.at_mail.specs.TrimOutcome.{IsTrimmed, IsTrimStopped}
use Rattle.at_mail.proofs.LeavingLemmas.{leaves_stopped, leaves_trimmed}
use Rattle.at_mail.proofs.RewritingLemmas.{leaves_unread, leaves_unrecovered}
use Rattle.at_mail.proofs.trim_session.trim_session_body.Goals as goal

pub returns-in_err-store-clause-leaves : goal.returns-in_err-store-clause-leaves
returns-in_err-store-clause-leaves g c = λ known.
    let p = err_from_is_err_and c.from_residual.result c.from_residual.ensures.1 in
    rw (p.1, p.2)
    (leaves_unrecovered IsTrimmed IsTrimStopped c.in_err-store.field-0.0 (g.H.Host.world c.args.host.now) (g.H.Host.world c.recover.new.host)
    c.in_err-store.ensures.of_reading
    (c.in_err-store.ensures.files known) (c.in_err-store.ensures.recovered known) (c.in_err-store.ensures.untouched known))

pub returns-in_err-read-clause-leaves : goal.returns-in_err-read-clause-leaves
returns-in_err-read-clause-leaves g c = λ known.
    let p = err_from_is_err_and c.from_residual-in_err-read.result c.from_residual-in_err-read.ensures.1 in
    rw (p.1, p.2)
    (leaves_unread IsTrimmed IsTrimStopped c.in_ok-store.store (g.H.Host.world c.args.host.now) (g.H.Host.world c.recover.new.host)
    (c.in_ok-store.ensures.files known) (c.in_ok-store.ensures.recovered known)
    c.in_err-read.field-0.0 (g.H.Host.world c.all_notes.new.host) (c.in_err-read.ensures.looks known) c.in_err-read.ensures.of_reading
    (c.in_err-read.ensures.damaged known))

pub write_kept-requires-clause-durable : goal.write_kept-requires-clause-durable
write_kept-requires-clause-durable g c = λ known.
    subst (λ (world : World). IsDurableAt mail_temp world.now.directory) (sym (c.in_ok-read.ensures.looks known))
    (λ image of_it.
    (c.in_ok-store.ensures.recovered known).durable_others image of_it mail_temp (mail_is_none_of_the_stores mail_temp (inr (inl refl))))

pub returns-in_err-write_kept-clause-leaves : goal.returns-in_err-write_kept-clause-leaves
returns-in_err-write_kept-clause-leaves g c = λ known.
    let p = err_from_is_err_and c.from_residual-in_err-write_kept.result c.from_residual-in_err-write_kept.ensures.1 in
    rw (p.1, p.2)
    (leaves_stopped c.in_ok-store.store (g.H.Host.world c.args.host.now) (g.H.Host.world c.recover.new.host)
    (c.in_ok-store.ensures.files known) (c.in_ok-store.ensures.recovered known)
    c.in_ok-read.read.notes.items (c.in_ok-read.ensures.gives known) (g.H.Host.world c.all_notes.new.host)
    (g.H.Host.world c.write_kept.new.host) (c.in_ok-read.ensures.looks known)
    (c.in_err-write_kept.ensures.files known) c.in_err-write_kept.field-0.0)

pub returns-clause-leaves : goal.returns-clause-leaves
returns-clause-leaves g c = λ known.
    leaves_trimmed c.in_ok-store.store (g.H.Host.world c.args.host.now) (g.H.Host.world c.recover.new.host)
    (c.in_ok-store.ensures.files known) (c.in_ok-store.ensures.recovered known)
    c.in_ok-read.read.notes.items (c.in_ok-read.ensures.gives known) (g.H.Host.world c.all_notes.new.host)
    (g.H.Host.world c.write_kept.new.host) (c.in_ok-read.ensures.looks known)
    (c.in_ok-write_kept.ensures.files known) (c.in_ok-write_kept.ensures.written known)
