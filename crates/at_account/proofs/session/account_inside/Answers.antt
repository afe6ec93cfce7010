use Rattle.std.proofs.Common.{subst, sym}
use Rattle.std.proofs.lemmas.Result.{err_from_is_err_and}
use Rattle.host_calls.specs.World.{TimePasses, World}
use Rattle.step_runs.specs.Calls.{ShowsAsBefore}
use Rattle.whole_file.specs.Others.{ChangesFiles}
use Rattle.at_account.specs.AccountOutcome.{IsAccounting}
use Rattle.at_account.specs.inside.AccountFile.{IsWriting, AreRecordsWritten}
use Rattle.at_account.specs.inside.Inside.{StopsInside}
use Rattle.at_account.proofs.CountingLemmas.{accounted, accounting_alone, accounting_since, goes_on_by, host_stops, stops}
use Rattle.at_account.proofs.session.account_inside.Goals as goal

pub returns-in_err-store-clause-goes_on : goal.returns-in_err-store-clause-goes_on
returns-in_err-store-clause-goes_on g c = λ known.
    goes_on_by (ShowsAsBefore (g.H.Host.world c.args.host.now).now.directory) (g.H.Host.world c.args.host.now)
    (g.H.Host.world c.recover.new.host) (c.in_err-store.ensures.files known)

pub returns-in_err-store-clause-images : goal.returns-in_err-store-clause-images
returns-in_err-store-clause-images g c = λ known.
    accounting_alone (g.H.Host.world c.args.host.now) (g.H.Host.world c.recover.new.host) (c.in_err-store.ensures.files known)

pub returns-in_err-account-clause-goes_on : goal.returns-in_err-account-clause-goes_on
returns-in_err-account-clause-goes_on g c = λ known.
    subst (TimePasses (g.H.Host.world c.args.host.now)) (sym (c.in_err-account.ensures.looks known))
    (goes_on_by (ShowsAsBefore (g.H.Host.world c.args.host.now).now.directory) (g.H.Host.world c.args.host.now)
    (g.H.Host.world c.recover.new.host) (c.in_ok-store.ensures.files known))

pub returns-in_err-account-clause-images : goal.returns-in_err-account-clause-images
returns-in_err-account-clause-images g c = λ known.
    subst (ChangesFiles (IsAccounting (g.H.Host.world c.args.host.now).now.directory) (g.H.Host.world c.args.host.now))
    (sym (c.in_err-account.ensures.looks known))
    (accounting_alone (g.H.Host.world c.args.host.now) (g.H.Host.world c.recover.new.host) (c.in_ok-store.ensures.files known))

pub returns-in_err-text-clause-goes_on : goal.returns-in_err-text-clause-goes_on
returns-in_err-text-clause-goes_on g c = λ known.
    subst (TimePasses (g.H.Host.world c.args.host.now)) (sym (c.in_ok-account.ensures.looks known))
    (goes_on_by (ShowsAsBefore (g.H.Host.world c.args.host.now).now.directory) (g.H.Host.world c.args.host.now)
    (g.H.Host.world c.recover.new.host) (c.in_ok-store.ensures.files known))

pub returns-in_err-text-clause-images : goal.returns-in_err-text-clause-images
returns-in_err-text-clause-images g c = λ known.
    subst (ChangesFiles (IsAccounting (g.H.Host.world c.args.host.now).now.directory) (g.H.Host.world c.args.host.now))
    (sym (c.in_ok-account.ensures.looks known))
    (accounting_alone (g.H.Host.world c.args.host.now) (g.H.Host.world c.recover.new.host) (c.in_ok-store.ensures.files known))

pub returns-in_err-account-clause-ends : goal.returns-in_err-account-clause-ends
returns-in_err-account-clause-ends g c = λ known.
    let p = err_from_is_err_and c.from_residual-in_err-account.result c.from_residual-in_err-account.ensures.1 in
    rw (p.1, p.2)
    (subst (λ now. StopsInside (g.H.Host.world c.args.host.now) now c.in_err-account.field-0.0.cause)
    (sym (c.in_err-account.ensures.looks known))
    (stops (g.H.Host.world c.args.host.now) (g.H.Host.world c.recover.new.host) c.in_ok-store.store (c.in_ok-store.ensures.files known)
    (c.in_ok-store.ensures.recovered known)
    c.in_err-account.field-0.0.cause (c.in_err-account.ensures.counts known)))

pub returns-in_err-write_account-clause-goes_on : goal.returns-in_err-write_account-clause-goes_on
returns-in_err-write_account-clause-goes_on g c = λ known.
    goes_on_by (IsAccounting (g.H.Host.world c.args.host.now).now.directory) (g.H.Host.world c.args.host.now)
    (g.H.Host.world c.write_account.new.host)
    (accounting_since (g.H.Host.world c.args.host.now) (g.H.Host.world c.recover.new.host) c.in_ok-store.store
    (c.in_ok-store.ensures.files known) (c.in_ok-store.ensures.recovered known)
    c.in_ok-account.account (c.in_ok-account.ensures.counts known) (g.H.Host.world c.write_account.new.host)
    (subst (λ (from : World). ChangesFiles (IsWriting c.in_ok-account.account from.now.directory) from
    (g.H.Host.world c.write_account.new.host)) (c.in_ok-account.ensures.looks known)
    (c.in_err-write_account.ensures.files known)))

pub returns-in_err-write_account-clause-images : goal.returns-in_err-write_account-clause-images
returns-in_err-write_account-clause-images g c = λ known.
    accounting_since (g.H.Host.world c.args.host.now) (g.H.Host.world c.recover.new.host) c.in_ok-store.store
    (c.in_ok-store.ensures.files known) (c.in_ok-store.ensures.recovered known)
    c.in_ok-account.account (c.in_ok-account.ensures.counts known) (g.H.Host.world c.write_account.new.host)
    (subst (λ (from : World). ChangesFiles (IsWriting c.in_ok-account.account from.now.directory) from
    (g.H.Host.world c.write_account.new.host)) (c.in_ok-account.ensures.looks known)
    (c.in_err-write_account.ensures.files known))

pub returns-clause-goes_on : goal.returns-clause-goes_on
returns-clause-goes_on g c = λ known.
    goes_on_by (IsAccounting (g.H.Host.world c.args.host.now).now.directory) (g.H.Host.world c.args.host.now)
    (g.H.Host.world c.write_account.new.host)
    (accounting_since (g.H.Host.world c.args.host.now) (g.H.Host.world c.recover.new.host) c.in_ok-store.store
    (c.in_ok-store.ensures.files known) (c.in_ok-store.ensures.recovered known)
    c.in_ok-account.account (c.in_ok-account.ensures.counts known) (g.H.Host.world c.write_account.new.host)
    (subst (λ (from : World). ChangesFiles (IsWriting c.in_ok-account.account from.now.directory) from
    (g.H.Host.world c.write_account.new.host)) (c.in_ok-account.ensures.looks known)
    (c.in_ok-write_account.ensures.files known)))

pub returns-clause-images : goal.returns-clause-images
returns-clause-images g c = λ known.
    accounting_since (g.H.Host.world c.args.host.now) (g.H.Host.world c.recover.new.host) c.in_ok-store.store
    (c.in_ok-store.ensures.files known) (c.in_ok-store.ensures.recovered known)
    c.in_ok-account.account (c.in_ok-account.ensures.counts known) (g.H.Host.world c.write_account.new.host)
    (subst (λ (from : World). ChangesFiles (IsWriting c.in_ok-account.account from.now.directory) from
    (g.H.Host.world c.write_account.new.host)) (c.in_ok-account.ensures.looks known)
    (c.in_ok-write_account.ensures.files known))

pub returns-in_err-write_account-clause-ends : goal.returns-in_err-write_account-clause-ends
returns-in_err-write_account-clause-ends g c = λ known.
    let p = err_from_is_err_and c.from_residual-in_err-write_account.result c.from_residual-in_err-write_account.ensures.1 in
    rw (p.1, p.2)
    (host_stops (g.H.Host.world c.args.host.now) (g.H.Host.world c.write_account.new.host) c.in_err-write_account.field-0.0.cause
    c.in_err-write_account.ensures.comes)

pub returns-clause-ends : goal.returns-clause-ends
returns-clause-ends g c = λ known.
    accounted (g.H.Host.world c.args.host.now) (g.H.Host.world c.recover.new.host) c.in_ok-store.store (c.in_ok-store.ensures.files known)
    (c.in_ok-store.ensures.recovered known)
    c.in_ok-account.account (c.in_ok-account.ensures.counts known) (g.H.Host.world c.write_account.new.host)
    (subst (λ (from : World). ChangesFiles (IsWriting c.in_ok-account.account from.now.directory) from
    (g.H.Host.world c.write_account.new.host)) (c.in_ok-account.ensures.looks known)
    (c.in_ok-write_account.ensures.files known))
    c.args.show c.in_ok-text.text c.in_ok-text.ensures
    (subst (λ (from : World). AreRecordsWritten c.in_ok-account.account from.now.directory
    (g.H.Host.world c.write_account.new.host).now.directory) (c.in_ok-account.ensures.looks known)
    (c.in_ok-write_account.ensures.written known))
