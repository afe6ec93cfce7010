use Rattle.std.proofs.Common.{◌∙◌, inl, refl}
use Rattle.std.proofs.lemmas.Result.{err_from_is_err_and}
use Rattle.host_calls.proofs.WorldLemmas.{goes_on_none, goes_on_then}
use Rattle.spool_store.proofs.SurplusLemmas.{may_forget}
use Rattle.at_commands.proofs.RemoveLemmas.{all_removed, forgets_stopped, lacks_memory, may_remove, removes_stopped}
use Rattle.at_commands.proofs.removal.remove_jobs.Goals as goal

pub returns-in_err-removals-clause-goes_on : goal.returns-in_err-removals-clause-goes_on
returns-in_err-removals-clause-goes_on g c = λ known. goes_on_none _ _ refl

pub returns-in_err-removals-clause-works : goal.returns-in_err-removals-clause-works
returns-in_err-removals-clause-works g c = λ known table current.
    let p = err_from_is_err_and c.from_residual.result c.from_residual.ensures.1 in
    rw (p.1, p.2) (inl refl)

pub make_all-requires : goal.make_all-requires
make_all-requires g c =
    may_remove c.args.numbers.now c.as_slice.result.now (c.as_slice.ensures.value ∙ c.in_ok-removals.ensures) c.requires.inside
    c.requires.legal c.requires.current

pub returns-in_err-store-clause-works : goal.returns-in_err-store-clause-works
returns-in_err-store-clause-works g c = λ known table current.
    let p = err_from_is_err_and c.from_residual-in_err-store.result c.from_residual-in_err-store.ensures.1 in
    rw (p.1, p.2)
    (removes_stopped known table c.args.numbers.now (g.H.Host.world c.args.host.now) current c.requires.legal
    (c.as_slice.ensures.value ∙ c.in_ok-removals.ensures) c.in_err-store.ensures)

pub returns-in_err-forgettings-clause-works : goal.returns-in_err-forgettings-clause-works
returns-in_err-forgettings-clause-works g c = λ known table current.
    let p = err_from_is_err_and c.from_residual-in_err-forgettings.result c.from_residual-in_err-forgettings.ensures.1 in
    rw (p.1, p.2)
    (lacks_memory known table c.args.numbers.now (g.H.Host.world c.args.host.now) current c.requires.legal
    (c.as_slice.ensures.value ∙ c.in_ok-removals.ensures) c.in_ok-store.ensures)

pub make_all-requires-2 : goal.make_all-requires-2
make_all-requires-2 g c =
    may_forget c.as_slice-2.result.now (c.as_slice-2.ensures.value ∙ c.in_ok-forgettings.ensures) c.in_ok-store.ensures.inside.stays.inside
    (λ known. (_, (c.in_ok-store.ensures.files known (c.requires.current known).0 (c.requires.current known).1).current))

pub returns-in_err-make_all-clause-goes_on : goal.returns-in_err-make_all-clause-goes_on
returns-in_err-make_all-clause-goes_on g c = λ known.
    goes_on_then (g.H.Host.world c.args.host.now) (g.H.Host.world c.make_all.new.host) (g.H.Host.world c.make_all-2.new.host)
    (c.in_ok-store.ensures.goes_on known) (c.in_err-make_all.ensures.goes_on known)

pub returns-in_err-make_all-clause-works : goal.returns-in_err-make_all-clause-works
returns-in_err-make_all-clause-works g c = λ known table current.
    let p = err_from_is_err_and c.from_residual-in_err-make_all.result c.from_residual-in_err-make_all.ensures.1 in
    rw (p.1, p.2)
    (forgets_stopped known table c.args.numbers.now (g.H.Host.world c.args.host.now) current c.requires.legal
    (c.as_slice.ensures.value ∙ c.in_ok-removals.ensures) c.in_ok-store.ensures
    (c.as_slice-2.ensures.value ∙ c.in_ok-forgettings.ensures) c.in_err-make_all.ensures)

pub returns-clause-goes_on : goal.returns-clause-goes_on
returns-clause-goes_on g c = λ known.
    goes_on_then (g.H.Host.world c.args.host.now) (g.H.Host.world c.make_all.new.host) (g.H.Host.world c.make_all-2.new.host)
    (c.in_ok-store.ensures.goes_on known) (c.in_ok-make_all.ensures.goes_on known)

pub returns-clause-works : goal.returns-clause-works
returns-clause-works g c = λ known table current.
    all_removed known table c.args.numbers.now (g.H.Host.world c.args.host.now) current c.requires.legal
    (c.as_slice.ensures.value ∙ c.in_ok-removals.ensures) c.in_ok-store.ensures
    (c.as_slice-2.ensures.value ∙ c.in_ok-forgettings.ensures) c.in_ok-make_all.ensures
