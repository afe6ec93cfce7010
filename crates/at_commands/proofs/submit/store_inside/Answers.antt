use Rattle.std.proofs.Common.{List, ap, inl, inr, subst, sym, ℕ}
use Rattle.std.specs.Prelude.{Err}
use Rattle.std.proofs.lemmas.Result.{err_from_is_err_and}
use Rattle.host_calls.specs.declared.store_fault.StoreFault.{StoreFault}
use Rattle.command_rules.specs.Sessions.{IsStoreOpened}
use Rattle.host_calls.proofs.WorldLemmas.{goes_on_then}
use Rattle.whole_file.proofs.OthersLemmas.{changes_go_on}
use Rattle.at_commands.proofs.SessionLemmas.{not_opened_comes, not_opened_of_spool, store_comes, store_of_spool}
use Rattle.at_commands.proofs.SubmitLemmas.{store_failed, store_not_opened, stored}
use Rattle.at_commands.proofs.submit.store_inside.Goals as goal

pub returns-in_err-store-clause-comes : goal.returns-in_err-store-clause-comes
returns-in_err-store-clause-comes g c =
    let p = err_from_is_err_and c.from_residual.result c.from_residual.ensures.1 in
    rw (p.1, p.2) (not_opened_comes _ _ _ _ c.in_err-store.field-0.0.cause c.in_err-store.ensures.not_opened)

pub returns-in_err-store-clause-stores : goal.returns-in_err-store-clause-stores
returns-in_err-store-clause-stores g c = λ caller same mail file when now time commands is_job same_minute.
    let p = err_from_is_err_and c.from_residual.result c.from_residual.ensures.1 in
    rw (p.1, p.2)
    (store_not_opened g.H.Host.tells caller c.args.queue c.args.minute c.args.script.now mail file when now time commands is_job same_minute
    c.args.user.now c.in_err-store.field-0.0.cause (g.H.Host.world c.args.host.now) (g.H.Host.world c.open_store.new.host) same
    c.in_err-store.ensures.not_opened)

pub submit-requires-clause-current : goal.submit-requires-clause-current
submit-requires-clause-current g c = λ known. (c.in_ok-store.ensures.opened.table, (c.in_ok-store.ensures.opened.recovered known).current)

pub returns-in_err-number-clause-comes : goal.returns-in_err-number-clause-comes
returns-in_err-number-clause-comes g c =
    let p = err_from_is_err_and c.from_residual-in_err-number.result c.from_residual-in_err-number.ensures.1 in
    rw (p.1, p.2) (store_comes c.in_err-number.field-0.0)

pub returns-in_err-number-clause-goes_on : goal.returns-in_err-number-clause-goes_on
returns-in_err-number-clause-goes_on g c = λ known.
    goes_on_then (g.H.Host.world c.args.host.now) (g.H.Host.world c.open_store.new.host) (g.H.Host.world c.submit.new.host)
    (c.in_ok-store.ensures.goes_on known)
    (changes_go_on _ _ _
    (c.in_err-number.ensures.files known c.in_ok-store.ensures.opened.table (c.in_ok-store.ensures.opened.recovered known).current).files)

pub returns-in_err-number-clause-stores : goal.returns-in_err-number-clause-stores
returns-in_err-number-clause-stores g c = λ caller same mail file when now time commands is_job same_minute.
    let p = err_from_is_err_and c.from_residual-in_err-number.result c.from_residual-in_err-number.ensures.1 in
    rw (p.1, p.2)
    (store_failed g.H.Host.tells caller c.args.queue c.args.minute c.args.script.now mail file when now time commands is_job same_minute
    (g.H.Host.world c.args.host.now) (g.H.Host.world c.open_store.new.host) (g.H.Host.world c.submit.new.host) c.in_ok-store.store
    (subst (λ (user : List ℕ). IsStoreOpened g.H.Host.tells user (g.H.Host.world c.args.host.now) (g.H.Host.world c.open_store.new.host)
    c.in_ok-store.store) (sym same) c.in_ok-store.ensures.opened)
    c.in_err-number.field-0.0 c.in_err-number.ensures.answer
    (λ refused known. elim refused [
      | inl full ↦ ap g.H.Host.world (c.in_err-number.ensures.queue_full (ap (λ (fault : StoreFault). Err fault) full))
      | inr used ↦ ap g.H.Host.world (c.in_err-number.ensures.used_up (ap (λ (fault : StoreFault). Err fault) used))
    ])
    c.in_err-number.ensures.files)

pub returns-clause-goes_on : goal.returns-clause-goes_on
returns-clause-goes_on g c = λ known.
    goes_on_then (g.H.Host.world c.args.host.now) (g.H.Host.world c.open_store.new.host) (g.H.Host.world c.submit.new.host)
    (c.in_ok-store.ensures.goes_on known)
    (changes_go_on _ _ _
    (c.in_ok-number.ensures.files known c.in_ok-store.ensures.opened.table (c.in_ok-store.ensures.opened.recovered known).current).files)

pub returns-clause-stores : goal.returns-clause-stores
returns-clause-stores g c = λ caller same mail file when now time commands is_job same_minute.
    stored g.H.Host.tells caller c.args.queue c.args.minute c.args.script.now mail file when now time commands is_job same_minute
    (g.H.Host.world c.args.host.now) (g.H.Host.world c.open_store.new.host) (g.H.Host.world c.submit.new.host) c.in_ok-store.store
    (subst (λ (user : List ℕ). IsStoreOpened g.H.Host.tells user (g.H.Host.world c.args.host.now) (g.H.Host.world c.open_store.new.host)
    c.in_ok-store.store) (sym same) c.in_ok-store.ensures.opened)
    c.in_ok-number.field-0-0 c.in_ok-number.number c.in_ok-number.ensures.answer c.in_ok-number.ensures.files

pub returns-in_err-store-clause-no_output : goal.returns-in_err-store-clause-no_output
returns-in_err-store-clause-no_output g c =
    let p = err_from_is_err_and c.from_residual.result c.from_residual.ensures.1 in
    rw (p.1, p.2) (not_opened_of_spool _ _ _ _ c.in_err-store.field-0.0.cause c.in_err-store.ensures.not_opened)

pub returns-in_err-number-clause-no_output : goal.returns-in_err-number-clause-no_output
returns-in_err-number-clause-no_output g c =
    let p = err_from_is_err_and c.from_residual-in_err-number.result c.from_residual-in_err-number.ensures.1 in
    rw (p.1, p.2) (store_of_spool c.in_err-number.field-0.0)
