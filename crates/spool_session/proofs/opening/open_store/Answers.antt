use Rattle.std.proofs.Common.{◌∙◌, sym}
use Rattle.std.proofs.lemmas.Result.{err_from_is_err_and}
use Rattle.command_rules.specs.Sessions.{refuses}
use Rattle.host_calls.proofs.WorldLemmas.{goes_on_none, goes_on_then}
use Rattle.whole_file.proofs.OthersLemmas.{changes_go_on}
use Rattle.spool_session.proofs.OpeningLemmas.{lists_unread, store_opened, unrecovered}
use Rattle.spool_session.proofs.opening.open_store.Goals as goal

pub returns-in_err-lists-clause-not_opened : goal.returns-in_err-lists-clause-not_opened
returns-in_err-lists-clause-not_opened g c =
    let p = err_from_is_err_and c.from_residual.result c.from_residual.ensures.1 in
    rw (p.1, p.2) (lists_unread g.H.Host.tells c.args.user.now (g.H.Host.world c.args.host.now) (g.H.Host.world c.read_lists.new.host)
    c.in_err-lists.field-0.0 c.in_err-lists.ensures.looks)

pub returns-then-not-are_permitting-clause-not_opened : goal.returns-then-not-are_permitting-clause-not_opened
returns-then-not-are_permitting-clause-not_opened g c =
    rw c.refused.ensures (refuses c.in_ok-lists.lists.allow c.in_ok-lists.lists.deny
    (sym c.are_permitting.ensures ∙ c.if-not-are_permitting.true) c.in_ok-lists.ensures.texts (λ tells. c.in_ok-lists.ensures.looks tells))

pub returns-in_err-store-clause-goes_on : goal.returns-in_err-store-clause-goes_on
returns-in_err-store-clause-goes_on g c = λ tells.
    goes_on_then (g.H.Host.world c.args.host.now) (g.H.Host.world c.read_lists.new.host) (g.H.Host.world c.recover.new.host)
    (goes_on_none _ _ (c.in_ok-lists.ensures.looks tells)) (changes_go_on _ _ _ (c.in_err-store.ensures.files tells))

pub returns-in_err-store-clause-not_opened : goal.returns-in_err-store-clause-not_opened
returns-in_err-store-clause-not_opened g c =
    let p = err_from_is_err_and c.from_residual-in_err-store.result c.from_residual-in_err-store.ensures.1 in
    rw (p.1, p.2) (unrecovered g.H.Host.tells c.args.user.now c.in_ok-lists.lists.allow c.in_ok-lists.lists.deny
    (g.H.Host.world c.args.host.now) (g.H.Host.world c.read_lists.new.host) (g.H.Host.world c.recover.new.host)
    (sym c.are_permitting.ensures ∙ c.if-not-are_permitting.false)
    c.in_ok-lists.ensures.looks c.in_ok-lists.ensures.texts c.in_err-store.ensures.files
    c.in_err-store.field-0.0 c.in_err-store.ensures.of_reading c.in_err-store.ensures.recovered c.in_err-store.ensures.untouched)

pub returns-clause-goes_on : goal.returns-clause-goes_on
returns-clause-goes_on g c = λ tells.
    goes_on_then (g.H.Host.world c.args.host.now) (g.H.Host.world c.read_lists.new.host) (g.H.Host.world c.recover.new.host)
    (goes_on_none _ _ (c.in_ok-lists.ensures.looks tells)) (changes_go_on _ _ _ (c.in_ok-store.ensures.files tells))

pub returns-clause-opened : goal.returns-clause-opened
returns-clause-opened g c =
    store_opened g.H.Host.tells c.args.user.now c.in_ok-lists.lists.allow c.in_ok-lists.lists.deny
    (g.H.Host.world c.args.host.now) (g.H.Host.world c.read_lists.new.host) (g.H.Host.world c.recover.new.host) c.in_ok-store.store
    (sym c.are_permitting.ensures ∙ c.if-not-are_permitting.false)
    c.in_ok-lists.ensures.looks c.in_ok-lists.ensures.texts c.in_ok-store.ensures.files c.in_ok-store.ensures.recovered
