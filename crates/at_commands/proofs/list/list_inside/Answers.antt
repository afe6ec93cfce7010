use Rattle.std.proofs.Common.{refl}
use Rattle.std.proofs.lemmas.Result.{err_from_is_err_and}
use Rattle.at_words.specs.declared.tool_request.ToolRequest.TheVariants as request
use Rattle.at_commands.proofs.AnswerLemmas.{listing_of, listing_unopened}
use Rattle.at_commands.proofs.ForLemmas.{listing_refused}
use Rattle.at_commands.proofs.SessionLemmas.{filter_comes, memory_comes, memory_no_output, not_opened_comes, not_opened_of_spool}
use Rattle.at_commands.proofs.list.list_inside.Goals as goal

pub returns-in_err-store-clause-comes : goal.returns-in_err-store-clause-comes
returns-in_err-store-clause-comes g c =
    let p = err_from_is_err_and c.from_residual.result c.from_residual.ensures.1 in
    rw (p.1, p.2) (not_opened_comes _ _ _ _ c.in_err-store.field-0.0.cause c.in_err-store.ensures.not_opened)

pub returns-in_err-store-clause-no_output : goal.returns-in_err-store-clause-no_output
returns-in_err-store-clause-no_output g c =
    let p = err_from_is_err_and c.from_residual.result c.from_residual.ensures.1 in
    rw (p.1, p.2) (not_opened_of_spool _ _ _ _ c.in_err-store.field-0.0.cause c.in_err-store.ensures.not_opened)

pub returns-in_err-store-clause-lists : goal.returns-in_err-store-clause-lists
returns-in_err-store-clause-lists g c = λ caller same same_zone.
    let p = err_from_is_err_and c.from_residual.result c.from_residual.ensures.1 in
    rw (p.1, p.2)
    (listing_unopened g.H.Host.tells _ (request.List c.args.which.now) caller (g.H.Host.world c.args.host.now)
    (g.H.Host.world c.open_store.new.host)
    c.args.user.now c.in_err-store.field-0.0.cause same c.in_err-store.ensures.not_opened)

pub returns-in-Some-clause-comes : goal.returns-in-Some-clause-comes
returns-in-Some-clause-comes g c =
    rw c.refused.ensures (filter_comes c.args.user.now c.in_ok-store.store.table c.args.which.now c.in-Some.refusal c.in-Some.ensures)

pub returns-in-Some-clause-no_output : goal.returns-in-Some-clause-no_output
returns-in-Some-clause-no_output g c = rw c.refused.ensures tt

pub returns-in-Some-clause-lists : goal.returns-in-Some-clause-lists
returns-in-Some-clause-lists g c = λ caller same same_zone.
    rw c.refused.ensures
    (listing_refused g.H.Host.tells c.args.which.now caller c.args.user.now c.args.zone.now same same_zone (g.H.Host.world c.args.host.now)
    (g.H.Host.world c.open_store.new.host) (g.H.Host.world c.open_store.new.host) c.in_ok-store.store c.in_ok-store.ensures.opened
    c.in-Some.refusal c.in-Some.ensures
    (λ known. refl))

pub returns-clause-comes : goal.returns-clause-comes
returns-clause-comes g c = memory_comes c.listing_text_of.result c.listing_text_of.ensures.memory

pub returns-clause-no_output : goal.returns-clause-no_output
returns-clause-no_output g c = memory_no_output c.listing_text_of.result c.listing_text_of.ensures.memory

pub returns-clause-lists : goal.returns-clause-lists
returns-clause-lists g c = λ caller same same_zone.
    listing_of g.H.Host.tells c.args.which.now caller c.args.user.now c.args.zone.now same same_zone (g.H.Host.world c.args.host.now)
    (g.H.Host.world c.open_store.new.host) (g.H.Host.world c.open_store.new.host) c.in_ok-store.store
    c.in_ok-store.ensures.opened c.in-None.ensures
    (λ known. refl) c.listing_text_of.result c.listing_text_of.ensures.is_listing c.listing_text_of.ensures.memory
