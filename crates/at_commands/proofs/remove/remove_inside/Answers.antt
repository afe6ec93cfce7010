use Rattle.std.proofs.Common.{sym, refl, true}
use Rattle.std.proofs.lemmas.Result.{err_from_is_err_and}
use Rattle.at_words.specs.declared.tool_request.ToolRequest.TheVariants as request
use Rattle.tool_output.specs.Causes.{cause_in}
use Rattle.host_calls.proofs.WorldLemmas.{goes_on_then}
use Rattle.at_commands.proofs.ForLemmas.{carries_unopened, removal_by, removal_comes, removal_refused}
use Rattle.at_commands.proofs.JobsLemmas.{removal_allowed}
use Rattle.at_commands.proofs.SessionLemmas.{jobs_come, not_opened_comes, not_opened_of_spool, removing_comes, removing_no_output}
use Rattle.at_commands.proofs.remove.remove_inside.Goals as goal

pub returns-in_err-store-clause-comes : goal.returns-in_err-store-clause-comes
returns-in_err-store-clause-comes g c =
    let p = err_from_is_err_and c.from_residual.result c.from_residual.ensures.1 in
    rw (p.1, p.2) (not_opened_comes _ _ _ _ c.in_err-store.field-0.0.cause c.in_err-store.ensures.not_opened)

pub returns-in_err-store-clause-no_output : goal.returns-in_err-store-clause-no_output
returns-in_err-store-clause-no_output g c =
    let p = err_from_is_err_and c.from_residual.result c.from_residual.ensures.1 in
    rw (p.1, p.2) (not_opened_of_spool _ _ _ _ c.in_err-store.field-0.0.cause c.in_err-store.ensures.not_opened)

pub returns-in_err-store-clause-carries : goal.returns-in_err-store-clause-carries
returns-in_err-store-clause-carries g c = λ caller same.
    let p = err_from_is_err_and c.from_residual.result c.from_residual.ensures.1 in
    rw (p.1, p.2)
    (carries_unopened g.H.Host.tells _ (request.Remove c.args.numbers.now) caller (g.H.Host.world c.args.host.now)
    (g.H.Host.world c.open_store.new.host)
    c.args.user.now c.in_err-store.field-0.0.cause same c.in_err-store.ensures.not_opened)

pub returns-in-Some-clause-comes : goal.returns-in-Some-clause-comes
returns-in-Some-clause-comes g c =
    rw c.refused.ensures (jobs_come c.args.user.now true c.in_ok-store.store.table c.args.numbers.now c.in-Some.refusal c.in-Some.ensures)

pub returns-in-Some-clause-no_output : goal.returns-in-Some-clause-no_output
returns-in-Some-clause-no_output g c = rw c.refused.ensures tt

pub returns-in-Some-clause-carries : goal.returns-in-Some-clause-carries
returns-in-Some-clause-carries g c = λ caller same.
    rw c.refused.ensures
    (removal_refused g.H.Host.tells _ c.args.numbers.now caller c.args.user.now same (g.H.Host.world c.args.host.now)
    (g.H.Host.world c.open_store.new.host)
    (g.H.Host.world c.open_store.new.host) c.in_ok-store.store c.in_ok-store.ensures.opened c.in-Some.refusal
    c.in-Some.ensures (λ known. refl))

pub remove_jobs-requires-clause-legal : goal.remove_jobs-requires-clause-legal
remove_jobs-requires-clause-legal g c =
    removal_allowed c.args.user.now c.in_ok-store.store.table c.args.numbers.now c.requires.distinct (sym c.in-None.ensures)

pub remove_jobs-requires-clause-current : goal.remove_jobs-requires-clause-current
remove_jobs-requires-clause-current g c =
    λ known. (c.in_ok-store.ensures.opened.table, (c.in_ok-store.ensures.opened.recovered known).current)

pub returns-in-None-clause-comes : goal.returns-in-None-clause-comes
returns-in-None-clause-comes g c = removing_comes c.remove_jobs.result c.remove_jobs.ensures.comes

pub returns-in-None-clause-no_output : goal.returns-in-None-clause-no_output
returns-in-None-clause-no_output g c = removing_no_output c.remove_jobs.result c.remove_jobs.ensures.comes

pub returns-in-None-clause-goes_on : goal.returns-in-None-clause-goes_on
returns-in-None-clause-goes_on g c = λ known.
    goes_on_then (g.H.Host.world c.args.host.now) (g.H.Host.world c.open_store.new.host) (g.H.Host.world c.remove_jobs.new.host)
    (c.in_ok-store.ensures.goes_on known) (c.remove_jobs.ensures.goes_on known)

pub returns-in-None-clause-carries : goal.returns-in-None-clause-carries
returns-in-None-clause-carries g c = λ caller same.
    removal_by g.H.Host.tells _ c.args.numbers.now caller c.args.user.now same (g.H.Host.world c.args.host.now)
    (g.H.Host.world c.open_store.new.host)
    (g.H.Host.world c.remove_jobs.new.host) c.in_ok-store.store c.in_ok-store.ensures.opened
    (cause_in c.remove_jobs.result) c.in-None.ensures
    (removal_comes c.remove_jobs.result c.remove_jobs.ensures.comes)
    (λ known. c.remove_jobs.ensures.works known c.in_ok-store.ensures.opened.table (c.in_ok-store.ensures.opened.recovered known).current)
