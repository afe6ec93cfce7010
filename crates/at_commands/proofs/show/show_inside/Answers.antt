use Rattle.std.proofs.Common.{refl, sym, false}
use Rattle.std.proofs.lemmas.Result.{err_from_is_err_and}
use Rattle.at_words.specs.declared.tool_request.ToolRequest.TheVariants as request
use Rattle.tool_output.specs.Sinks.{sink_at}
use Rattle.host_calls.proofs.WorldLemmas.{goes_on_none, goes_on_then}
use Rattle.at_commands.proofs.AnswerLemmas.{showing_of, showing_unopened}
use Rattle.at_commands.proofs.UnreadLemmas.{unchecked}
use Rattle.at_commands.proofs.ForLemmas.{showing_refused}
use Rattle.at_commands.proofs.JobsLemmas.{jobs_live_all}
use Rattle.at_commands.proofs.SessionLemmas.{jobs_come, no_output_of_stopped, not_opened_comes, not_opened_of_spool, showing_comes}
use Rattle.at_commands.proofs.show.show_inside.Goals as goal

pub returns-in_err-store-clause-comes : goal.returns-in_err-store-clause-comes
returns-in_err-store-clause-comes g c =
    let p = err_from_is_err_and c.from_residual.result c.from_residual.ensures.1 in
    rw (p.1, p.2) (not_opened_comes _ _ _ _ c.in_err-store.field-0.0.cause c.in_err-store.ensures.not_opened)

pub returns-in_err-store-clause-output_fault : goal.returns-in_err-store-clause-output_fault
returns-in_err-store-clause-output_fault g c =
    let p = err_from_is_err_and c.from_residual.result c.from_residual.ensures.1 in
    rw (p.1, p.2) (λ is. absurd (no_output_of_stopped c.in_err-store.field-0.0
    (not_opened_of_spool _ _ _ _ c.in_err-store.field-0.0.cause c.in_err-store.ensures.not_opened) is))

pub returns-in_err-store-clause-shows : goal.returns-in_err-store-clause-shows
returns-in_err-store-clause-shows g c = λ caller same.
    let p = err_from_is_err_and c.from_residual.result c.from_residual.ensures.1 in
    rw (p.1, p.2)
    (showing_unopened g.H.Host.tells _ g.O.Sink.tells (request.Show c.args.numbers.now) caller (g.H.Host.world c.args.host.now)
    (g.H.Host.world c.open_store.new.host)
    (sink_at (g.O.Sink.content c.args.out.now) (g.O.Sink.outlet c.args.out.now)) c.args.user.now c.in_err-store.field-0.0.cause same
    c.in_err-store.ensures.not_opened)

pub returns-in-Some-clause-comes : goal.returns-in-Some-clause-comes
returns-in-Some-clause-comes g c =
    rw c.refused.ensures (jobs_come c.args.user.now false c.in_ok-store.store.table c.args.numbers.now c.in-Some.refusal c.in-Some.ensures)

pub returns-in-Some-clause-shows : goal.returns-in-Some-clause-shows
returns-in-Some-clause-shows g c = λ caller same.
    rw c.refused.ensures
    (showing_refused g.H.Host.tells g.O.Sink.tells c.args.numbers.now caller c.args.user.now same (g.H.Host.world c.args.host.now)
    (g.H.Host.world c.open_store.new.host) (g.H.Host.world c.open_store.new.host)
    (sink_at (g.O.Sink.content c.args.out.now) (g.O.Sink.outlet c.args.out.now))
    (sink_at (g.O.Sink.content c.args.out.now) (g.O.Sink.outlet c.args.out.now)) c.in_ok-store.store c.in_ok-store.ensures.opened
    c.in-Some.refusal c.in-Some.ensures
    (λ known. refl) (unchecked _))

pub put_scripts-requires-clause-live : goal.put_scripts-requires-clause-live
put_scripts-requires-clause-live g c = jobs_live_all c.args.user.now c.in_ok-store.store.table c.args.numbers.now (sym c.in-None.ensures)

pub put_scripts-requires-clause-current : goal.put_scripts-requires-clause-current
put_scripts-requires-clause-current g c =
    λ known. (c.in_ok-store.ensures.opened.table, (c.in_ok-store.ensures.opened.recovered known).current)

pub returns-clause-comes : goal.returns-clause-comes
returns-clause-comes g c = showing_comes c.put_scripts.result c.put_scripts.ensures.puts.comes

pub returns-clause-output_fault : goal.returns-clause-output_fault
returns-clause-output_fault g c = c.put_scripts.ensures.puts.failed

pub returns-clause-goes_on : goal.returns-clause-goes_on
returns-clause-goes_on g c = λ known.
    goes_on_then (g.H.Host.world c.args.host.now) (g.H.Host.world c.open_store.new.host) (g.H.Host.world c.put_scripts.new.host)
    (c.in_ok-store.ensures.goes_on known) (goes_on_none _ _ (c.put_scripts.ensures.puts.looks known))

pub returns-clause-shows : goal.returns-clause-shows
returns-clause-shows g c = λ caller same.
    showing_of g.H.Host.tells g.O.Sink.tells c.args.numbers.now caller c.args.user.now same (g.H.Host.world c.args.host.now)
    (g.H.Host.world c.open_store.new.host) (g.H.Host.world c.put_scripts.new.host)
    (sink_at (g.O.Sink.content c.args.out.now) (g.O.Sink.outlet c.args.out.now))
    (sink_at (g.O.Sink.content c.put_scripts.new.out) (g.O.Sink.outlet c.put_scripts.new.out)) c.in_ok-store.store
    c.in_ok-store.ensures.opened c.in-None.ensures
    c.put_scripts.ensures.puts.looks c.put_scripts.result c.put_scripts.ensures.puts.comes c.put_scripts.ensures.puts.puts
