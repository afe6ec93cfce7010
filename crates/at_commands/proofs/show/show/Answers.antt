use Rattle.std.proofs.Common.{◌≡◌, ◌∙◌, List, refl, rules, subst, sym, ℕ}
use Rattle.at_words.specs.declared.tool_request.ToolRequest.TheVariants as request
use Rattle.host_calls.specs.Causes.{Rose}
use Rattle.tool_output.specs.Sinks.{sink_at}
use Rattle.at_commands.specs.inside.Sessions.{ShowsInSession}
use Rattle.at_commands.proofs.AnswerLemmas.{named_user, showing_ends, showing_unnamed, unnamed_user}
use Rattle.at_commands.proofs.InSessionLemmas.{answer_of_session, fails_of_session, no_input_of_session, shows_of_session}
use Rattle.at_commands.proofs.SessionLemmas.{quiet_none}
use Rattle.at_commands.proofs.show.show.Goals as goal

pub returns-in-Some-clause-faults : goal.returns-in-Some-clause-faults
returns-in-Some-clause-faults g c = rw c.cause_of_command.ensures c.in_command_session.ensures.faults

pub returns-in-Some-clause-no_input_fault : goal.returns-in-Some-clause-no_input_fault
returns-in-Some-clause-no_input_fault g c = λ same.
    no_input_of_session g.H.Host _ _ _ _ _ c.in_command_session.result c.in_command_session.ensures.ends
    (λ first last did. search (rules, did)) (sym c.cause_of_command.ensures ∙ same)

pub returns-in-Some-clause-output_fault : goal.returns-in-Some-clause-output_fault
returns-in-Some-clause-output_fault g c = λ same.
    fails_of_session g.H.Host _ _ _ _ _ c.in_command_session.result c.in_command_session.ensures.ends
    (Rose (g.O.Sink.outlet c.args.out.now).sink_faults (g.O.Sink.outlet c.out-1.given.0).sink_faults)
    (λ first last did. search (rules, did))
    (sym c.cause_of_command.ensures ∙ same)

pub returns-in-Some-clause-made_as : goal.returns-in-Some-clause-made_as
returns-in-Some-clause-made_as g c =
    answer_of_session g.H.Host _ _ _ _ _ c.in_command_session.result c.in_command_session.ensures.ends
    (λ result. (g.O.Sink.outlet c.out-1.given.0).made_as ≡ (g.O.Sink.outlet c.args.out.now).made_as) (λ fault same. search (rules, same))
    (λ first last did. search (rules, did))

pub returns-in-Some-clause-ends : goal.returns-in-Some-clause-ends
returns-in-Some-clause-ends g c =
    let bytes : c.as_bytes.result.now ≡ c.args.caller.now.context.user = c.as_bytes.ensures.value ∙ c.as_str.ensures in
    rw c.cause_of_command.ensures
    (showing_ends g.H.Host.tells g.H.Host.alone g.O.Sink.tells c.args.numbers.now c.args.caller.now (g.H.Host.world c.args.host.now)
    (g.H.Host.world c.in_command_session.new.host)
    (sink_at (g.O.Sink.content c.args.out.now) (g.O.Sink.outlet c.args.out.now))
    (sink_at (g.O.Sink.content c.out-1.given.0) (g.O.Sink.outlet c.out-1.given.0)) c.in_command_session.result
    (named_user c.as_bytes.result.now c.args.caller.now.context.user bytes (c.in-Some.ensures.valid.0 refl))
    (subst (λ (of : List ℕ). ShowsInSession g.H.Host.tells g.H.Host.alone g.O.Sink.tells (request.Show of) c.args.caller.now
    (g.H.Host.world c.args.host.now) (g.H.Host.world c.in_command_session.new.host)
    (sink_at (g.O.Sink.content c.args.out.now) (g.O.Sink.outlet c.args.out.now))
    (sink_at (g.O.Sink.content c.out-1.given.0) (g.O.Sink.outlet c.out-1.given.0)) c.in_command_session.result)
    c.as_slice-numbers.ensures.numbers
    (shows_of_session g.H.Host _ _ _ _ _ c.in_command_session.result g.O.Sink.tells
    (request.Show c.as_slice-numbers.result.now) c.args.caller.now
    (sink_at (g.O.Sink.content c.args.out.now) (g.O.Sink.outlet c.args.out.now))
    (sink_at (g.O.Sink.content c.out-1.given.0) (g.O.Sink.outlet c.out-1.given.0))
    c.in_command_session.ensures.ends (λ same. search (rules, same))
    (λ first last did. search (rules, did, bytes, c.in-Some.ensures.value)))))

pub returns-in-None-clause-quiet : goal.returns-in-None-clause-quiet
returns-in-None-clause-quiet g c = quiet_none g.H.Host c.args.host.now c.requires

pub returns-in-None-clause-ends : goal.returns-in-None-clause-ends
returns-in-None-clause-ends g c =
    let bytes : c.as_bytes.result.now ≡ c.args.caller.now.context.user = c.as_bytes.ensures.value ∙ c.as_str.ensures in
    showing_unnamed g.H.Host.tells g.H.Host.alone g.O.Sink.tells c.args.numbers.now c.args.caller.now (g.H.Host.world c.args.host.now)
    (sink_at (g.O.Sink.content c.args.out.now) (g.O.Sink.outlet c.args.out.now))
    (unnamed_user c.as_bytes.result.now c.args.caller.now.context.user bytes c.in-None.ensures.valid.1)
