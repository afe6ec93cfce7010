use Rattle.std.proofs.Common.{◌≡◌, ◌∙◌, List, refl, rules, subst, sym, ℕ}
use Rattle.at_words.specs.declared.tool_request.ToolRequest.TheVariants as request
use Rattle.tool_output.specs.Causes.{cause_in}
use Rattle.at_commands.specs.inside.SessionOutcome.{Carries}
use Rattle.at_commands.specs.inside.Sessions.{lists_alone}
use Rattle.at_commands.proofs.AnswerLemmas.{named_user, removal_ends, removal_unnamed, unnamed_user}
use Rattle.at_commands.proofs.InSessionLemmas.{carries_of_session, no_output_of_session}
use Rattle.at_commands.proofs.SessionLemmas.{no_input_in, no_output_in, quiet_none}
use Rattle.at_commands.proofs.remove.remove.Goals as goal

pub returns-in-Some-clause-faults : goal.returns-in-Some-clause-faults
returns-in-Some-clause-faults g c = rw c.cause_of_command.ensures c.in_command_session.ensures.faults

pub returns-in-Some-clause-no_input_fault : goal.returns-in-Some-clause-no_input_fault
returns-in-Some-clause-no_input_fault g c = λ same.
    no_input_in c.in_command_session.result (no_output_of_session g.H.Host _ _ _ _ _ c.in_command_session.result
    c.in_command_session.ensures.ends (λ first last did. search (rules, did)))
    (sym c.cause_of_command.ensures ∙ same)

pub returns-in-Some-clause-no_output : goal.returns-in-Some-clause-no_output
returns-in-Some-clause-no_output g c = λ same.
    no_output_in c.in_command_session.result (no_output_of_session g.H.Host _ _ _ _ _ c.in_command_session.result
    c.in_command_session.ensures.ends (λ first last did. search (rules, did)))
    (sym c.cause_of_command.ensures ∙ same)

pub returns-in-Some-clause-ends : goal.returns-in-Some-clause-ends
returns-in-Some-clause-ends g c =
    let bytes : c.as_bytes.result.now ≡ c.args.caller.now.context.user = c.as_bytes.ensures.value ∙ c.as_str.ensures in
    rw c.cause_of_command.ensures
    (removal_ends g.H.Host.tells g.H.Host.alone c.args.numbers.now c.args.caller.now (g.H.Host.world c.args.host.now)
    (g.H.Host.world c.in_command_session.new.host)
    (cause_in c.in_command_session.result)
    (named_user c.as_bytes.result.now c.args.caller.now.context.user bytes (c.in-Some.ensures.valid.0 refl))
    (subst (λ (of : List ℕ). Carries g.H.Host.tells g.H.Host.alone (request.Remove of) c.args.caller.now lists_alone
    (g.H.Host.world c.args.host.now) (g.H.Host.world c.in_command_session.new.host) (cause_in c.in_command_session.result))
    c.as_slice-numbers.ensures.numbers
    (carries_of_session g.H.Host _ _ _ _ _ c.in_command_session.result c.in_command_session.ensures.ends
    (request.Remove c.as_slice-numbers.result.now) c.args.caller.now
    (λ first last did. search (rules, did, bytes, c.in-Some.ensures.value)))))

pub returns-in-None-clause-quiet : goal.returns-in-None-clause-quiet
returns-in-None-clause-quiet g c = quiet_none g.H.Host c.args.host.now c.requires

pub returns-in-None-clause-ends : goal.returns-in-None-clause-ends
returns-in-None-clause-ends g c =
    let bytes : c.as_bytes.result.now ≡ c.args.caller.now.context.user = c.as_bytes.ensures.value ∙ c.as_str.ensures in
    removal_unnamed g.H.Host.tells g.H.Host.alone c.args.numbers.now c.args.caller.now (g.H.Host.world c.args.host.now)
    (unnamed_user c.as_bytes.result.now c.args.caller.now.context.user bytes c.in-None.ensures.valid.1)
