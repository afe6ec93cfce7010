use Rattle.std.proofs.Common.{◌∙◌, ◌≡◌, rules}
use Rattle.at_commands.proofs.InSessionLemmas.{no_output_of_session, stores_of_session}
use Rattle.at_commands.proofs.PreparedLemmas.{not_stored, stored_and_said}
use Rattle.at_commands.proofs.SessionLemmas.{no_input_of_spool, no_output_of_spool}
use Rattle.at_commands.proofs.submit.store_and_say.Goals as goal

pub returns-in-Err-clause-no_input_fault : goal.returns-in-Err-clause-no_input_fault
returns-in-Err-clause-no_input_fault g c = no_input_of_spool c.in-Err.stopped
    (no_output_of_session g.H.Host _ _ _ _ _ _ c.in-Err.ensures.ends (λ first last did. search (rules, did)))

pub returns-in-Err-clause-output_fault : goal.returns-in-Err-clause-output_fault
returns-in-Err-clause-output_fault g c = λ same. absurd (no_output_of_spool c.in-Err.stopped
    (no_output_of_session g.H.Host _ _ _ _ _ _ c.in-Err.ensures.ends (λ first last did. search (rules, did))) same)

pub returns-in-Err-clause-answers : goal.returns-in-Err-clause-answers
returns-in-Err-clause-answers g c = λ mail file when now time commands is_job same_minute.
    let user : c.unwrap-user.result ≡ c.args.caller.now.context.user = (rw c.unwrap-user.ensures at c.of.ensures.value)
    ∙ c.as_bytes.ensures.value ∙ c.as_str.ensures in
    not_stored g.H.Host.tells g.H.Host.alone g.E.Sink.tells c.args.caller.now c.args.queue c.args.submission.now.minute
    c.args.submission.now.script mail file when now
    time commands same_minute (g.H.Host.world c.args.host.now) (g.H.Host.world c.in_command_session.new.host) c.in-Err.stopped _
    (no_output_of_session g.H.Host _ _ _ _ _ _ c.in-Err.ensures.ends (λ first last did. search (rules, did)))
    (stores_of_session g.H.Host _ _ _ _ _ _ c.args.caller.now c.args.queue c.args.submission.now.minute
    c.args.submission.now.script c.in-Err.ensures.ends
    (λ first last did. search (rules, did, user, c.as_slice-script.ensures)) mail file when now time commands is_job same_minute)

pub returns-in-Ok-clause-answers : goal.returns-in-Ok-clause-answers
returns-in-Ok-clause-answers g c = λ mail file when now time commands is_job same_minute.
    let user : c.unwrap-user.result ≡ c.args.caller.now.context.user = (rw c.unwrap-user.ensures at c.of.ensures.value)
    ∙ c.as_bytes.ensures.value ∙ c.as_str.ensures in
    stored_and_said g.H.Host.tells g.H.Host.alone g.E.Sink.tells c.args.caller.now c.args.queue c.args.submission.now.minute
    c.args.submission.now.script mail file when now
    time commands same_minute (g.H.Host.world c.args.host.now) (g.H.Host.world c.in_command_session.new.host) c.in-Ok.number
    (stores_of_session g.H.Host _ _ _ _ _ _ c.args.caller.now c.args.queue c.args.submission.now.minute
    c.args.submission.now.script c.in-Ok.ensures.ends
    (λ first last did. search (rules, did, user, c.as_slice-script.ensures)) mail file when now time commands is_job same_minute)
    c.accept.result _ _ c.accept.ensures.accepts
