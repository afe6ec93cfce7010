use Rattle.std.proofs.Common.{◌∙◌, List, rules, subst, sym, ℕ}
use Rattle.at_words.specs.declared.tool_request.ToolRequest.TheVariants as request
use Rattle.tool_output.specs.Sinks.{sink_at}
use Rattle.tool_output.specs.Whole.{PutsWhole}
use Rattle.at_commands.proofs.AnswerLemmas.{listing_put, listing_stopped, listing_unzoned, puts_after_lock, puts_no_busy, puts_no_file_fault, puts_no_input_fault}
use Rattle.at_commands.proofs.InSessionLemmas.{lists_of_session, no_output_of_session}
use Rattle.at_commands.proofs.SessionLemmas.{no_input_of_spool, no_output_of_spool, quiet_none, risen_none}
use Rattle.command_rules.proofs.UserLemmas.{zone_readable}
use Rattle.at_commands.proofs.list.list_for.Goals as goal

pub returns-then-is_unreadable-clause-quiet : goal.returns-then-is_unreadable-clause-quiet
returns-then-is_unreadable-clause-quiet g c = quiet_none g.H.Host c.args.host.now c.requires.outside

pub returns-then-is_unreadable-clause-ends : goal.returns-then-is_unreadable-clause-ends
returns-then-is_unreadable-clause-ends g c =
    listing_unzoned g.H.Host.tells g.H.Host.alone g.O.Sink.tells c.args.which.now c.args.caller.now (g.H.Host.world c.args.host.now)
    (sink_at (g.O.Sink.content c.args.out.now) (g.O.Sink.outlet c.args.out.now)) c.requires.named
    (sym c.is_unreadable.ensures ∙ c.if-is_unreadable.true)

pub in_command_session-requires-clause-may : goal.in_command_session-requires-clause-may
in_command_session-requires-clause-may g c =
    λ at inside. search (rules, zone_readable c.args.caller.now.zone (sym c.is_unreadable.ensures ∙ c.if-is_unreadable.false))

pub returns-in-Err-clause-no_input_fault : goal.returns-in-Err-clause-no_input_fault
returns-in-Err-clause-no_input_fault g c = no_input_of_spool c.in-Err.stopped
    (no_output_of_session g.H.Host _ _ _ _ _ _ c.in-Err.ensures.ends (λ first last did. search (rules, did)))

pub returns-in-Err-clause-output_fault : goal.returns-in-Err-clause-output_fault
returns-in-Err-clause-output_fault g c = λ same. absurd (no_output_of_spool c.in-Err.stopped
    (no_output_of_session g.H.Host _ _ _ _ _ _ c.in-Err.ensures.ends (λ first last did. search (rules, did))) same)

pub returns-in-Err-clause-ends : goal.returns-in-Err-clause-ends
returns-in-Err-clause-ends g c =
    listing_stopped g.H.Host.tells g.H.Host.alone g.O.Sink.tells c.args.which.now c.args.caller.now (g.H.Host.world c.args.host.now)
    (g.H.Host.world c.in_command_session.new.host) c.requires.named (sym c.is_unreadable.ensures ∙ c.if-is_unreadable.false)
    c.in-Err.stopped (sink_at (g.O.Sink.content c.args.out.now) (g.O.Sink.outlet c.args.out.now))
    (no_output_of_session g.H.Host _ _ _ _ _ _ c.in-Err.ensures.ends (λ first last did. search (rules, did)))
    (lists_of_session g.H.Host _ _ _ _ _ _ (request.List c.args.which.now) c.args.caller.now c.in-Err.ensures.ends
    (λ first last did. search (rules, did, c.requires.user)))

pub returns-in-Ok-clause-faults : goal.returns-in-Ok-clause-faults
returns-in-Ok-clause-faults g c = risen_none g.H.Host _ _ c.put_whole.result
    (puts_no_file_fault _ _ _ _ c.put_whole.result c.put_whole.ensures.puts)
    (puts_no_busy _ _ _ _ c.put_whole.result c.put_whole.ensures.puts)
    (λ stops. absurd (puts_after_lock _ _ _ _ c.put_whole.result c.put_whole.ensures.puts stops))

pub returns-in-Ok-clause-no_input_fault : goal.returns-in-Ok-clause-no_input_fault
returns-in-Ok-clause-no_input_fault g c = puts_no_input_fault _ _ _ _ c.put_whole.result c.put_whole.ensures.puts

pub returns-in-Ok-clause-ends : goal.returns-in-Ok-clause-ends
returns-in-Ok-clause-ends g c =
    listing_put g.H.Host.tells g.H.Host.alone g.O.Sink.tells c.args.which.now c.args.caller.now (g.H.Host.world c.args.host.now)
    (g.H.Host.world c.in_command_session.new.host) c.requires.named (sym c.is_unreadable.ensures ∙ c.if-is_unreadable.false)
    c.put_whole.result c.in-Ok.text (sink_at (g.O.Sink.content c.args.out.now) (g.O.Sink.outlet c.args.out.now))
    (sink_at (g.O.Sink.content c.put_whole.new.out) (g.O.Sink.outlet c.put_whole.new.out))
    (lists_of_session g.H.Host _ _ _ _ _ _ (request.List c.args.which.now) c.args.caller.now c.in-Ok.ensures.ends
    (λ first last did. search (rules, did, c.requires.user)))
    (subst (λ (of : List ℕ). PutsWhole g.O.Sink.tells of (sink_at (g.O.Sink.content c.args.out.now) (g.O.Sink.outlet c.args.out.now))
    (sink_at (g.O.Sink.content c.put_whole.new.out) (g.O.Sink.outlet c.put_whole.new.out)) c.put_whole.result) c.as_slice.ensures
    c.put_whole.ensures.puts)
