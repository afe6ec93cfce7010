use Rattle.std.proofs.Common.{◌≡◌, ◌∙◌, refl, sym}
use Rattle.tool_output.specs.Sinks.{sink_at}
use Rattle.at_commands.proofs.AnswerLemmas.{listing_unnamed, named_user, unnamed_user}
use Rattle.at_commands.proofs.SessionLemmas.{quiet_none}
use Rattle.at_commands.proofs.list.list_jobs.Goals as goal

pub list_for-requires-clause-named : goal.list_for-requires-clause-named
list_for-requires-clause-named g c =
    let bytes : c.as_bytes.result.now ≡ c.args.caller.now.context.user = c.as_bytes.ensures.value ∙ c.as_str.ensures in
    named_user c.as_bytes.result.now c.args.caller.now.context.user bytes (c.in-Some.ensures.valid.0 refl)

pub list_for-requires-clause-user : goal.list_for-requires-clause-user
list_for-requires-clause-user g c =
    let bytes : c.as_bytes.result.now ≡ c.args.caller.now.context.user = c.as_bytes.ensures.value ∙ c.as_str.ensures in
    sym bytes ∙ sym c.in-Some.ensures.value

pub returns-in-None-clause-quiet : goal.returns-in-None-clause-quiet
returns-in-None-clause-quiet g c = quiet_none g.H.Host c.args.host.now c.requires

pub returns-in-None-clause-ends : goal.returns-in-None-clause-ends
returns-in-None-clause-ends g c =
    let bytes : c.as_bytes.result.now ≡ c.args.caller.now.context.user = c.as_bytes.ensures.value ∙ c.as_str.ensures in
    listing_unnamed g.H.Host.tells g.H.Host.alone g.O.Sink.tells c.args.which.now c.args.caller.now (g.H.Host.world c.args.host.now)
    (sink_at (g.O.Sink.content c.args.out.now) (g.O.Sink.outlet c.args.out.now))
    (unnamed_user c.as_bytes.result.now c.args.caller.now.context.user bytes c.in-None.ensures.valid.1)
