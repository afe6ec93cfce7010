use Rattle.std.proofs.Common.{ap, refl, subst}
use Rattle.std.specs.Prelude.{Err}
use Rattle.listing_text.specs.declared.cause.Cause.{Cause}
use Rattle.submission_checks.specs.EarlyChecks.{IsOfPreparing}
use Rattle.tool_output.specs.Causes.{error_of}
use Rattle.tool_output.specs.Sinks.{sink_at}
use Rattle.at_commands.specs.inside.RequestOutcome.{held_by, tells_of}
use Rattle.at_commands.proofs.PreparedLemmas.{prepared_header, prepared_named, prepared_zoned, submission_answered, submission_stopped}
use Rattle.at_commands.proofs.SessionLemmas.{quiet_none, risen_none}
use Rattle.at_commands.proofs.UnreadLemmas.{unchecked}
use Rattle.at_commands.proofs.submit.submit_job.Goals as goal

pub returns-in-Err-clause-quiet : goal.returns-in-Err-clause-quiet
returns-in-Err-clause-quiet g c = quiet_none g.H.Host c.args.host.now c.requires.outside

pub returns-in-Err-clause-faults : goal.returns-in-Err-clause-faults
returns-in-Err-clause-faults g c = risen_none g.H.Host _ _ c.in-Err.stopped.cause
    (λ same. subst (λ (of : Cause). IsOfPreparing of) same c.in-Err.ensures.prepares.ends.comes)
    (λ same. subst (λ (of : Cause). IsOfPreparing of) same c.in-Err.ensures.prepares.ends.comes)
    (λ stops. refl)

pub returns-in-Err-clause-output_fault : goal.returns-in-Err-clause-output_fault
returns-in-Err-clause-output_fault g c = λ same. absurd (subst (λ (of : Cause). IsOfPreparing of) same c.in-Err.ensures.prepares.ends.comes)

pub returns-in-Err-clause-input_fault : goal.returns-in-Err-clause-input_fault
returns-in-Err-clause-input_fault g c = λ same. c.in-Err.ensures.cause.rose (ap (λ (of : Cause). Err (error_of of)) same)

pub returns-in-Err-clause-submits : goal.returns-in-Err-clause-submits
returns-in-Err-clause-submits g c =
    submission_stopped (tells_of g.H.Host.tells g.H.Host.alone g.R.Readings.tells g.I.Inputs.tells g.E.Sink.tells) c.args.queue c.args.mail
    c.args.file.now c.args.when.now c.args.caller.now
    (held_by (g.H.Host.world c.args.host.now) (g.R.Readings.answers c.args.readings.now) (g.I.Inputs.contents c.args.inputs.now)
    (sink_at (g.E.Sink.content c.args.err.now) (g.E.Sink.outlet c.args.err.now)))
    (held_by (g.H.Host.world c.args.host.now) (g.R.Readings.answers c.prepare.new.readings) (g.I.Inputs.contents c.prepare.new.inputs)
    (sink_at (g.E.Sink.content c.args.err.now) (g.E.Sink.outlet c.args.err.now)))
    c.in-Err.stopped (rw c.path_of.ensures at c.in-Err.ensures.prepares) refl (unchecked _)

pub store_and_say-requires-clause-user : goal.store_and_say-requires-clause-user
store_and_say-requires-clause-user g c =
    prepared_named (tells_of g.H.Host.tells g.H.Host.alone g.R.Readings.tells g.I.Inputs.tells g.E.Sink.tells) c.args.queue c.args.mail
    c.args.file.now c.args.when.now c.args.caller.now
    (held_by (g.H.Host.world c.args.host.now) (g.R.Readings.answers c.args.readings.now) (g.I.Inputs.contents c.args.inputs.now)
    (sink_at (g.E.Sink.content c.args.err.now) (g.E.Sink.outlet c.args.err.now)))
    (held_by (g.H.Host.world c.args.host.now) (g.R.Readings.answers c.prepare.new.readings) (g.I.Inputs.contents c.prepare.new.inputs)
    (sink_at (g.E.Sink.content c.args.err.now) (g.E.Sink.outlet c.args.err.now)))
    c.in-Ok.submission (rw c.path_of.ensures at c.in-Ok.ensures.prepares)

pub store_and_say-requires-clause-zone : goal.store_and_say-requires-clause-zone
store_and_say-requires-clause-zone g c =
    prepared_zoned (tells_of g.H.Host.tells g.H.Host.alone g.R.Readings.tells g.I.Inputs.tells g.E.Sink.tells) c.args.queue c.args.mail
    c.args.file.now c.args.when.now c.args.caller.now
    (held_by (g.H.Host.world c.args.host.now) (g.R.Readings.answers c.args.readings.now) (g.I.Inputs.contents c.args.inputs.now)
    (sink_at (g.E.Sink.content c.args.err.now) (g.E.Sink.outlet c.args.err.now)))
    (held_by (g.H.Host.world c.args.host.now) (g.R.Readings.answers c.prepare.new.readings) (g.I.Inputs.contents c.prepare.new.inputs)
    (sink_at (g.E.Sink.content c.args.err.now) (g.E.Sink.outlet c.args.err.now)))
    c.in-Ok.submission (rw c.path_of.ensures at c.in-Ok.ensures.prepares)

pub store_and_say-requires-clause-header : goal.store_and_say-requires-clause-header
store_and_say-requires-clause-header g c =
    prepared_header (tells_of g.H.Host.tells g.H.Host.alone g.R.Readings.tells g.I.Inputs.tells g.E.Sink.tells) c.args.queue c.args.mail
    c.args.file.now c.args.when.now c.args.caller.now
    (held_by (g.H.Host.world c.args.host.now) (g.R.Readings.answers c.args.readings.now) (g.I.Inputs.contents c.args.inputs.now)
    (sink_at (g.E.Sink.content c.args.err.now) (g.E.Sink.outlet c.args.err.now)))
    (held_by (g.H.Host.world c.args.host.now) (g.R.Readings.answers c.prepare.new.readings) (g.I.Inputs.contents c.prepare.new.inputs)
    (sink_at (g.E.Sink.content c.args.err.now) (g.E.Sink.outlet c.args.err.now)))
    c.in-Ok.submission (rw c.path_of.ensures at c.in-Ok.ensures.prepares)

pub returns-in-Ok-clause-input_fault : goal.returns-in-Ok-clause-input_fault
returns-in-Ok-clause-input_fault g c = λ same. absurd (c.store_and_say.ensures.no_input_fault same)

pub returns-in-Ok-clause-submits : goal.returns-in-Ok-clause-submits
returns-in-Ok-clause-submits g c =
    submission_answered (tells_of g.H.Host.tells g.H.Host.alone g.R.Readings.tells g.I.Inputs.tells g.E.Sink.tells) c.args.queue c.args.mail
    c.args.file.now c.args.when.now c.args.caller.now
    (held_by (g.H.Host.world c.args.host.now) (g.R.Readings.answers c.args.readings.now) (g.I.Inputs.contents c.args.inputs.now)
    (sink_at (g.E.Sink.content c.args.err.now) (g.E.Sink.outlet c.args.err.now)))
    (held_by (g.H.Host.world c.store_and_say.new.host) (g.R.Readings.answers c.prepare.new.readings)
    (g.I.Inputs.contents c.prepare.new.inputs)
    (sink_at (g.E.Sink.content c.store_and_say.new.err) (g.E.Sink.outlet c.store_and_say.new.err)))
    c.in-Ok.submission (rw c.path_of.ensures at c.in-Ok.ensures.prepares) c.store_and_say.result c.store_and_say.ensures.answers
