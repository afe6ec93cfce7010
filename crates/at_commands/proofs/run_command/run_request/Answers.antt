use Rattle.std.specs.Prelude.{Ok}
use Rattle.std.proofs.Common.{◌∙◌, refl}
use Rattle.tool_output.specs.Outside.{holding, telling}
use Rattle.tool_output.specs.Sinks.{sink_at}
use Rattle.at_commands.proofs.CommandLemmas.{cause_had, ends_not_running, fails_later, memory_busy, memory_file_fault, memory_input_fault, memory_output_fault, stops_had}
use Rattle.at_commands.proofs.EndsLemmas.{ends_said}
use Rattle.at_commands.proofs.run_command.run_request.Goals as goal

pub returns-clause-code : goal.returns-clause-code
returns-clause-code g c = rw c.of.ensures refl

pub returns-clause-faults : goal.returns-clause-faults
returns-clause-faults g c =
    let faults = c.dispatch-cause.ensures.faults in
    let had = cause_had c.say_cause.result c.dispatch-cause.result in
    rw c.of.ensures (record {
      file_fault = λ same. faults.file_fault (had _ c.say_cause.ensures.same_or_memory memory_file_fault same);
      busy = λ same. faults.busy (had _ c.say_cause.ensures.same_or_memory memory_busy same);
      input_fault = λ same. faults.input_fault (had _ c.say_cause.ensures.same_or_memory memory_input_fault same);
      output_fault = λ same.
          fails_later (Ok c.args.asked) (g.O.Sink.outlet c.args.out.now) (g.O.Sink.outlet c.dispatch-cause.new.out)
          (g.E.Sink.outlet c.args.err.now)
          (g.E.Sink.outlet c.dispatch-cause.new.err) (g.E.Sink.outlet c.say_cause.new.err) c.say_cause.ensures.later
          (faults.output_fault (had _ c.say_cause.ensures.same_or_memory memory_output_fault same));
    })

pub returns-clause-ends : goal.returns-clause-ends
returns-clause-ends g c =
    let ended = c.dispatch-cause.ensures.ends in
    let ends = ends_said _ _ c.args.caller.now
    (telling g.H.Host.tells g.H.Host.alone g.R.Readings.tells g.I.Inputs.tells g.O.Sink.tells g.E.Sink.tells)
    (holding (g.H.Host.world c.args.host.now) (g.R.Readings.answers c.args.readings.now) (g.I.Inputs.contents c.args.inputs.now)
    (sink_at (g.O.Sink.content c.args.out.now) (g.O.Sink.outlet c.args.out.now))
    (sink_at (g.E.Sink.content c.args.err.now) (g.E.Sink.outlet c.args.err.now)))
    (holding (g.H.Host.world c.dispatch-cause.new.host) (g.R.Readings.answers c.dispatch-cause.new.readings)
    (g.I.Inputs.contents c.dispatch-cause.new.inputs)
    (sink_at (g.O.Sink.content c.dispatch-cause.new.out) (g.O.Sink.outlet c.dispatch-cause.new.out))
    (sink_at (g.E.Sink.content c.say_cause.new.err) (g.E.Sink.outlet c.say_cause.new.err)))
    (sink_at (g.E.Sink.content c.dispatch-cause.new.err) (g.E.Sink.outlet c.dispatch-cause.new.err))
    c.dispatch-cause.result ended.ends c.say_cause.result c.say_cause.ensures.said in
    rw c.of.ensures (record {
      left = ended.left;
      quiet = ended.quiet;
      ends = ends;
      not_running = ends_not_running _ _ _ _ _ _ _ ends;
      readers = ended.readers;
      unasked = λ fault is. (cc);
      before_lock =
          λ stops. ended.before_lock (stops_had c.say_cause.result c.dispatch-cause.result c.say_cause.ensures.same_or_memory stops);
    })

pub returns-clause-made : goal.returns-clause-made
returns-clause-made g c =
    let made = c.dispatch-cause.ensures.made in
    record {
      readers = made.readers;
      contents = made.contents;
      inputs = made.inputs;
      out = made.out;
      err = c.say_cause.ensures.made_as ∙ made.err;
      unread = made.unread;
    }
