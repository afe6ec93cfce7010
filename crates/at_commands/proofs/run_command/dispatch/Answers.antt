use Rattle.std.proofs.Common.{ap, refl}
use Rattle.tool_output.specs.Outside.{holding, telling}
use Rattle.tool_output.specs.Sinks.{sink_at}
use Rattle.host_calls.specs.Clock.{Readers}
use Rattle.at_commands.proofs.CommandLemmas.{ends_not_running, make_ends, read_never}
use Rattle.at_commands.proofs.SessionLemmas.{quiet_none}
use Rattle.at_commands.proofs.run_command.dispatch.Goals as goal

pub submit_job-requires-clause-queue : goal.submit_job-requires-clause-queue
submit_job-requires-clause-queue g c = rw c.in-Submit.is at c.requires.letter

pub returns-in-Submit-clause-faults : goal.returns-in-Submit-clause-faults
returns-in-Submit-clause-faults g c = rw c.in-Submit.is (record {
  file_fault = c.submit_job.ensures.faults.file_fault;
  busy = c.submit_job.ensures.faults.busy;
  input_fault = c.submit_job.ensures.input_fault;
  output_fault = c.submit_job.ensures.output_fault;
})

pub returns-in-Submit-clause-ends : goal.returns-in-Submit-clause-ends
returns-in-Submit-clause-ends g c =
    let ends = c.submit_job.ensures.submits g.O.Sink.tells (sink_at (g.O.Sink.content c.args.out.now) (g.O.Sink.outlet c.args.out.now)) in
    rw c.in-Submit.is (record {
      left = c.submit_job.ensures.quiet.left;
      quiet = c.submit_job.ensures.quiet.goes_on;
      ends = ends;
      not_running = ends_not_running _ _ _ _ _ _ _ ends;
      readers = c.submit_job.ensures.readers;
      unasked = λ fault is. (cc);
      before_lock = c.submit_job.ensures.faults.before_lock;
    })

pub returns-in-Submit-clause-made : goal.returns-in-Submit-clause-made
returns-in-Submit-clause-made g c = rw c.in-Submit.is (record {
  readers = ap (λ (of : Readers). of.made_as) c.submit_job.ensures.readers;
  contents = c.submit_job.ensures.contents;
  inputs = c.submit_job.ensures.input_read;
  out = refl;
  err = c.submit_job.ensures.errors_made;
  unread = λ other. (cc);
})

pub returns-in-List-clause-faults : goal.returns-in-List-clause-faults
returns-in-List-clause-faults g c = rw c.in-List.is (record {
  file_fault = c.list_jobs.ensures.faults.file_fault;
  busy = c.list_jobs.ensures.faults.busy;
  input_fault = λ same. absurd (c.list_jobs.ensures.no_input_fault same);
  output_fault = c.list_jobs.ensures.output_fault;
})

pub returns-in-List-clause-ends : goal.returns-in-List-clause-ends
returns-in-List-clause-ends g c =
    let ends = c.list_jobs.ensures.ends g.R.Readings.tells g.I.Inputs.tells g.E.Sink.tells (g.R.Readings.answers c.args.readings.now)
    (g.I.Inputs.contents c.args.inputs.now)
    (sink_at (g.E.Sink.content c.args.err.now) (g.E.Sink.outlet c.args.err.now)) in
    rw c.in-List.is (record {
      left = c.list_jobs.ensures.quiet.left;
      quiet = c.list_jobs.ensures.quiet.goes_on;
      ends = ends;
      not_running = ends_not_running _ _ _ _ _ _ _ ends;
      readers = refl;
      unasked = λ fault is. (cc);
      before_lock = c.list_jobs.ensures.faults.before_lock;
    })

pub returns-in-List-clause-made : goal.returns-in-List-clause-made
returns-in-List-clause-made g c =
    record { readers = refl; contents = refl; inputs = read_never _; out = c.list_jobs.ensures.made_as; err = refl; unread = λ other. refl }

pub returns-in-Remove-clause-faults : goal.returns-in-Remove-clause-faults
returns-in-Remove-clause-faults g c = rw c.in-Remove.is (record {
  file_fault = c.remove.ensures.faults.file_fault;
  busy = c.remove.ensures.faults.busy;
  input_fault = λ same. absurd (c.remove.ensures.no_input_fault same);
  output_fault = λ same. absurd (c.remove.ensures.no_output same);
})

pub returns-in-Remove-clause-ends : goal.returns-in-Remove-clause-ends
returns-in-Remove-clause-ends g c =
    let ends = c.remove.ensures.ends g.O.Sink.tells (sink_at (g.O.Sink.content c.args.out.now) (g.O.Sink.outlet c.args.out.now))
    g.R.Readings.tells g.I.Inputs.tells g.E.Sink.tells (g.R.Readings.answers c.args.readings.now) (g.I.Inputs.contents c.args.inputs.now)
    (sink_at (g.E.Sink.content c.args.err.now) (g.E.Sink.outlet c.args.err.now)) in
    rw c.in-Remove.is (record {
      left = c.remove.ensures.quiet.left;
      quiet = c.remove.ensures.quiet.goes_on;
      ends = ends;
      not_running = ends_not_running _ _ _ _ _ _ _ ends;
      readers = refl;
      unasked = λ fault is. (cc);
      before_lock = c.remove.ensures.faults.before_lock;
    })

pub returns-in-Remove-clause-made : goal.returns-in-Remove-clause-made
returns-in-Remove-clause-made g c =
    record { readers = refl; contents = refl; inputs = read_never _; out = refl; err = refl; unread = λ other. refl }

pub returns-in-Show-clause-faults : goal.returns-in-Show-clause-faults
returns-in-Show-clause-faults g c = rw c.in-Show.is (record {
  file_fault = c.show.ensures.faults.file_fault;
  busy = c.show.ensures.faults.busy;
  input_fault = λ same. absurd (c.show.ensures.no_input_fault same);
  output_fault = c.show.ensures.output_fault;
})

pub returns-in-Show-clause-ends : goal.returns-in-Show-clause-ends
returns-in-Show-clause-ends g c =
    let ends = c.show.ensures.ends g.R.Readings.tells g.I.Inputs.tells g.E.Sink.tells (g.R.Readings.answers c.args.readings.now)
    (g.I.Inputs.contents c.args.inputs.now)
    (sink_at (g.E.Sink.content c.args.err.now) (g.E.Sink.outlet c.args.err.now)) in
    rw c.in-Show.is (record {
      left = c.show.ensures.quiet.left;
      quiet = c.show.ensures.quiet.goes_on;
      ends = ends;
      not_running = ends_not_running _ _ _ _ _ _ _ ends;
      readers = refl;
      unasked = λ fault is. (cc);
      before_lock = c.show.ensures.faults.before_lock;
    })

pub returns-in-Show-clause-made : goal.returns-in-Show-clause-made
returns-in-Show-clause-made g c =
    record { readers = refl; contents = refl; inputs = read_never _; out = c.show.ensures.made_as; err = refl; unread = λ other. refl }

pub unreachable-requires : goal.unreachable-requires
unreachable-requires g c = rw c.in-Daemon.is at c.requires.tool

pub returns-in-Make-clause-faults : goal.returns-in-Make-clause-faults
returns-in-Make-clause-faults g c =
    record { file_fault = λ same. (cc); busy = λ same. (cc); input_fault = λ same. (cc); output_fault = λ same. (cc) }

pub returns-in-Make-clause-ends : goal.returns-in-Make-clause-ends
returns-in-Make-clause-ends g c =
    let quiet = quiet_none g.H.Host c.args.host.now c.requires.outside in
    rw c.in-Make.is (record {
      left = quiet.left;
      quiet = quiet.goes_on;
      ends = make_ends _ c.args.caller.now
          (telling g.H.Host.tells g.H.Host.alone g.R.Readings.tells g.I.Inputs.tells g.O.Sink.tells g.E.Sink.tells)
          (holding (g.H.Host.world c.args.host.now) (g.R.Readings.answers c.args.readings.now) (g.I.Inputs.contents c.args.inputs.now)
          (sink_at (g.O.Sink.content c.args.out.now) (g.O.Sink.outlet c.args.out.now))
          (sink_at (g.E.Sink.content c.args.err.now) (g.E.Sink.outlet c.args.err.now)));
      not_running = λ same. (cc);
      readers = refl;
      unasked = λ fault is. (cc);
      before_lock = λ stops. refl;
    })

pub returns-in-Make-clause-made : goal.returns-in-Make-clause-made
returns-in-Make-clause-made g c =
    record { readers = refl; contents = refl; inputs = read_never _; out = refl; err = refl; unread = λ other. refl }
