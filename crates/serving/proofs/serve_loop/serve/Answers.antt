use Rattle.std.proofs.Common.{◌∙◌}
use Rattle.tool_output.specs.Sinks.{sink_at}
use Rattle.listing_text.specs.declared.cause.Cause.TheVariants as cause
use Rattle.serving.proofs.OutcomeLemmas.{ended_caused, risen_by}
use Rattle.serving.proofs.ProceedLemmas.{serving_of}
use Rattle.serving.proofs.serve_loop.serve.Goals as goal

pub returns-clause-session : goal.returns-clause-session
returns-clause-session g c = record {
  outside = c.make_turns-outcome.ensures.outside;
  kept = c.make_turns-outcome.ensures.kept;
  counts = c.make_turns-outcome.ensures.counts;
}

pub returns-clause-faults : goal.returns-clause-faults
returns-clause-faults g c = rw c.of.ensures (
    let risen = risen_by c.say_serve_outcome.result _ _ (sink_at (g.O.Sink.content c.args.out.now) (g.O.Sink.outlet c.args.out.now))
    (sink_at (g.O.Sink.content c.make_turns-outcome.new.out) (g.O.Sink.outlet c.make_turns-outcome.new.out))
    (ended_caused _ _ _ _ _ _ _ _ _ _ c.make_turns-outcome.result c.say_serve_outcome.result c.make_turns-outcome.ensures.ends
    c.say_serve_outcome.ensures.says) in
    record { file_fault = risen.0; busy = risen.1; input_fault = λ is. absurd (risen.3 is); output_fault = risen.2 })

pub returns-clause-serving : goal.returns-clause-serving
returns-clause-serving g c = rw c.of.ensures (serving_of _ _ _ _ _ _ _ _ _ _ c.make_turns-outcome.result c.say_serve_outcome.result
    c.make_turns-outcome.ensures.ends c.say_serve_outcome.ensures.says)

pub returns-clause-made : goal.returns-clause-made
returns-clause-made g c = record {
  readers = c.make_turns-outcome.ensures.readers_made;
  out = c.make_turns-outcome.ensures.out_made;
  err = c.say_serve_outcome.ensures.made_as ∙ c.make_turns-outcome.ensures.errors_made;
}
