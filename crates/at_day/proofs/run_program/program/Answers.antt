use Rattle.std.proofs.Common.{◌≡◌, ◌∙◌, [], true, false, inl, map, refl, string_bytes, sym, append-nil, arith}
use Rattle.std.specs.Prelude.{Bool}
use Rattle.at_words.specs.Requests.{request_of}
use Rattle.host_calls.proofs.WorldLemmas.{goes_on_none}
use Rattle.tool_output.specs.Sinks.{sink_at}
use Rattle.listing_text.specs.declared.cause.Cause.TheVariants as cause
use Rattle.at_day.specs.Programs.{asks_for_day}
use Rattle.at_day.proofs.ProgramLemmas.{day_fails, no_such_cause}
use Rattle.at_day.proofs.RequestLemmas.{day_asked, no_day_served}
use Rattle.at_day.proofs.run_program.program.Goals as goal

-- a test has one answer
one_answer : (test : Bool) → test ≡ true → test ≡ false → ⊥
one_answer test is other = let both : true ≡ false = sym is ∙ other in cc

pub answer_day-requires : goal.answer_day-requires
answer_day-requires g c = sym c.asks_for_day.ensures ∙ c.if-asks_for_day.true

pub returns-then-asks_for_day-clause-session : goal.returns-then-asks_for_day-clause-session
returns-then-asks_for_day-clause-session g c = record {
  outside = c.requires.outside;
  kept = ([], sym (append-nil _));
  counts = record { made_as = refl; file_faults = omega arith; start_faults = omega arith; taken = omega arith };
}

pub returns-then-asks_for_day-clause-faults : goal.returns-then-asks_for_day-clause-faults
returns-then-asks_for_day-clause-faults g c =
    let never = no_such_cause g.O.Sink.tells (sink_at (g.O.Sink.content c.args.out.now) (g.O.Sink.outlet c.args.out.now))
    (sink_at (g.O.Sink.content c.answer_day.new.out) (g.O.Sink.outlet c.answer_day.new.out))
    (request_of (map string_bytes c.args.words.now)) c.answer_day.result.cause in
    record {
      file_fault = λ same. absurd (never cause.FileFault c.answer_day.ensures.day (λ none. none) same);
      busy = λ same. absurd (never cause.Busy c.answer_day.ensures.day (λ none. none) same);
      input_fault = λ same. absurd (never cause.InputFault c.answer_day.ensures.day (λ none. none) same);
      output_fault = day_fails g.O.Sink.tells (g.O.Sink.outlet c.args.out.now) (g.O.Sink.outlet c.answer_day.new.out)
          (g.E.Sink.outlet c.args.err.now) (g.E.Sink.outlet c.answer_day.new.err)
          (g.O.Sink.content c.args.out.now) (g.O.Sink.content c.answer_day.new.out)
          (request_of (map string_bytes c.args.words.now)) c.answer_day.result.cause c.answer_day.ensures.day;
    }

pub returns-then-asks_for_day-clause-ends : goal.returns-then-asks_for_day-clause-ends
returns-then-asks_for_day-clause-ends g c = λ unserved. record {
  left = record {
    outside = c.requires.outside;
    children = refl;
    counts = record { made_as = refl; file_faults = omega arith; start_faults = omega arith; taken = omega arith };
  };
  quiet = λ known. goes_on_none _ _ refl;
  not_running = no_such_cause g.O.Sink.tells
      (sink_at (g.O.Sink.content c.args.out.now) (g.O.Sink.outlet c.args.out.now))
      (sink_at (g.O.Sink.content c.answer_day.new.out) (g.O.Sink.outlet c.answer_day.new.out))
      (request_of (map string_bytes c.args.words.now)) c.answer_day.result.cause cause.StillRunning c.answer_day.ensures.day (λ none. none);
  ends = λ other.
      absurd (one_answer (asks_for_day (map string_bytes c.args.words.now)) (sym c.asks_for_day.ensures ∙ c.if-asks_for_day.true) other);
  readers = refl;
  unasked = λ fault is. refl;
  before_lock = λ stops. refl;
}

pub returns-then-asks_for_day-clause-serves : goal.returns-then-asks_for_day-clause-serves
returns-then-asks_for_day-clause-serves g c = no_day_served (request_of (map string_bytes c.args.words.now)) _
    (day_asked (map string_bytes c.args.words.now) (sym c.asks_for_day.ensures ∙ c.if-asks_for_day.true))

pub returns-then-asks_for_day-clause-day : goal.returns-then-asks_for_day-clause-day
returns-then-asks_for_day-clause-day g c = λ is. record {
  host_alone = refl;
  readings_alone = refl;
  inputs_alone = refl;
  day = c.answer_day.ensures.day;
  says = c.answer_day.ensures.says;
}

pub returns-then-asks_for_day-clause-made : goal.returns-then-asks_for_day-clause-made
returns-then-asks_for_day-clause-made g c = record {
  readers = refl;
  contents = refl;
  inputs = record { made_as = refl; reads = inl refl };
  out = c.answer_day.ensures.out_made;
  err = c.answer_day.ensures.errors_made;
  unread = λ other. refl;
}

pub returns-clause-day : goal.returns-clause-day
returns-clause-day g c =
    λ is. absurd (one_answer (asks_for_day (map string_bytes c.args.words.now)) is (sym c.asks_for_day.ensures ∙ c.if-asks_for_day.false))

pub returns-clause-ends : goal.returns-clause-ends
returns-clause-ends g c = λ unserved.
    let ends = c.command.ensures.ends unserved in
    record {
      left = ends.left;
      quiet = ends.quiet;
      not_running = ends.not_running;
      ends = λ other. ends.ends;
      readers = ends.readers;
      unasked = ends.unasked;
      before_lock = ends.before_lock;
    }
