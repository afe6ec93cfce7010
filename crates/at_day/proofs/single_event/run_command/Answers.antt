use Rattle.std.proofs.Common.{◌≡◌, ◌∙◌, true, [], ◌∷◌, ℕ, ℤ, List, FitsSigned, map, string_bytes, refl, rules, sym, ap, subst, w64}
use Rattle.std.proofs.lemmas.Int.{to_z-of_z}
use Rattle.std.specs.Prelude.{None}
use Rattle.memory_host.specs.Readings.{readings_spelling}
use Rattle.at_words.specs.Requests.{request_of}
use Rattle.at_words.specs.Tools.{tool_of_words}
use Rattle.at_commands.specs.Served.{IsNotServed}
use Rattle.at_day.specs.EventsDays.{is_day_tool}
use Rattle.host_calls.specs.Clock.{Readers}
use Rattle.host_calls.specs.Inputs.{Sources}
use Rattle.memory_host.specs.MemorySink.{content_so_far}
use Rattle.at_day.proofs.SpellingLemmas.{ends_alone, given_as, given_of}
use Rattle.at_day.proofs.single_event.run_command.Goals as goal

pub returns-clause-given : goal.returns-clause-given
returns-clause-given c =
    let texts : List (List ℕ) = map string_bytes c.as_slice-words.result.now in
    let bytes : List ℕ = c.as_slice-bytes.result.now in
    let unserved : IsNotServed (request_of texts) =
    ends_alone texts
    (subst (λ (of : List (List ℕ)). is_day_tool (tool_of_words of) ≡ true) (sym c.as_slice-words.ensures) c.requires.tool) in
    let fits : FitsSigned w64 c.args.now = search rules in
    let e = c.command.ensures in
    given_as c.args.words.now texts c.args.caller.now c.args.input.now bytes c.args.now c.command.result
    (content_so_far c.command.new.out) (content_so_far c.command.new.err) c.args.host.now c.command.new.host
    c.as_slice-words.ensures c.as_slice-bytes.ensures
    (given_of texts c.args.caller.now bytes c.args.now c.args.host.now c.command.new.host
    c.in_ok-readings.readings c.command.new.readings c.in_ok-inputs.inputs c.command.new.inputs
    c.args.out.now c.command.new.out c.args.err.now c.command.new.err c.command.result
    (record {
      answers = c.in_ok-readings.ensures.answers;
      clock = ap (λ (of : Readers). of.made_as) c.in_ok-readings.ensures.readers
          ∙ ap (λ (at : ℤ). readings_spelling (at ∷ []) (None ∷ [])) (to_z-of_z w64 c.args.now fits);
      contents = c.in_ok-inputs.ensures.contents;
      sources = ap (λ (of : Sources). of.made_as) c.in_ok-inputs.ensures.sources;
      printed = c.requires.out;
      printed_on = c.requires.out_made;
      said = c.requires.err;
      said_on = c.requires.err_made;
    })
    (record {
      readers = (e.ends unserved).readers;
      contents = e.made.contents;
      sources = e.made.inputs.made_as;
      printed_on = e.made.out;
      said_on = e.made.err;
    })
    (record {
      code = e.code;
      left = (e.ends unserved).left;
      quiet = (e.ends unserved).quiet refl;
      file_fault = e.faults.file_fault;
      busy = e.faults.busy;
      input_fault = e.faults.input_fault;
      output_fault = e.faults.output_fault;
      not_running = (e.ends unserved).not_running;
      ends = (e.ends unserved).ends;
    }))
