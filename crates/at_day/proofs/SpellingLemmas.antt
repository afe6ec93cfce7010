-- What the objects of a command were made as, and what follows of how it ended.
use Rattle.std.proofs.Common.{◌≡◌, ◌≢◌, [], ◌∷◌, ℕ, ℤ, Bool, true, false, List, sym, ap, subst, ◌∙◌, refl, arith, lit<, if◌then◌else◌}
use Rattle.std.specs.Prelude.{Option, Some, None, Ok, Err}
use Rattle.at_commands.specs.Tools.{tool_name_of}
use Rattle.at_words.specs.declared.tool.Tool.{Tool}
use Rattle.at_words.specs.declared.tool.Tool.TheVariants.{At, Batch, Atq, Atrm, Atd, Atday}
use Rattle.at_words.specs.declared.tool_request.ToolRequest.TheVariants as request
use Rattle.at_words.specs.Requests.{request_of}
use Rattle.at_words.specs.Tools.{tool_of_words}
use Rattle.at_commands.specs.Served.{IsNotServed}
use Rattle.at_commands.proofs.ServedLemmas.{not_served}
use Rattle.at_day.specs.EventsDays.{is_day_tool}
use Rattle.tool_output.specs.declared.caller.Caller.{Caller}
use Rattle.command_rules.specs.Checks.{Check}
use Rattle.command_rules.specs.Ends.{CommandEnds, FailsToPrint}
use Rattle.tool_output.specs.Outside.{Holding, holding}
use Rattle.command_rules.specs.Found.{Asked, answers_read}
use Rattle.tool_output.specs.Sinks.{SaysBy, SinkAt, sink_at}
use Rattle.host_calls.specs.Causes.{Rose}
use Rattle.host_calls.specs.Clock.{Answers, Readers, with_now}
use Rattle.host_calls.specs.Inputs.{Contents}
use Rattle.host_calls.specs.Session.{IsLeft}
use Rattle.host_calls.specs.Sink.{Outlet}
use Rattle.host_calls.specs.World.{TimePasses, World}
use Rattle.listing_text.specs.Cause.{status_of}
use Rattle.listing_text.specs.declared.cause.Cause.{Cause}
use Rattle.listing_text.specs.declared.cause.Cause.TheVariants.{Busy, FileFault, InputFault, OutputFault, StillRunning}
use Rattle.listing_text.specs.declared.status.Status.{Status}
use Rattle.memory_host.specs.declared.inputs.MemoryInputs.{MemoryInputs}
use Rattle.memory_host.specs.declared.memory_host.MemoryHost.{MemoryHost}
use Rattle.memory_host.specs.declared.readings.ListReadings.{ListReadings}
use Rattle.memory_host.specs.declared.sink.MemorySink.{MemorySink}
use Rattle.memory_host.specs.Host.{memory_session, memory_world}
use Rattle.memory_host.specs.Inputs.{given_contents, inputs_spelling}
use Rattle.memory_host.specs.ListReadings.{answers_so_far, readers_so_far}
use Rattle.memory_host.specs.MemoryInputs.{contents_given, sources_so_far}
use Rattle.memory_host.specs.MemorySink.{content_so_far, outlet_so_far}
use Rattle.memory_host.specs.Readings.{AreAnswersOf, no_answers, readings_spelling}
use Rattle.memory_host.specs.Sink.{sink_spelling}
use Rattle.memory_host.proofs.InputsLemmas.{inputs_keep}
use Rattle.memory_host.proofs.ReadingsLemmas.{readings_keep}
use Rattle.memory_host.proofs.SinkLemmas.{sink_keeps}
use Rattle.at_day.specs.GivenCommand.{HasReadClock, IsGiven, all_known, at_first, at_last, unfailing}

-- the words of a tool of a day request no daemon
alone_by : (words : List (List ℕ)) (found : Option (Tool × ℕ)) → tool_of_words words ≡ found → is_day_tool found ≡ true →
    IsNotServed (request_of words)
alone_by words None found is = cc
alone_by words (Some (At, start)) found is = not_served words At start found tt
alone_by words (Some (Batch, start)) found is = not_served words Batch start found tt
alone_by words (Some (Atq, start)) found is = not_served words Atq start found tt
alone_by words (Some (Atrm, start)) found is = not_served words Atrm start found tt
alone_by words (Some (Atd, start)) found is = cc
alone_by words (Some (Atday, start)) found is = cc

pub ends_alone : (words : List (List ℕ)) → is_day_tool (tool_of_words words) ≡ true → IsNotServed (request_of words)
ends_alone words is = alone_by words (tool_of_words words) refl is

-- a count that is at 0 has not risen
no_rise : (before now : ℕ) → before ≡ 0 → now ≡ 0 → Rose before now → ⊥
no_rise before now first last rose =
    let rises : Rose 0 0 = subst (λ (count : ℕ). Rose 0 count) last (subst (λ (count : ℕ). Rose count now) first rose) in omega arith

-- where no sink has failed, no output has
no_print_fault : (asked : Asked) (out_old out_new err_old err_new : Outlet) → out_old.sink_faults ≡ 0 → out_new.sink_faults ≡ 0 →
    err_old.sink_faults ≡ 0 → err_new.sink_faults ≡ 0 → FailsToPrint asked out_old out_new err_old err_new → ⊥
no_print_fault (Ok (request.Submit queue mail file when)) out_old out_new err_old err_new a b c d fails = no_rise _ _ c d fails
no_print_fault (Ok (request.List filter)) out_old out_new err_old err_new a b c d fails = no_rise _ _ a b fails
no_print_fault (Ok (request.Remove numbers)) out_old out_new err_old err_new a b c d fails = no_rise _ _ a b fails
no_print_fault (Ok (request.Show numbers)) out_old out_new err_old err_new a b c d fails = no_rise _ _ a b fails
no_print_fault (Ok (request.Daemon limit interval once turns)) out_old out_new err_old err_new a b c d fails = no_rise _ _ a b fails
no_print_fault (Ok (request.Make count)) out_old out_new err_old err_new a b c d fails = no_rise _ _ a b fails
no_print_fault (Err fault) out_old out_new err_old err_new a b c d fails = no_rise _ _ a b fails

-- what a sink holds that has never failed
is_unfailing : (content : List ℕ) (outlet : Outlet) (text : List ℕ) → content ≡ text → outlet.sink_faults ≡ 0
    → sink_at content outlet ≡ unfailing text
is_unfailing content outlet text is none =
    let with_faults : ℕ → SinkAt = λ faults. record { content = text; faults = faults } in
    ap (λ (of : List ℕ). sink_at of outlet) is ∙ ap with_faults none

holding_same : (spool : World) (answers others : Answers) (contents given : Contents) (output printed errors said : SinkAt) →
    answers ≡ others → contents ≡ given → output ≡ printed → errors ≡ said →
    holding spool answers contents output errors ≡ holding spool others given printed said
holding_same spool answers others contents given output printed errors said first second third fourth =
    ap (λ (of : Answers). holding spool of contents output errors) first
    ∙ (ap (λ (of : Contents). holding spool others of output errors) second
    ∙ (ap (λ (of : SinkAt). holding spool others given of errors) third
    ∙ ap (λ (of : SinkAt). holding spool others given printed of) fourth))

-- the clock that has one answer gives that
first_answer : (nows : List ℤ) (answer now : ℤ) → nows ≡ answer ∷ [] → AreAnswersOf (now ∷ []) nows → answer ≡ now
first_answer nows answer now is are =
    let one : AreAnswersOf (now ∷ []) (answer ∷ []) = subst (AreAnswersOf (now ∷ [])) is are in
    let same : ◌≡◌ {A = Option ℤ} (Some answer) (Some now) = one 0 (lit< tt) in cc

if_true : (fact : Bool) (one other : Answers) → fact ≡ true → (if fact then one else other) ≡ one
if_true fact one other is = subst (λ (of : Bool). (if of then one else other) ≡ one) (sym is) refl

clock_read : (answers : Answers) (asked : Asked) (reached : Check) (found now : ℤ) → answers ≡ answers_read asked reached found no_answers →
    AreAnswersOf (now ∷ []) answers.nows → HasReadClock asked reached → found ≡ now
clock_read answers asked reached found now is are read =
    let same : answers ≡ with_now found no_answers = is ∙ if_true _ (with_now found no_answers) no_answers read in
    let nows : answers.nows ≡ found ∷ [] = ap (λ (of : Answers). of.nows) same in
    first_answer answers.nows found now nows are

-- What the objects were made as when the command was given, and that they still are.
pub record AreMadeFor (input : List ℕ) (now : ℤ) (readings : ListReadings) (inputs : MemoryInputs) (out err : MemorySink) : Type 0 where
  pub answers : answers_so_far readings ≡ no_answers
  pub clock : (readers_so_far readings).made_as ≡ readings_spelling (now ∷ []) (None ∷ [])
  pub contents : contents_given inputs ≡ given_contents input (Some input)
  pub sources : (sources_so_far inputs).made_as ≡ inputs_spelling input (Some input) false
  pub printed : content_so_far out ≡ []
  pub printed_on : (outlet_so_far out).made_as ≡ sink_spelling None
  pub said : content_so_far err ≡ []
  pub said_on : (outlet_so_far err).made_as ≡ sink_spelling None

pub record StayMade (readings readings_new : ListReadings) (inputs inputs_new : MemoryInputs) (out out_new err err_new : MemorySink)
    : Type 0 where
  pub readers : readers_so_far readings_new ≡ readers_so_far readings
  pub contents : contents_given inputs_new ≡ contents_given inputs
  pub sources : (sources_so_far inputs_new).made_as ≡ (sources_so_far inputs).made_as
  pub printed_on : (outlet_so_far out_new).made_as ≡ (outlet_so_far out).made_as
  pub said_on : (outlet_so_far err_new).made_as ≡ (outlet_so_far err).made_as

-- how the command ended, as its contract says
pub record HasEnded (words : List (List ℕ)) (caller : Caller) (old new : MemoryHost) (readings readings_new : ListReadings)
    (inputs inputs_new : MemoryInputs) (out out_new err err_new : MemorySink) (status : Status) : Type 0 where
  pub code : status ≡ status_of status.cause
  pub left : IsLeft (memory_session old) (memory_session new)
  pub quiet : TimePasses (memory_world old) (memory_world new)
  pub file_fault : status.cause ≡ FileFault → Rose (memory_session old).file_faults (memory_session new).file_faults
  pub busy : status.cause ≡ Busy → Rose (memory_session old).taken (memory_session new).taken
  pub input_fault : status.cause ≡ InputFault → Rose (sources_so_far inputs).input_faults (sources_so_far inputs_new).input_faults
  pub output_fault : status.cause ≡ OutputFault →
      FailsToPrint (request_of words) (outlet_so_far out) (outlet_so_far out_new) (outlet_so_far err) (outlet_so_far err_new)
  pub not_running : status.cause ≢ StillRunning
  pub ends : CommandEnds (SaysBy (tool_name_of words)) (request_of words) caller all_known
      (holding (memory_world old) (answers_so_far readings) (contents_given inputs)
      (sink_at (content_so_far out) (outlet_so_far out)) (sink_at (content_so_far err) (outlet_so_far err)))
      (holding (memory_world new) (answers_so_far readings_new) (contents_given inputs_new)
      (sink_at (content_so_far out_new) (outlet_so_far out_new)) (sink_at (content_so_far err_new) (outlet_so_far err_new))) status.cause

-- the ends of the command, over what it was handed and what it left
abbrev GivenEnds : List (List ℕ) → Caller → List ℕ → World → World → Answers → List ℕ → List ℕ → Cause → Type 0
GivenEnds words caller input old new answers out err cause =
    CommandEnds (SaysBy (tool_name_of words)) (request_of words) caller all_known (at_first old input)
    (at_last new answers input out err) cause

module _ (words : List (List ℕ)) (caller : Caller) (input : List ℕ) (now : ℤ) (old new : MemoryHost) (readings readings_new : ListReadings)
    (inputs inputs_new : MemoryInputs) (out out_new err err_new : MemorySink) (status : Status)
    (made : AreMadeFor input now readings inputs out err)
    (stay : StayMade readings readings_new inputs inputs_new out out_new err err_new)
    (ended : HasEnded words caller old new readings readings_new inputs inputs_new out out_new err err_new status) where
  out_whole : (outlet_so_far out).sink_faults ≡ 0
  out_whole = sink_keeps out made.printed_on

  out_new_whole : (outlet_so_far out_new).sink_faults ≡ 0
  out_new_whole = sink_keeps out_new (stay.printed_on ∙ made.printed_on)

  err_whole : (outlet_so_far err).sink_faults ≡ 0
  err_whole = sink_keeps err made.said_on

  err_new_whole : (outlet_so_far err_new).sink_faults ≡ 0
  err_new_whole = sink_keeps err_new (stay.said_on ∙ made.said_on)

  first_is : holding (memory_world old) (answers_so_far readings) (contents_given inputs)
      (sink_at (content_so_far out) (outlet_so_far out)) (sink_at (content_so_far err) (outlet_so_far err))
      ≡ at_first (memory_world old) input
  first_is = holding_same (memory_world old) _ _ _ _ _ _ _ _ made.answers made.contents
      (is_unfailing (content_so_far out) (outlet_so_far out) [] made.printed out_whole)
      (is_unfailing (content_so_far err) (outlet_so_far err) [] made.said err_whole)

  last_is : holding (memory_world new) (answers_so_far readings_new) (contents_given inputs_new)
      (sink_at (content_so_far out_new) (outlet_so_far out_new)) (sink_at (content_so_far err_new) (outlet_so_far err_new))
      ≡ at_last (memory_world new) (answers_so_far readings_new) input (content_so_far out_new) (content_so_far err_new)
  last_is = holding_same (memory_world new) (answers_so_far readings_new) (answers_so_far readings_new) _ _ _ _ _ _ refl
      (stay.contents ∙ made.contents)
      (is_unfailing (content_so_far out_new) (outlet_so_far out_new) (content_so_far out_new) refl out_new_whole)
      (is_unfailing (content_so_far err_new) (outlet_so_far err_new) (content_so_far err_new) refl err_new_whole)

  given_ends : GivenEnds words caller input (memory_world old) (memory_world new) (answers_so_far readings_new)
      (content_so_far out_new) (content_so_far err_new) status.cause
  given_ends =
      subst (λ (after : Holding). CommandEnds (SaysBy (tool_name_of words)) (request_of words) caller all_known
      (at_first (memory_world old) input) after status.cause) last_is
      (subst (λ (before : Holding). CommandEnds (SaysBy (tool_name_of words)) (request_of words) caller all_known before
      (holding (memory_world new) (answers_so_far readings_new) (contents_given inputs_new)
      (sink_at (content_so_far out_new) (outlet_so_far out_new)) (sink_at (content_so_far err_new) (outlet_so_far err_new))) status.cause)
      first_is ended.ends)

  are_answers : AreAnswersOf (now ∷ []) (answers_so_far readings_new).nows
  are_answers = (readings_keep readings_new (now ∷ []) (None ∷ [])
      (ap (λ (of : Readers). of.made_as) stay.readers ∙ made.clock)).0

  pub given_of : IsGiven words caller input now status (content_so_far out_new) (content_so_far err_new) old new
  given_of = record {
    code = ended.code;
    left = ended.left;
    quiet = ended.quiet;
    busy = ended.busy;
    file_fault = ended.file_fault;
    no_input_fault = λ is. no_rise (sources_so_far inputs).input_faults (sources_so_far inputs_new).input_faults
        (inputs_keep inputs input input made.sources)
        (inputs_keep inputs_new input input (stay.sources ∙ made.sources)) (ended.input_fault is);
    no_output_fault = λ is. no_print_fault (request_of words) (outlet_so_far out) (outlet_so_far out_new) (outlet_so_far err)
        (outlet_so_far err_new) out_whole out_new_whole err_whole err_new_whole (ended.output_fault is);
    not_running = ended.not_running;
    answers = answers_so_far readings_new;
    ends = given_ends;
    clock = clock_read (answers_so_far readings_new) (request_of words) given_ends.reached given_ends.found.now now
        (given_ends.clock refl) are_answers;
  }

-- the same, of the words and the input that the objects were made from
pub given_as : (words texts : List (List ℕ)) (caller : Caller) (input bytes : List ℕ) (now : ℤ) (status : Status) (out err : List ℕ)
    (old new : MemoryHost) → texts ≡ words → bytes ≡ input → IsGiven texts caller bytes now status out err old new →
    IsGiven words caller input now status out err old new
given_as words texts caller input bytes now status out err old new words_are input_is given =
    subst (λ (of : List (List ℕ)). IsGiven of caller input now status out err old new) words_are
    (subst (λ (of : List ℕ). IsGiven texts caller of now status out err old new) input_is given)

-- the report of a command
pub given_report : (words : List (List ℕ)) (caller : Caller) (input : List ℕ) (stood now : ℤ) (status : Status)
    (out err printed said : List ℕ) (old new : MemoryHost) → stood ≡ now → printed ≡ out → said ≡ err →
    IsGiven words caller input stood status out err old new → IsGiven words caller input now status printed said old new
given_report words caller input stood now status out err printed said old new same first second given =
    subst (λ (at : ℤ). IsGiven words caller input at status printed said old new) same
    (subst (λ (of : List ℕ). IsGiven words caller input stood status of said old new) (sym first)
    (subst (λ (of : List ℕ). IsGiven words caller input stood status out of old new) (sym second) given))
