-- The answer of a submission, stopped before the spool or prepared.
use Rattle.std.proofs.Common.{◌≡◌, Bool, true, false, ℕ, ℤ, List, [], ◌∷◌, sym, ap, subst, ◌∙◌, refl, inl, inr, arith, nat_lt}
use Rattle.std.specs.Prelude.{Option, None, Result, Ok, Err, IsSome, if◌then◌else◌}
use Rattle.std.proofs.lemmas.Bool.Decides.{nat_tests}
use Rattle.at_words.specs.declared.tool_request.ToolRequest.{ToolRequest}
use Rattle.at_words.specs.declared.tool_request.ToolRequest.TheVariants as request
use Rattle.at_words.specs.declared.when.When.{When}
use Rattle.civil_minute.specs.Zone.{IsReadable}
use Rattle.host_calls.specs.Clock.{with_now}
use Rattle.host_calls.specs.World.{World}
use Rattle.job_script.specs.HeaderIn.{header_in}
use Rattle.listing_text.specs.declared.cause.Cause.{Cause}
use Rattle.listing_text.specs.declared.cause.Cause.TheVariants.{Done, Refused, InputFault, OutputFault, Memory}
use Rattle.listing_text.specs.declared.refusal.Refusal.{Refusal}
use Rattle.spool_model.specs.Users.{IsUserName}
use Rattle.tool_output.specs.declared.caller.Caller.{Caller}
use Rattle.tool_output.specs.declared.command_error.CommandError.{CommandError}
use Rattle.command_rules.specs.Checks.{Check, is_earlier_check, of_input, of_lock, of_variables, of_zone, place_of_check}
use Rattle.tool_output.specs.Outside.{holding, telling}
use Rattle.command_rules.specs.Found.{FindsInput, Found, answers_read, found_of}
use Rattle.at_commands.specs.inside.SessionOutcome.{Finding, IsSessionLine}
use Rattle.command_rules.specs.Requested.{IsAcceptedLine}
use Rattle.tool_output.specs.Sinks.{IsSilent, SinkAt}
use Rattle.command_rules.specs.Times.{minute_in}
use Rattle.command_rules.specs.Verdict.{clock_check, directory_check, length_check, spool_verdict, time_check, user_check, variables_check, zone_check}
use Rattle.submission_checks.specs.declared.submission.Submission.{Submission}
use Rattle.submission_checks.specs.EarlyChecks.{IsOfPreparing, IsPrepared, IsStoppedEarly, Prepares}
use Rattle.at_commands.specs.inside.RequestOutcome.{Held, SubmissionEnds, SubmissionTelling}
use Rattle.at_commands.specs.inside.AcceptedLine.{Accepts}
use Rattle.at_commands.specs.inside.Session.{IsNoOutput}
use Rattle.at_commands.specs.inside.StoredJob.{AnswersJob, IsJobOf, Stores, StoresAndSays}
use Rattle.at_commands.proofs.CarryLemmas.{KeepsLists, carries_no_memory, carries_unsaid, done_allowed}
use Rattle.at_commands.proofs.EndsLemmas.{IsEarly, ends_carried, ends_early}
use Rattle.at_commands.proofs.UnreadLemmas.{unchecked}
use Rattle.at_commands.proofs.SubmitLemmas.{has_header}
use Rattle.command_rules.proofs.UserLemmas.{first_passed, user_passed, zone_passed}
use Rattle.at_commands.proofs.AnswerLemmas.{prints_nothing, spool_notes}

-- the job was stored, and then said, or not
module _ (tells alone errors : Bool) (caller : Caller) (queue minute : ℕ) (script : List ℕ) (mail : Bool)
    (file : Option (List ℕ)) (when : When) (now : ℤ)
    (time : Result ℕ Refusal) (commands : List ℕ) (same_minute : minute ≡ minute_in time) (old new : World) where
  abbrev asked : ToolRequest
  asked = request.Submit queue mail file when

  abbrev finding : Finding
  finding = found_of now time commands

  pub not_stored : (stopped : CommandError) (at : SinkAt) → IsNoOutput stopped
      → Stores tells alone asked caller finding old new (Err stopped) →
      StoresAndSays tells alone errors asked caller finding old new at at stopped.cause
  not_stored stopped at of_spool stores = record {
    carries = stores.carries;
    notes = λ known. spool_notes stopped.cause
        (IsSessionLine asked caller (finding stores.carries.allow stores.carries.deny) stores.carries.shown) at of_spool;
  }

  module _ (number : ℕ) (stores : Stores tells alone asked caller finding old new (Ok number)) where
    line_is : (line : List ℕ) → IsAcceptedLine number minute caller.zone line →
        IsSessionLine asked caller (finding stores.carries.allow stores.carries.deny) stores.carries.shown line
    line_is line is = (
      done_allowed (spool_verdict asked caller (finding stores.carries.allow stores.carries.deny) stores.carries.shown)
          stores.carries.order,
      subst (λ (of : ℕ). IsAcceptedLine of (minute_in time) caller.zone line) stores.number
          (subst (λ (of : ℕ). IsAcceptedLine number of caller.zone line) same_minute is),
    )

    pub stored_and_said : (cause : Cause) (was is : SinkAt) → Accepts errors (IsAcceptedLine number minute caller.zone) was is cause →
        StoresAndSays tells alone errors asked caller finding old new was is cause
    stored_and_said Done was is says = record {
      carries = stores.carries;
      notes = λ known. (let put = says known in (put.0, line_is put.0 put.1, put.2));
    }
    stored_and_said OutputFault was is says = record {
      carries = carries_unsaid tells alone asked caller finding old new stores.carries;
      notes = λ known. (let put = says known in inr (put.0, line_is put.0 put.1, put.2));
    }
    stored_and_said Memory was is says = record {
      carries = carries_no_memory tells alone asked caller finding old new stores.carries;
      notes = λ known. inl (says known);
    }
    stored_and_said _ was is says = absurd says

early_of : (cause : Cause) → IsOfPreparing cause → IsEarly cause
early_of (Refused refusal) is = tt
early_of InputFault is = tt
early_of Memory is = tt
early_of _ is = absurd is

-- what follows the lock follows the clock
late_place : (place : ℕ) → nat_lt place 11 ≡ false → nat_lt 4 place ≡ true
late_place place is = grind (arith, nat_tests)

finding_keeps : (now : ℤ) (time : Result ℕ Refusal) (commands : List ℕ) → KeepsLists (found_of now time commands)
finding_keeps now time commands = record { allow_is = λ allow deny. refl; deny_is = λ allow deny. refl }

module _ (tells : SubmissionTelling) (queue : ℕ) (mail : Bool) (file : Option (List ℕ)) (when : When) (caller : Caller)
    (before after : Held) where
  -- a check refuses before the spool is entered, the inputs failed, or there was no memory
  pub submission_stopped : (stopped : CommandError)
      → Prepares tells.clock tells.input caller mail file when before.answers after.answers before.contents (Err stopped) →
      after.spool ≡ before.spool → IsSilent before.sink after.sink
      → SubmissionEnds tells (request.Submit queue mail file when) caller before after stopped.cause
  submission_stopped stopped prepares same quiet = λ output printed.
      let ends : IsStoppedEarly caller (found_of prepares.now prepares.time prepares.commands None None) prepares.reached stopped.cause =
      prepares.ends in
      ends_early (request.Submit queue mail file when) caller (telling tells.files tells.alone tells.clock tells.input output tells.sink)
      (holding before.spool before.answers before.contents printed before.sink)
      (holding after.spool after.answers after.contents printed after.sink)
      (found_of prepares.now prepares.time prepares.commands) (finding_keeps prepares.now prepares.time prepares.commands)
      stopped.cause prepares.reached
      (λ allow deny. ends.order) (early_of stopped.cause ends.comes) ends.reach ends.early (λ allow deny. ends.up_to)
      (λ allow deny. prepares.clock)
      (λ allow deny. record { time = prepares.finds.time; commands = prepares.finds.commands }) same (unchecked printed) quiet

  module _ (submission : Submission)
      (prepares : Prepares tells.clock tells.input caller mail file when before.answers after.answers before.contents (Ok submission)) where
    abbrev here : Found
    here = found_of prepares.now prepares.time prepares.commands None None

    prepared : IsPrepared caller mail here prepares.reached submission
    prepared = prepares.ends

    -- its user and its zone are good
    pub prepared_named : IsUserName caller.context.user
    prepared_named = user_passed caller.context (first_passed _ _ prepared.none).0

    pub prepared_zoned : IsReadable caller.zone
    prepared_zoned =
        let prefix =
        first_passed (user_check caller.context) (directory_check caller.context ∷ variables_check caller.context ∷ clock_check here
        ∷ zone_check caller.zone ∷ time_check here ∷ length_check here ∷ []) prepared.none in
        let second = first_passed (directory_check caller.context) (variables_check caller.context ∷ clock_check here
        ∷ zone_check caller.zone ∷ time_check here ∷ length_check here ∷ []) prefix.1 in
        let third = first_passed (variables_check caller.context) (clock_check here
        ∷ zone_check caller.zone ∷ time_check here ∷ length_check here ∷ []) second.1 in
        let fourth = first_passed (clock_check here) (zone_check caller.zone ∷ time_check here ∷ length_check here ∷ []) third.1 in
        zone_passed caller.zone (first_passed (zone_check caller.zone) (time_check here ∷ length_check here ∷ []) fourth.1).0

    pub prepared_job : IsJobOf caller mail prepares.commands submission.script
    prepared_job = record { user = prepared_named; text = prepared.script_is }

    pub prepared_header : IsSome (header_in submission.script)
    prepared_header = has_header caller mail prepares.commands submission.script prepared_job

    -- the clock was read, the time found and the commands read
    clock_at : (reached : Check) → is_earlier_check reached of_lock ≡ false → tells.clock ≡ true →
        after.answers ≡ answers_read (Ok (request.Submit queue mail file when)) reached prepares.now before.answers
    clock_at reached entered known =
        let beyond : is_earlier_check of_variables prepares.reached ≡ true =
        ap (λ (of : Check). is_earlier_check of_variables of) prepared.all in
        prepares.clock known
        ∙ ap (λ (read : Bool). if read then with_now prepares.now before.answers else before.answers) (beyond
        ∙ sym (late_place (place_of_check reached) entered))

    finds_at : (reached : Check) (allow deny : Option (List ℕ)) →
        FindsInput tells.input file when caller.zone before.contents reached
        (found_of prepares.now prepares.time prepares.commands allow deny)
    finds_at reached allow deny = record {
      time = λ beyond. prepares.finds.time (ap (λ (of : Check). is_earlier_check of_zone of) prepared.all);
      commands = λ known beyond. prepares.finds.commands known (ap (λ (of : Check). is_earlier_check of_input of) prepared.all);
    }

    -- its session
    pub submission_answered : (cause : Cause) →
        AnswersJob tells.files tells.alone tells.sink caller queue submission.minute submission.script before.spool after.spool
        before.sink after.sink cause →
        SubmissionEnds tells (request.Submit queue mail file when) caller before after cause
    submission_answered cause answers_job = λ output printed.
        let answered : StoresAndSays tells.files tells.alone tells.sink (request.Submit queue mail file when) caller
        (found_of prepares.now prepares.time prepares.commands) before.spool after.spool before.sink after.sink cause =
        answers_job mail file when prepares.now prepares.time prepares.commands prepared_job prepared.minute_is in
        ends_carried (request.Submit queue mail file when) caller
        (telling tells.files tells.alone tells.clock tells.input output tells.sink)
        (holding before.spool before.answers before.contents printed before.sink)
        (holding after.spool after.answers after.contents printed after.sink)
        (found_of prepares.now prepares.time prepares.commands) cause answered.carries prepared.none
        (clock_at answered.carries.reached answered.carries.entered)
        (finds_at answered.carries.reached answered.carries.allow answered.carries.deny)
        (λ known is_alone tells_output. prints_nothing tells.files tells.alone (request.Submit queue mail file when) caller
        (found_of prepares.now prepares.time prepares.commands) before.spool after.spool cause answered.carries
        (λ table. refl) printed known is_alone)
        (λ known is_alone is same. (cc))
        answered.notes
