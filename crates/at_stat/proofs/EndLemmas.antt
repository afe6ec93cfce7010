-- How the program ends, by its sessions and what is put after them.
use Rattle.std.proofs.Common.{◌≡◌, ◌∙◌, ℕ, Bool, true, false, List, ap, arith, inl, inr, refl, subst, sym}
use Rattle.std.specs.Prelude.{Option, Some, None, Result, Ok, Err}
use Rattle.at_words.specs.Answers.{Answers}
use Rattle.at_words.specs.declared.fault.WordsFault.{WordsFault}
use Rattle.at_words.specs.declared.fault.WordsFault.TheVariants as words
use Rattle.tool_output.specs.Causes.{words_cause}
use Rattle.tool_output.specs.declared.caller.Caller.{Caller}
use Rattle.tool_output.specs.declared.command_error.CommandError.{CommandError}
use Rattle.tool_output.specs.Outside.{OutsideAt}
use Rattle.tool_output.specs.Sinks.{IsSilent, SinkAt}
use Rattle.civil_minute.specs.Zone.{is_unreadable}
use Rattle.host_calls.specs.Causes.{Rose}
use Rattle.host_calls.specs.Session.{IsOutside}
use Rattle.host_calls.specs.Sink.{Outlet}
use Rattle.listing_text.specs.declared.cause.Cause.{Cause}
use Rattle.listing_text.specs.declared.cause.Cause.TheVariants.{Busy, Damaged, FileFault, Memory, OutputFault, Refused, StillRunning}
use Rattle.listing_text.specs.declared.refusal.Refusal.{Refusal}
use Rattle.listing_text.specs.declared.refusal.Refusal.TheVariants.{BadUser, BadZone}
use Rattle.spool_model.specs.Users.{IsUserName}
use Rattle.at_stat.specs.Checks.{early_check}
use Rattle.at_stat.specs.declared.request.StatRequest.{StatRequest}
use Rattle.at_stat.specs.declared.status.StatExit.{StatExit}
use Rattle.at_stat.specs.declared.session_loop.StatResult.{StatResult}
use Rattle.at_stat.specs.StatOutcome.{StatEnds, EndsBy, EndsChecked, HasCode, HasStatEnded, HasRisenStating, IsStatIdle, IsStatStopped, IsText, IsStatUnasked, SeesLast, stopped_status, wait_of, wait_tells}
use Rattle.at_stat.specs.WaitSessions.{HasStopped}
use Rattle.at_stat.specs.inside.StateLines.{IsWithoutText, PutsStatesBy, PutsStateLines}
use Rattle.at_stat.proofs.FrameLemmas.{Frame, no_frame, seen_frame, stopped_stop}
use Rattle.at_stat.proofs.LateLemmas.{IsOfSpool, stopped_of_spool}
use Rattle.command_rules.proofs.UserLemmas.{user_fails, user_passes, zone_fails, zone_passes}

-- nothing was put
same_silent : (at : SinkAt) → IsSilent at at
same_silent at = record { content = refl; later = omega arith }

-- a cause has its code
pub stopped_code : (cause : Cause) → HasCode (stopped_status cause)
stopped_code cause other same = let one : cause ≡ other = (let some : ◌≡◌ {A = Option Cause} (Some cause) (Some other) = same in cc) in
    ap (λ (of : Cause). (stopped_status of).code) one

-- requests are distinguished
same_request : (one other : StatRequest) → ◌≡◌ {A = Result StatRequest WordsFault} (Ok one) (Ok other) → one ≡ other
same_request one other same = cc

not_both : (request : StatRequest) (fault : WordsFault) → ◌≡◌ {A = Result StatRequest WordsFault} (Ok request) (Err fault) → ⊥
not_both request fault same = let no : ◌≡◌ {A = Result StatRequest WordsFault} (Ok request) (Err fault) = same in cc

module _ (request : StatRequest) (caller : Caller) (old new : OutsideAt) where
  -- what was requested was done or stopped
  ended_by : (status : StatExit) → Frame (wait_tells old) (wait_of old) (wait_of new) → new.out.made_as ≡ old.out.made_as
      → HasRisenStating old new status.cause → HasCode status
      → StatEnds request caller old new status → HasStatEnded (Ok request) caller old new status
  ended_by status frame made_as risen code ends = record {
    left = frame.left;
    goes_on = frame.goes_on;
    readers = frame.readers;
    made_as = made_as;
    risen = risen;
    code = code;
    unasked = λ fault same. absurd (not_both request fault same);
    ends = λ other same. subst (λ (one : StatRequest). StatEnds one caller old new status) (same_request request other same) ends;
  }

  -- the checks before the spool is entered pass
  passes : IsUserName caller.context.user → is_unreadable caller.zone ≡ false → early_check caller ≡ None
  passes named readable = rw (user_passes caller.context named, zone_passes caller.zone readable) refl

  checked : (status : StatExit) → early_check caller ≡ None → EndsBy request caller old new status.code status.cause
      → StatEnds request caller old new status
  checked status none ends = inl (subst (λ (check : Option Refusal). EndsChecked check request caller old new status) (sym none) ends)

  -- the sessions were stopped
  stops_by : (cause : Cause) (code : ℕ) → IsOfSpool cause → IsStatStopped request caller old new cause
      → EndsBy request caller old new code (Some cause)
  stops_by FileFault code of is = is
  stops_by Memory code of is = inr is
  stops_by Busy code of is = is
  stops_by (Refused refusal) code of is = is
  stops_by (Damaged damage) code of is = is
  stops_by _ code of is = absurd of

  no_output : (cause : Cause) → IsOfSpool cause → cause ≡ OutputFault → ⊥
  no_output cause of same = subst IsOfSpool same of

  some_cause : (one other : Cause) → ◌≡◌ {A = Option Cause} (Some one) (Some other) → one ≡ other
  some_cause one other same = cc

  pub ended_stopped : IsUserName caller.context.user → is_unreadable caller.zone ≡ false
      → new.holds.output ≡ old.holds.output → new.out ≡ old.out
      → (stopped : CommandError)
      → HasStopped (wait_tells old) caller.context.user request.wait request.which (wait_of old) (wait_of new) stopped
      → HasStatEnded (Ok request) caller old new (stopped_status stopped.cause)
  ended_stopped named readable printed out stopped is =
      let stop = stopped_stop (wait_tells old) caller.context.user request.which request.wait (wait_of old) (wait_of new) stopped is in
      let of : IsOfSpool stopped.cause =
      stopped_of_spool (wait_tells old) caller.context.user request.wait request.which (wait_of old) (wait_of new) stopped is in
      ended_by (stopped_status stopped.cause) stop.frame (ap (λ (outlet : Outlet). outlet.made_as) out)
      (record {
        file_fault = λ same. stop.file_fault (some_cause stopped.cause FileFault same);
        busy = λ same. stop.busy (some_cause stopped.cause Busy same);
        output_fault = λ same. absurd (no_output stopped.cause of (some_cause stopped.cause OutputFault same));
      })
      (stopped_code stopped.cause)
      (checked (stopped_status stopped.cause) (passes named readable)
      (stops_by stopped.cause (stopped_status stopped.cause).code of (record {
        stopped = is;
        unchecked = λ known. subst (IsSilent old.holds.output) (sym printed) (same_silent old.holds.output);
      })))

  -- the lines were put, or not
  module _ (sight : StatResult)
      (sees : SeesLast request caller (wait_tells old) (wait_of old) (wait_of new) sight.store sight.finished) where
    puts_by : (text : List ℕ) (code : ℕ) (cause : Option Cause) → IsText request caller.context.user caller.zone sight.store.table text
        → PutsStatesBy request sight text old.tells.output old.holds.output new.holds.output code cause
        → EndsBy request caller old new code cause
    puts_by text code None is put = record {
      kept = sight.store;
      text = text;
      sees =
          subst (λ (finished : Bool). SeesLast request caller (wait_tells old) (wait_of old) (wait_of new) sight.store finished) put.0 sees;
      is = is;
      put = put.2;
      code_is = λ same. put.1;
    }
    puts_by text code (Some StillRunning) is put = record {
      kept = sight.store;
      text = text;
      sees =
          subst (λ (finished : Bool). SeesLast request caller (wait_tells old) (wait_of old) (wait_of new) sight.store finished) put.0 sees;
      is = is;
      put = put.1;
      code_is = λ same. absurd (let no : false ≡ true = same in cc);
    }
    puts_by text code (Some OutputFault) is put =
        record { kept = sight.store; finished = sight.finished; text = text; sees = sees; is = is; cut = put }
    puts_by text code (Some Memory) is put = inl (record { kept = sight.store; finished = sight.finished; sees = sees; unchecked = put })
    puts_by text code (Some _) is put = absurd put

    -- no fault of the spool comes of it
    no_spool : (text : List ℕ) (code : ℕ) (cause : Option Cause)
        → PutsStatesBy request sight text old.tells.output old.holds.output new.holds.output code cause
        → (cause ≡ Some FileFault → ⊥) × (cause ≡ Some Busy → ⊥)
    no_spool text code cause put = (
      λ same. subst (PutsStatesBy request sight text old.tells.output old.holds.output new.holds.output code) same put,
      λ same. subst (PutsStatesBy request sight text old.tells.output old.holds.output new.holds.output code) same put,
    )

    pub ended_shown : IsUserName caller.context.user → is_unreadable caller.zone ≡ false → (status : StatExit)
        → new.out.made_as ≡ old.out.made_as
        → (status.cause ≡ Some OutputFault → Rose old.out.sink_faults new.out.sink_faults) → HasCode status
        → PutsStateLines request caller.context.user caller.zone sight old.tells.output old.holds.output new.holds.output status
        → HasStatEnded (Ok request) caller old new status
    ended_shown named readable status made_as rose code lines =
        let none = no_spool lines.0 status.code status.cause lines.2 in
        ended_by status (seen_frame (wait_tells old) caller.context.user request.which request.wait (wait_of old) (wait_of new) sight.store
        sight.finished sees) made_as
        (record { file_fault = λ same. absurd (none.0 same); busy = λ same. absurd (none.1 same); output_fault = rose })
        code (checked status (passes named readable) (puts_by lines.0 status.code status.cause lines.1 lines.2))

    pub ended_without : IsUserName caller.context.user → is_unreadable caller.zone ≡ false → (status : StatExit)
        → new.out.made_as ≡ old.out.made_as
        → (status.cause ≡ Some OutputFault → Rose old.out.sink_faults new.out.sink_faults) → HasCode status
        → IsWithoutText old.tells.output old.holds.output new.holds.output status → HasStatEnded (Ok request) caller old new status
    ended_without named readable status made_as rose code without =
        let cause_is : status.cause ≡ Some Memory = ap (λ (one : StatExit). one.cause) without.status_is in
        ended_by status (seen_frame (wait_tells old) caller.context.user request.which request.wait (wait_of old) (wait_of new) sight.store
        sight.finished sees) made_as
        (record {
          file_fault = λ same. absurd (let no : ◌≡◌ {A = Option Cause} (Some Memory) (Some FileFault) = sym cause_is ∙ same in cc);
          busy = λ same. absurd (let no : ◌≡◌ {A = Option Cause} (Some Memory) (Some Busy) = sym cause_is ∙ same in cc);
          output_fault = rose;
        })
        code (checked status (passes named readable)
        (subst (EndsBy request caller old new status.code) (sym cause_is)
        (inl (record { kept = sight.store; finished = sight.finished; sees = sees; unchecked = without.unchecked }))))

-- nothing was done
module _ (asked : Result StatRequest WordsFault) (caller : Caller) (at : OutsideAt) (outside : IsOutside at.session) where
  idle : (cause : Cause) → IsStatIdle cause at at (stopped_status cause)
  idle cause = record { status_is = refl; wait = refl; unchecked = λ known. same_silent at.holds.output }

  -- no such cause
  abbrev IsEarly : Cause → Type 0
  IsEarly (Refused refusal) = Unit {0}
  IsEarly Memory = Unit {0}
  IsEarly _ = ⊥

  early_risen : (cause : Cause) → IsEarly cause → HasRisenStating at at (Some cause)
  early_risen (Refused refusal) is = record {
    file_fault = λ same. absurd (let no : ◌≡◌ {A = Option Cause} (Some (Refused refusal)) (Some FileFault) = same in cc);
    busy = λ same. absurd (let no : ◌≡◌ {A = Option Cause} (Some (Refused refusal)) (Some Busy) = same in cc);
    output_fault = λ same. absurd (let no : ◌≡◌ {A = Option Cause} (Some (Refused refusal)) (Some OutputFault) = same in cc);
  }
  early_risen Memory is = record {
    file_fault = λ same. absurd (let no : ◌≡◌ {A = Option Cause} (Some Memory) (Some FileFault) = same in cc);
    busy = λ same. absurd (let no : ◌≡◌ {A = Option Cause} (Some Memory) (Some Busy) = same in cc);
    output_fault = λ same. absurd (let no : ◌≡◌ {A = Option Cause} (Some Memory) (Some OutputFault) = same in cc);
  }
  early_risen _ is = absurd is

  -- the checks before the spool is entered refuse it
  pub ended_early : (request : StatRequest) → asked ≡ Ok request → (refusal : Refusal) → early_check caller ≡ Some refusal
      → HasStatEnded asked caller at at (stopped_status (Refused refusal))
  ended_early request is refusal check =
      subst (λ (one : Result StatRequest WordsFault). HasStatEnded one caller at at (stopped_status (Refused refusal))) (sym is)
      (ended_by request caller at at (stopped_status (Refused refusal)) (no_frame (wait_tells at) (wait_of at) outside) refl
      (early_risen (Refused refusal) tt)
      (stopped_code (Refused refusal))
      (inl (subst (λ (one : Option Refusal). EndsChecked one request caller at at (stopped_status (Refused refusal))) (sym check)
      (idle (Refused refusal)))))

  -- faults of words are distinguished
  same_fault : (one other : WordsFault) → Err one ≡ asked → asked ≡ Err other → one ≡ other
  same_fault one other first second = let same : ◌≡◌ {A = Result StatRequest WordsFault} (Err one) (Err other) = first ∙ second in cc

  no_request : (fault : WordsFault) (request : StatRequest) → Err fault ≡ asked → asked ≡ Ok request → ⊥
  no_request fault request first second = not_both request fault (sym second ∙ sym first)

  ended_idle : (cause : Cause) → IsEarly cause
      → ((fault : WordsFault) → asked ≡ Err fault → IsStatUnasked fault at at (stopped_status cause))
      → ((request : StatRequest) → asked ≡ Ok request → StatEnds request caller at at (stopped_status cause))
      → HasStatEnded asked caller at at (stopped_status cause)
  ended_idle cause early unasked ends =
      let frame : Frame (wait_tells at) (wait_of at) (wait_of at) = no_frame (wait_tells at) (wait_of at) outside in
      record {
        left = frame.left;
        goes_on = frame.goes_on;
        readers = frame.readers;
        made_as = refl;
        risen = early_risen cause early;
        code = stopped_code cause;
        unasked = unasked;
        ends = ends;
      }

  refused : (fault : WordsFault) → Err fault ≡ asked → IsEarly (words_cause fault)
      → HasStatEnded asked caller at at (stopped_status (words_cause fault))
  refused fault is early = ended_idle (words_cause fault) early
      (λ other was. inl (subst (λ (one : WordsFault). IsStatIdle (words_cause one) at at (stopped_status (words_cause fault)))
      (same_fault fault other is was) (idle (words_cause fault))))
      (λ request was. absurd (no_request fault request is was))

  -- the words request nothing, or were not read
  pub ended_unasked : (fault : WordsFault) → Answers asked (Err fault)
      → HasStatEnded asked caller at at (stopped_status (words_cause fault))
  ended_unasked words.Usage is = refused words.Usage is tt
  ended_unasked words.BadQueue is = refused words.BadQueue is tt
  ended_unasked words.Memory is = ended_idle Memory tt (λ fault was. inr (idle Memory)) (λ request was. inr (idle Memory))

-- the user's name can't are in a job
pub unnamed_check : (caller : Caller) → (IsUserName caller.context.user → ⊥) → early_check caller ≡ Some BadUser
unnamed_check caller none = rw (user_fails caller.context none) refl

-- the zone could not be read
pub unzoned_check : (caller : Caller) → IsUserName caller.context.user → is_unreadable caller.zone ≡ true
    → early_check caller ≡ Some BadZone
unzoned_check caller named unreadable = rw (user_passes caller.context named, zone_fails caller.zone unreadable) refl
