-- What a command does to the spool, as a move of its steps.
use Rattle.std.proofs.Common.{◌≡◌, ◌≢◌, ◌⊎◌, ◌++◌, ◌&&◌, [], ◌∷◌, ℕ, ℤ, Bool, true, false, List, sym, ap, subst, refl, inl, inr}
use Rattle.std.specs.Prelude.{Some, Ok, Err}
use Rattle.at_words.specs.declared.tool_request.ToolRequest.TheVariants as request
use Rattle.at_words.specs.Requests.{request_of}
use Rattle.civil_minute.specs.declared.zone.Zone.{Zone}
use Rattle.tool_output.specs.declared.caller.Caller.{Caller}
use Rattle.command_rules.specs.Checks.{Check, is_earlier_check, of_words, of_user, of_directory, of_variables, of_clock, of_zone, of_spelling, of_date, of_input, of_length, of_lock, of_lists, of_access, of_spool, of_room, of_number, of_jobs, of_steps, of_output}
use Rattle.command_rules.specs.Ends.{Reaches}
use Rattle.command_rules.specs.Found.{Asked, Finds, Found, is_submission}
use Rattle.command_rules.specs.Requested.{AreAskedSteps, OrNone, forget_steps, removes, steps_asked}
use Rattle.command_rules.specs.Spool.{SpoolEnds}
use Rattle.command_rules.proofs.SpoolLemmas.{refusal_left, unbegun_same}
use Rattle.headline.specs.Effects.{TakesEffect, IsEffectOf, Effect, Untouched, Partial, Whole}
use Rattle.host_calls.specs.Inputs.{Contents}
use Rattle.host_calls.specs.World.{World}
use Rattle.step_runs.specs.Attempts.{Attempts, IsBegun}
use Rattle.listing_text.specs.Cause.{is_done_cause}
use Rattle.listing_text.specs.declared.cause.Cause.{Cause}
use Rattle.listing_text.specs.declared.cause.Cause.TheVariants.{Done, Refused, FileFault, InputFault, OutputFault, Busy, Memory, Damaged}
use Rattle.memory_host.specs.Inputs.{given_contents}
use Rattle.spool_model.specs.declared.step.Step.{Step}
use Rattle.spool_model.specs.JobTable.{JobTable}
use Rattle.spool_model.specs.Lists.{surplus}
use Rattle.spool_model.specs.Steps.{FollowDraws, after_steps}
use Rattle.at_day.specs.EventOutcomes.{AreCommandSteps, AreCommandStepsBy}
use Rattle.at_day.specs.GivenCommand.{HasReadClock}

-- each Accept among the steps of a request comes after its Draw

follow_forgets : (numbers : List ℕ) → FollowDraws false (forget_steps numbers)
follow_forgets [] = tt
follow_forgets (number ∷ later) = follow_forgets later

follow_removes : (numbers : List ℕ) (after : List Step) → FollowDraws false after → FollowDraws false (removes numbers ++ after)
follow_removes [] after follow = follow
follow_removes (number ∷ later) after follow = follow_removes later after follow

follow_asked : (asked : Asked) (caller : Caller) (found : Found) (table : JobTable)
    → FollowDraws false (steps_asked asked caller found table)
follow_asked (Ok (request.Submit queue mail file when)) caller found table = (refl, tt)
follow_asked (Ok (request.List filter)) caller found table = tt
follow_asked (Ok (request.Remove numbers)) caller found table = follow_removes numbers
    (forget_steps (surplus (after_steps table (removes numbers)))) (follow_forgets (surplus (after_steps table (removes numbers))))
follow_asked (Ok (request.Show numbers)) caller found table = tt
follow_asked (Ok (request.Daemon limit interval once turns)) caller found table = tt
follow_asked (Ok (request.Make count)) caller found table = tt
follow_asked (Err fault) caller found table = tt

pub follow_are : (asked : Asked) (caller : Caller) (found : Found) (table : JobTable) (steps : List Step) →
    AreAskedSteps asked caller found table steps → FollowDraws false steps
follow_are asked caller found table steps are = subst (FollowDraws false) (sym are.steps_are) (follow_asked asked caller found table)

follow_none : (steps : List Step) → steps ≡ [] → FollowDraws false steps
follow_none steps none = subst (FollowDraws false) (sym none) tt

-- what comes after the check of the directory has passed those before the lock

pub record IsLate (reached : Check) : Type 0 where
  pub clock : is_earlier_check of_variables reached ≡ true
  pub zone : is_earlier_check of_zone reached ≡ true
  pub input : is_earlier_check of_input reached ≡ true

no_bool : true ≡ false → ⊥
no_bool is = cc

late_after : (reached : Check) → is_earlier_check reached of_spool ≡ false → IsLate reached
late_after of_words is = absurd (no_bool is)
late_after of_user is = absurd (no_bool is)
late_after of_directory is = absurd (no_bool is)
late_after of_variables is = absurd (no_bool is)
late_after of_clock is = absurd (no_bool is)
late_after of_zone is = absurd (no_bool is)
late_after of_spelling is = absurd (no_bool is)
late_after of_date is = absurd (no_bool is)
late_after of_input is = absurd (no_bool is)
late_after of_length is = absurd (no_bool is)
late_after of_lock is = absurd (no_bool is)
late_after of_lists is = absurd (no_bool is)
late_after of_access is = absurd (no_bool is)
late_after of_spool is = record { clock = refl; zone = refl; input = refl }
late_after of_room is = record { clock = refl; zone = refl; input = refl }
late_after of_number is = record { clock = refl; zone = refl; input = refl }
late_after of_jobs is = record { clock = refl; zone = refl; input = refl }
late_after of_steps is = record { clock = refl; zone = refl; input = refl }
late_after of_output is = record { clock = refl; zone = refl; input = refl }

late_finds : (asked : Asked) (zone : Zone) (contents : Contents) (reached : Check) (found : Found) → IsLate reached →
    Finds true asked zone contents reached found → Finds true asked zone contents of_output found
late_finds (Ok (request.Submit queue mail file when)) zone contents reached found is finds =
    record { time = λ _. finds.time is.zone; commands = λ known _. finds.commands known is.input }
late_finds (Ok (request.List filter)) zone contents reached found is finds = tt
late_finds (Ok (request.Remove numbers)) zone contents reached found is finds = tt
late_finds (Ok (request.Show numbers)) zone contents reached found is finds = tt
late_finds (Ok (request.Daemon limit interval once turns)) zone contents reached found is finds = tt
late_finds (Ok (request.Make count)) zone contents reached found is finds = tt
late_finds (Err fault) zone contents reached found is finds = tt

either : (fact : Bool) → (fact ≡ true) ⊎ (fact ≡ false)
either true = inl refl
either false = inr refl

both : (one other : Bool) → one ≡ true → other ≡ true → (one && other) ≡ true
both one other first second = subst (λ (of : Bool). (of && other) ≡ true) (sym first) second

-- a move of the command, by whether it is done
abbrev pub EffectsBy : Bool → List (List ℕ) → Caller → List ℕ → ℤ → World → World → Type 0
EffectsBy acknowledged words caller input now old new =
    (effect : Effect) × IsEffectOf acknowledged (AreCommandStepsBy acknowledged words caller input now) effect × TakesEffect effect old new

module _ (words : List (List ℕ)) (caller : Caller) (input : List ℕ) (now : ℤ) (old new : World) (found : Found) (reached : Check)
    (finds : Finds true (request_of words) caller.zone (given_contents input (Some input)) reached found)
    (clock : HasReadClock (request_of words) reached → found.now ≡ now)
    (apart : is_earlier_check reached of_spool ≡ true → new ≡ old) where
  -- the steps are those of the command at its second with its input
  strict : (table : JobTable) (steps : List Step) → is_earlier_check reached of_spool ≡ false →
      AreAskedSteps (request_of words) caller found table steps → AreCommandSteps words caller input now table steps
  strict table steps is are =
      let late : IsLate reached = late_after reached is in
      record {
        found = found;
        finds = late_finds (request_of words) caller.zone (given_contents input (Some input)) reached found late finds;
        clock = λ submits. clock (both (is_submission (request_of words)) (is_earlier_check of_variables reached) submits late.clock);
        are = are;
      }

  unbegun_effect : (acknowledged : Bool) → acknowledged ≡ false → new ≡ old → EffectsBy acknowledged words caller input now old new
  unbegun_effect acknowledged is same = (Untouched, is, unbegun_same old new same)

  begun_effect : (table : JobTable) (steps : List Step) → is_earlier_check reached of_spool ≡ false →
      OrNone (AreAskedSteps (request_of words) caller found) table steps → IsBegun table steps old new →
      EffectsBy false words caller input now old new
  begun_effect table steps is (inl are) begun =
      (Partial table steps, (refl, inl (strict table steps is are)), (follow_are (request_of words) caller found table steps are, begun))
  begun_effect table steps is (inr none) begun = (Partial table steps, (refl, inr none), (follow_none steps none, begun))

  attempt_effect : Attempts (OrNone (AreAskedSteps (request_of words) caller found)) old new
      → EffectsBy false words caller input now old new
  attempt_effect attempts = elim (either (is_earlier_check reached of_spool)) [
    | inl early ↦ unbegun_effect false refl (apart early)
    | inr is ↦ elim attempts [
      | inl unbegun ↦ (Untouched, refl, unbegun)
      | inr begun ↦ begun_effect begun.0 begun.1 is begun.2 begun.3
    ]
  ]

  pub effect_by : (cause : Cause) → Reaches cause reached → cause ≢ OutputFault →
      SpoolEnds (AreAskedSteps (request_of words) caller found) old new cause →
      EffectsBy (is_done_cause cause) words caller input now old new
  effect_by Done reaches no_fault ends =
      let is : is_earlier_check reached of_spool ≡ false = ap (λ (check : Check). is_earlier_check check of_spool) reaches in
      (Whole ends.0 ends.1, strict ends.0 ends.1 is ends.2, (follow_are (request_of words) caller found ends.0 ends.1 ends.2, ends.3))
  effect_by OutputFault reaches no_fault ends = absurd (no_fault refl)
  effect_by FileFault reaches no_fault ends = attempt_effect ends
  effect_by Memory reaches no_fault ends = attempt_effect ends
  effect_by (Damaged damage) reaches no_fault ends = (Untouched, refl, ends.unbegun)
  effect_by (Refused refusal) reaches no_fault ends = elim (refusal_left refusal old new ends) [
    | inl achieved ↦ (Whole achieved.0 achieved.1, inr achieved.2, (follow_none achieved.1 achieved.2, achieved.3))
    | inr same ↦ unbegun_effect false refl same
  ]
  effect_by InputFault reaches no_fault ends = unbegun_effect false refl ends
  effect_by Busy reaches no_fault ends = unbegun_effect false refl ends
  effect_by _ reaches no_fault ends = absurd ends
