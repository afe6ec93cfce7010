-- The checks of a submission before the spool is entered: what they found, and how they ended.
use Rattle.std.specs.Prelude.{◌≡◌, ℕ, ℤ, Bool, true, List, Option, None, Result, Ok, Err, if◌then◌else◌}
use Rattle.at_words.specs.declared.when.When.{When}
use Rattle.host_calls.specs.Clock.{Answers, with_now}
use Rattle.host_calls.specs.Inputs.{Contents}
use Rattle.job_script.specs.JobText.{text_for}
use Rattle.listing_text.specs.declared.cause.Cause.{Cause}
use Rattle.listing_text.specs.declared.cause.Cause.TheVariants.{Refused, InputFault, Memory}
use Rattle.listing_text.specs.declared.refusal.Refusal.{Refusal}
use Rattle.tool_output.specs.declared.caller.Caller.{Caller}
use Rattle.tool_output.specs.declared.command_error.CommandError.{CommandError}
use Rattle.command_rules.specs.Checks.{Check, ComesUpTo, is_earlier_check, of_variables, of_lock}
use Rattle.command_rules.specs.Ends.{KeepsOrder, Reaches}
use Rattle.command_rules.specs.Found.{FindsInput, Found, found_of}
use Rattle.command_rules.specs.Times.{minute_in}
use Rattle.command_rules.specs.Verdict.{first_refusal, submission_checks}
use Rattle.submission_checks.specs.declared.submission.Submission.{Submission}

-- the outside was not touched but for the clock and the commands
abbrev pub IsOfPreparing : Cause → Type 0
IsOfPreparing (Refused refusal) = Unit {0}
IsOfPreparing InputFault = Unit {0}
IsOfPreparing Memory = Unit {0}
IsOfPreparing _ = ⊥

-- no check refuses, and the submission is that of the minute that the time means and of the commands that were read
pub record IsPrepared (caller : Caller) (mail : Bool) (found : Found) (reached : Check) (submission : Submission) : Type 0 where
  pub none : first_refusal (submission_checks caller found) ≡ None
  pub all : reached ≡ of_lock
  pub minute_is : submission.minute ≡ minute_in found.time
  pub script_is : submission.script ≡ text_for caller.context mail found.commands

-- a check refuses, the inputs failed, or there was no memory
pub record IsStoppedEarly (caller : Caller) (found : Found) (reached : Check) (cause : Cause) : Type 0 where
  pub order : KeepsOrder (first_refusal (submission_checks caller found)) cause
  pub up_to : ComesUpTo (first_refusal (submission_checks caller found)) reached
  pub reach : Reaches cause reached
  pub early : is_earlier_check reached of_lock ≡ true
  pub comes : IsOfPreparing cause

-- how the checks end
abbrev pub PreparingEnds : Caller → Bool → Found → Check → Result Submission CommandError → Type 0
PreparingEnds caller mail found reached (Ok submission) = IsPrepared caller mail found reached submission
PreparingEnds caller mail found reached (Err stopped) = IsStoppedEarly caller found reached stopped.cause

-- The checks of a submission, over what the clock answered and the inputs hold, where those are recorded.
pub record Prepares (readings_tell inputs_tell : Bool) (caller : Caller) (mail : Bool) (file : Option (List ℕ)) (when : When)
    (before after : Answers) (contents : Contents) (result : Result Submission CommandError) : Type 0 where
  pub now : ℤ
  pub time : Result ℕ Refusal
  pub commands : List ℕ
  pub reached : Check
  pub clock : readings_tell ≡ true → after ≡ (if is_earlier_check of_variables reached then with_now now before else before)
  pub finds : FindsInput inputs_tell file when caller.zone contents reached (found_of now time commands None None)
  pub ends : PreparingEnds caller mail (found_of now time commands None None) reached result
