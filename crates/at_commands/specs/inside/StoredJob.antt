-- The job of a submission, stored within a session (own).
use Rattle.std.specs.Prelude.{◌≡◌, ℕ, ℤ, Bool, true, List, Option, Result, IfOk}
use Rattle.at_words.specs.declared.tool_request.ToolRequest.{ToolRequest}
use Rattle.at_words.specs.declared.tool_request.ToolRequest.TheVariants as request
use Rattle.at_words.specs.declared.when.When.{When}
use Rattle.host_calls.specs.World.{World}
use Rattle.job_script.specs.JobText.{text_for}
use Rattle.listing_text.specs.declared.cause.Cause.{Cause}
use Rattle.listing_text.specs.declared.refusal.Refusal.{Refusal}
use Rattle.spool_model.specs.Users.{IsUserName}
use Rattle.tool_output.specs.declared.caller.Caller.{Caller}
use Rattle.tool_output.specs.declared.command_error.CommandError.{CommandError}
use Rattle.tool_output.specs.Causes.{cause_in}
use Rattle.command_rules.specs.Found.{found_of}
use Rattle.at_commands.specs.inside.SessionOutcome.{Carries, Finding, IsSessionLine}
use Rattle.command_rules.specs.Requested.{next_number}
use Rattle.tool_output.specs.Sinks.{NotesBy, SinkAt}
use Rattle.command_rules.specs.Times.{minute_in}

-- the script does these commands as the caller would, whose name a job can have
pub record IsJobOf (caller : Caller) (mail : Bool) (commands script : List ℕ) : Type 0 where
  pub user : IsUserName caller.context.user
  pub text : script ≡ text_for caller.context mail commands

-- The job was to be stored in a session. Where it was, this is the number that it drew.
pub record Stores (tells alone : Bool) (asked : ToolRequest) (caller : Caller) (finding : Finding) (old new : World)
    (result : Result ℕ CommandError) : Type 0 where
  pub carries : Carries tells alone asked caller finding old new (cause_in result)
  pub number : IfOk result (λ number. number ≡ next_number carries.shown)

-- and so for each submission of which it is the job
abbrev pub StoresJob : Bool → Bool → Caller → ℕ → ℕ → List ℕ → World → World → Result ℕ CommandError → Type 0
StoresJob tells alone caller queue minute script old new result =
    (mail : Bool) (file : Option (List ℕ)) (when : When) (now : ℤ) (time : Result ℕ Refusal) (commands : List ℕ) →
    IsJobOf caller mail commands script → minute ≡ minute_in time →
    Stores tells alone (request.Submit queue mail file when) caller (found_of now time commands) old new result

-- The job was stored, and that was said, or not.
pub record StoresAndSays (tells alone errors : Bool) (asked : ToolRequest) (caller : Caller) (finding : Finding)
    (old new : World) (was is : SinkAt) (cause : Cause) : Type 0 where
  pub carries : Carries tells alone asked caller finding old new cause
  pub notes : errors ≡ true → NotesBy cause (IsSessionLine asked caller (finding carries.allow carries.deny) carries.shown) was is

-- and so for each submission of which it is the job
abbrev pub AnswersJob : Bool → Bool → Bool → Caller → ℕ → ℕ → List ℕ → World → World → SinkAt → SinkAt → Cause → Type 0
AnswersJob tells alone errors caller queue minute script old new was is cause =
    (mail : Bool) (file : Option (List ℕ)) (when : When) (now : ℤ) (time : Result ℕ Refusal) (commands : List ℕ) →
    IsJobOf caller mail commands script → minute ≡ minute_in time →
    StoresAndSays tells alone errors (request.Submit queue mail file when) caller (found_of now time commands) old new was is cause
