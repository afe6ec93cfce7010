-- What is answered for the time of a submission (own): the minute that it means, or the refusal of a time that means none.
use Rattle.std.specs.Prelude.{◌≡◌, ◌⊎◌, ℕ, Result, Ok, Err}
use Rattle.civil_minute.specs.declared.fault.DateFault.{DateFault}
use Rattle.civil_minute.specs.declared.fault.DateFault.TheVariants as date
use Rattle.listing_text.specs.declared.cause.Cause.{Cause}
use Rattle.listing_text.specs.declared.cause.Cause.TheVariants.{Refused, Memory}
use Rattle.listing_text.specs.declared.refusal.Refusal.{Refusal}
use Rattle.listing_text.specs.declared.refusal.Refusal.TheVariants.{NoSuchDay, OutOfRange, Past}
use Rattle.tool_output.specs.declared.command_error.CommandError.{CommandError}
use Rattle.tool_output.specs.Causes.{error_of}
use Rattle.command_rules.specs.Checks.{check_of, of_date, of_spelling}
use Rattle.command_rules.specs.Times.{IsOnly}

-- the one time is this refusal, which comes of its spelling or of its date
pub record IsRefusedTime (IsTime : Result ℕ Refusal → Type 0) (refusal : Refusal) : Type 0 where
  pub time : IsOnly IsTime (Err refusal)
  pub comes : (check_of refusal ≡ of_spelling) ⊎ (check_of refusal ≡ of_date)

-- and it may be for lack of memory that there is no minute
abbrev pub MeansNone : (Result ℕ Refusal → Type 0) → Cause → Type 0
MeansNone IsTime (Refused refusal) = IsRefusedTime IsTime refusal
MeansNone IsTime Memory = Unit {0}
MeansNone IsTime _ = ⊥

-- the answer is the one time
abbrev pub MeansTime : (Result ℕ Refusal → Type 0) → Result ℕ CommandError → Type 0
MeansTime IsTime (Ok minute) = IsOnly IsTime (Ok minute)
MeansTime IsTime (Err stopped) = MeansNone IsTime stopped.cause

-- a date's answer, as that of a command
abbrev pub IsDatedAs : Result ℕ DateFault → Result ℕ CommandError → Type 0
IsDatedAs (Ok minute) answer = answer ≡ Ok minute
IsDatedAs (Err date.NoSuchDay) answer = answer ≡ Err (error_of (Refused NoSuchDay))
IsDatedAs (Err date.OutOfRange) answer = answer ≡ Err (error_of (Refused OutOfRange))
IsDatedAs (Err date.Past) answer = answer ≡ Err (error_of (Refused Past))
IsDatedAs (Err date.Memory) answer = answer ≡ Err (error_of Memory)
