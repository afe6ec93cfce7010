-- Answers, as they are recorded (own).
use Rattle.std.specs.Prelude.{ℕ, [], List, Option, Some, None, Result, Ok, Err, unwrap_or}
use Rattle.std.specs.declared.alloc.AllocError.{AllocError}
use Rattle.system_calls.specs.declared.call.ReadOutcome.{ReadOutcome}
use Rattle.system_calls.specs.declared.call.ReadOutcome.TheVariants as outcome
use Rattle.system_calls.specs.declared.call.VariableOutcome.{VariableOutcome}
use Rattle.system_calls.specs.declared.call.VariableOutcome.TheVariants as variable
use Rattle.system_calls.specs.declared.file_read.FileRead.{FileRead}
use Rattle.system_calls.specs.declared.file_read.FileRead.TheVariants.{Absent, Unreadable, TooLong, Whole}

-- the result of a reading, without the bytes
abbrev pub outcome_of_read : FileRead → ReadOutcome
outcome_of_read Absent = outcome.Absent
outcome_of_read Unreadable = outcome.Unreadable
outcome_of_read TooLong = outcome.TooLong
outcome_of_read (Whole bytes) = outcome.Whole

-- the bytes of a reading
abbrev pub bytes_of_read : FileRead → List ℕ
bytes_of_read (Whole bytes) = bytes
bytes_of_read _ = []

-- the bytes of a text or a line that may be absent
abbrev pub bytes_of_option : Option (List ℕ) → List ℕ
bytes_of_option bytes = unwrap_or bytes []

-- the result of reading a variable, without its value
abbrev pub outcome_of_variable : Result (Option (List ℕ)) AllocError → VariableOutcome
outcome_of_variable (Ok (Some value)) = variable.Set
outcome_of_variable (Ok None) = variable.Absent
outcome_of_variable (Err error) = variable.OutOfMemory

-- the value of a variable
abbrev pub bytes_of_variable : Result (Option (List ℕ)) AllocError → List ℕ
bytes_of_variable (Ok value) = bytes_of_option value
bytes_of_variable (Err error) = []
