-- The calls, as they are recorded (own).
use Rattle.std.specs.Prelude.{◌≡◌, ◌++◌, [], ◌∷◌, ℕ, List, Option, Bool, Result, is_some}
use Rattle.std.specs.declared.alloc.AllocError.{AllocError}
use Rattle.system_calls.specs.SystemCall.{SystemCall}
use Rattle.system_calls.specs.Answers.{bytes_of_option, bytes_of_read, bytes_of_variable, outcome_of_read, outcome_of_variable}
use Rattle.system_calls.specs.declared.call.Answered.{Answered}
use Rattle.system_calls.specs.declared.call.Answered.TheVariants as answered
use Rattle.system_calls.specs.declared.call.CallRecord.{CallRecord}
use Rattle.system_calls.specs.declared.call.FileStatus.{FileStatus}
use Rattle.system_calls.specs.declared.call.LockAttempt.{LockAttempt}
use Rattle.system_calls.specs.declared.file_read.FileRead.{FileRead}

-- the calls are those of before and this one
abbrev pub AddsCall : SystemCall → List SystemCall → List SystemCall → Type 0
AddsCall call old new = new ≡ old ++ call ∷ []

-- the calls go on from the first ones: others may follow these
abbrev pub Continues : List SystemCall → List SystemCall → Type 0
Continues first calls = (others : List SystemCall) × (calls ≡ first ++ others)

-- a call
abbrev pub called : List ℕ → Answered → List ℕ → SystemCall
called path what bytes = record { path = path; answered = what; bytes = bytes }

-- the call without where it lies in memory
abbrev pub recorded_call : CallRecord → SystemCall
recorded_call call = called call.path.now call.answered call.bytes.now

-- the status of a file was asked, links followed
abbrev pub status_call : List ℕ → Option FileStatus → SystemCall
status_call path answer = called path (answered.Status answer) []

-- the status of a file was asked, which may be a link
abbrev pub link_status_call : List ℕ → Option FileStatus → SystemCall
link_status_call path answer = called path (answered.LinkStatus answer) []

-- a directory was to be made
abbrev pub make_directory_call : List ℕ → Bool → SystemCall
make_directory_call path answer = called path (answered.DirectoryMade answer) []

-- a file was to be made where it is absent, and synced
abbrev pub put_file_call : List ℕ → Bool → SystemCall
put_file_call path answer = called path (answered.FilePut answer) []

-- a file that is absent was to be made
abbrev pub create_file_call : List ℕ → Bool → SystemCall
create_file_call path answer = called path (answered.FileCreated answer) []

-- a directory was to be synced
abbrev pub sync_call : List ℕ → Bool → SystemCall
sync_call path answer = called path (answered.Synced answer) []

-- a file of at most so many bytes was read
abbrev pub read_call : List ℕ → ℕ → FileRead → SystemCall
read_call path most answer = called path (answered.Read most (outcome_of_read answer)) (bytes_of_read answer)

-- a file was to be locked
abbrev pub lock_file_call : List ℕ → LockAttempt → SystemCall
lock_file_call path answer = called path (answered.FileLocked answer) []

-- a directory was to be locked
abbrev pub lock_directory_call : List ℕ → LockAttempt → SystemCall
lock_directory_call path answer = called path (answered.DirectoryLocked answer) []

-- the lock of a file was waited for
abbrev pub await_lock_call : List ℕ → Bool → SystemCall
await_lock_call path answer = called path (answered.LockAwaited answer) []

-- the lock that was waited for was released
abbrev pub release_lock_call : SystemCall
release_lock_call = called [] answered.LockReleased []

-- the path without links was asked
abbrev pub canonical_path_call : List ℕ → Option (List ℕ) → SystemCall
canonical_path_call path answer = called path (answered.CanonicalPath (is_some answer)) (bytes_of_option answer)

-- the directory of the process was asked
abbrev pub working_directory_call : Option (List ℕ) → SystemCall
working_directory_call answer = called [] (answered.WorkingDirectory (is_some answer)) (bytes_of_option answer)

-- a variable was read
abbrev pub variable_call : List ℕ → Result (Option (List ℕ)) AllocError → SystemCall
variable_call name answer = called name (answered.Variable (outcome_of_variable answer)) (bytes_of_variable answer)

-- a user was looked up
abbrev pub look_up_user_call : List ℕ → Option (List ℕ) → SystemCall
look_up_user_call number answer = called number (answered.UserLookedUp (is_some answer)) (bytes_of_option answer)

-- whether standard error is a terminal was asked
abbrev pub is_terminal_call : Bool → SystemCall
is_terminal_call answer = called [] (answered.IsTerminal answer) []

-- a line was written to standard error
abbrev pub write_error_call : List ℕ → Bool → SystemCall
write_error_call line answer = called [] (answered.ErrorWritten answer) line

-- the clock was read
abbrev pub seconds_call : Option ℕ → SystemCall
seconds_call answer = called [] (answered.Seconds answer) []

-- the number of the process was asked
abbrev pub process_number_call : ℕ → SystemCall
process_number_call answer = called [] (answered.ProcessNumber answer) []
