-- Whether a job can take over what its caller has (own).
use Rattle.std.specs.Prelude.{◌≡◌, ◌<◌, ◌≤◌, ◌==◌, ◌&&◌, ℕ, Bool, not, List, length, nat_le, slice_index, IsTrue, Option, Some, None, Result, Ok, Err, if◌then◌else◌}
use Rattle.spool_model.specs.Users.{IsUserName, are_user_bytes}
use Rattle.spool_model.specs.declared.user_name.TheConstants.{MAX_USER_NAME}
use Rattle.job_script.specs.Variables.{has_no_zero, lines_length}
use Rattle.job_script.specs.declared.checks.TheConstants.{MAX_DIRECTORY, MAX_ENVIRONMENT}
use Rattle.job_script.specs.declared.context.Context.{Context}
use Rattle.job_script.specs.declared.fault.ScriptFault.{ScriptFault}
use Rattle.job_script.specs.declared.fault.ScriptFault.TheVariants.{BadUser, BadDirectory, EnvironmentTooLarge, TooLong, Memory}
use Rattle.job_script.specs.declared.writer.TheConstants.{MAX_COMMANDS}

-- an absolute path (XBD 3.2): it begins with a slash, and has no zero byte
pub record IsAbsolutePath (path : List ℕ) : Type 0 where
  pub slash : slice_index path 0 ≡ 47
  pub no_zero : IsTrue (has_no_zero path)

-- a job can change to the directory: it is an absolute path, and not too long
pub record IsDirectory (directory : List ℕ) : Type 0 where
  pub path : IsAbsolutePath directory
  pub few : length directory ≤ MAX_DIRECTORY

-- a job can take over the context
pub record IsUsableContext (context : Context) : Type 0 where
  pub user : IsUserName context.user
  pub directory : IsDirectory context.directory
  pub few : lines_length context.environment ≤ MAX_ENVIRONMENT

-- the test of a user's name
abbrev pub is_user_name : List ℕ → Bool
is_user_name name =
    nat_le 1 (length name) && nat_le (length name) MAX_USER_NAME && are_user_bytes name
    && not (slice_index name 0 == 45)

-- the test of a directory that a job can change to
abbrev pub is_directory : List ℕ → Bool
is_directory directory =
    slice_index directory 0 == 47 && has_no_zero directory && nat_le (length directory) MAX_DIRECTORY

-- the test of the length of all lines of variables
abbrev pub has_room : List (List ℕ × List ℕ) → Bool
has_room environment = nat_le (lines_length environment) MAX_ENVIRONMENT

-- the fault of the first of these tests that fails
abbrev pub first_fault : Context → Option ScriptFault
first_fault context =
    if not (is_user_name context.user) then Some BadUser
    else (if not (is_directory context.directory) then Some BadDirectory
    else (if not (has_room context.environment) then Some EnvironmentTooLarge
    else None))

-- the first fault of the context, in this order: its user, its directory, its variables
abbrev pub Checked : {T : Type 0} → Context → Result T ScriptFault → Type 0
Checked context (Ok _) = IsUsableContext context
Checked context (Err BadUser) = ¬ IsUserName context.user
Checked context (Err BadDirectory) = IsUserName context.user × ¬ IsDirectory context.directory
Checked context (Err EnvironmentTooLarge) =
    IsUserName context.user × IsDirectory context.directory
    × (MAX_ENVIRONMENT < lines_length context.environment)
Checked context _ = ⊥

-- the first fault of the context, and then that of the commands; an out-of-memory error alone is free
abbrev pub Written : {T : Type 0} → Context → List ℕ → Result T ScriptFault → Type 0
Written context commands (Ok _) = IsUsableContext context × (length commands ≤ MAX_COMMANDS)
Written context commands (Err BadUser) = ¬ IsUserName context.user
Written context commands (Err BadDirectory) = IsUserName context.user × ¬ IsDirectory context.directory
Written context commands (Err EnvironmentTooLarge) =
    IsUserName context.user × IsDirectory context.directory
    × (MAX_ENVIRONMENT < lines_length context.environment)
Written context commands (Err TooLong) = IsUsableContext context × (MAX_COMMANDS < length commands)
Written context commands (Err Memory) = Unit {0}
