-- A request for the atd that the machine starts for a user (own).
use Rattle.std.specs.Prelude.{◌≡◌, ◌++◌, ◌∷◌, ◌⊎◌, ◌||◌, ℕ, Bool, true, false, not, List, codes}
use Rattle.std.specs.Fmt.{decimal}
use Rattle.caller_environment.specs.Tools.{name_of_tool}
use Rattle.caller_environment.specs.declared.tool_name.ToolName.{ToolName}
use Rattle.system_calls.specs.SystemCall.{SystemCall}
use Rattle.system_calls.specs.Calls.{AddsCall, create_file_call, process_number_call, status_call, write_error_call}
use Rattle.caller_rules.specs.FileStatuses.{IsDecidedBy, is_directory_status}
use Rattle.caller_rules.specs.SpoolPaths.{path_within}
use Rattle.caller_rules.specs.Users.{is_root_user}
use Rattle.caller_rules.specs.declared.tool_spool.ToolSpool.{ToolSpool}
use Rattle.caller_rules.specs.declared.user.CallingUser.{CallingUser}

-- a dot and the number of a process
abbrev pub request_ending : ℕ → List ℕ
request_ending number = 46 ∷ decimal number

-- the name of a user and the number of a process
abbrev pub request_name : List ℕ → ℕ → List ℕ
request_name user number = user ++ request_ending number

-- the file of this name by which a user requests an atd
abbrev pub request_path : List ℕ → ℕ → List ℕ
request_path user number = path_within (codes "/run/coefhird/wake") (request_name user number)

-- the line that names a request that could not be made
abbrev pub refused_request_line : ToolName → List ℕ → List ℕ
refused_request_line tool path =
    name_of_tool tool ++ codes ": no atd could be requested: " ++ path ++ codes " can not be created\n"

-- a request that was not made is named on standard error
abbrev pub IsRequestNamed : Bool → ToolName → List ℕ → List SystemCall → List SystemCall → Type 0
IsRequestNamed true tool path old new = new ≡ old
IsRequestNamed false tool path old new =
    (written : Bool) × AddsCall (write_error_call (refused_request_line tool path) written) old new

-- the file was to be made
pub record IsRequestPut (tool : ToolName) (user : List ℕ) (old new : List SystemCall) : Type 0 where
  pub number : ℕ
  pub is_put : Bool
  pub numbered : List SystemCall
  pub tried : List SystemCall
  pub asked : AddsCall (process_number_call number) old numbered
  pub put : AddsCall (create_file_call (request_path user number) is_put) numbered tried
  pub named : IsRequestNamed is_put tool (request_path user number) tried new

-- it was, unless the user's atd runs
abbrev pub IsRequestPutUnless : Bool → ToolName → List ℕ → List SystemCall → List SystemCall → Type 0
IsRequestPutUnless true tool user old new = new ≡ old
IsRequestPutUnless false tool user old new = IsRequestPut tool user old new

-- whether the user's atd runs was asked first
pub record IsRequestedUnlessUp (tool : ToolName) (user : List ℕ) (old new : List SystemCall) : Type 0 where
  pub is_up : Bool
  pub between : List SystemCall
  pub asked : IsDecidedBy (status_call (path_within (codes "/run/coefhird/up") user)) is_directory_status old between is_up
  pub put : IsRequestPutUnless is_up tool user between new

-- that was asked where the machine starts daemons
abbrev pub IsRequestedWhere : Bool → ToolName → List ℕ → List SystemCall → List SystemCall → Type 0
IsRequestedWhere true tool user old new = IsRequestedUnlessUp tool user old new
IsRequestedWhere false tool user old new = new ≡ old

-- the machine was asked whether it starts daemons, and where it does for one
pub record IsRequestedByUser (tool : ToolName) (user : List ℕ) (old new : List SystemCall) : Type 0 where
  pub is_watched : Bool
  pub between : List SystemCall
  pub asked : IsDecidedBy (status_call (codes "/run/coefhird/wake")) is_directory_status old between is_watched
  pub requested : IsRequestedWhere is_watched tool user between new

-- an atd of the caller's own spool is requested, unless the user is root
abbrev pub IsDaemonRequested : ToolName → CallingUser → ToolSpool → List SystemCall → List SystemCall → Type 0
IsDaemonRequested tool user spool old new =
    (((not spool.is_own || is_root_user user) ≡ true) × (new ≡ old)) ⊎ IsRequestedByUser tool user.name old new
