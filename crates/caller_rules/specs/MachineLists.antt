-- The lists of the machine (own; an existing list has the rules of Debian's at(1)).
use Rattle.std.specs.Prelude.{◌≡◌, ◌++◌, [], ◌⊎◌, ◌||◌, ℕ, Bool, true, false, not, List, Option, Some, None, codes}
use Rattle.spool_model.specs.Users.{IsUserName}
use Rattle.caller_environment.specs.MachineLists.{may_use_machine}
use Rattle.caller_environment.specs.ToolTable.{IsToolRow}
use Rattle.caller_environment.specs.Tools.{name_of_tool}
use Rattle.caller_environment.specs.declared.tool_name.ToolName.{ToolName}
use Rattle.caller_environment.specs.declared.tool_table.ToolRow.{ToolRow}
use Rattle.system_calls.specs.SystemCall.{SystemCall}
use Rattle.system_calls.specs.Calls.{AddsCall, read_call, status_call, write_error_call}
use Rattle.system_calls.specs.declared.call.FileStatus.{FileStatus}
use Rattle.system_calls.specs.declared.file_read.FileRead.{FileRead}
use Rattle.system_calls.specs.declared.file_read.FileRead.TheVariants as read
use Rattle.caller_rules.specs.FileStatuses.{is_directory_status}
use Rattle.caller_rules.specs.Users.{is_root_user}
use Rattle.caller_rules.specs.declared.user.CallingUser.{CallingUser}
use Rattle.caller_rules.specs.declared.machine_lists.TheConstants.{LONGEST_LIST}
use Rattle.caller_rules.specs.declared.machine_lists.MachineList.{MachineList}
use Rattle.caller_rules.specs.declared.machine_lists.MachineList.TheVariants.{Absent, Listed, Refusing, Ignored}

-- a published copy: its content, or else the list refuses
abbrev pub list_of_copy : FileRead → MachineList
list_of_copy (read.Whole bytes) = Listed bytes
list_of_copy read.Absent = Refusing
list_of_copy read.Unreadable = Refusing
list_of_copy read.TooLong = Refusing

-- root publishes nothing: no directory of copies is there, and the list is ignored
pub record IsUnpublished (old new : List SystemCall) (list : MachineList) : Type 0 where
  pub directory : Option FileStatus
  pub asked : AddsCall (status_call (codes "/run/coefhird") directory) old new
  pub absent : is_directory_status directory ≡ false
  pub is : list ≡ Ignored

-- root publishes copies: that of the list decides
pub record IsCopyRead (copy : List ℕ) (old new : List SystemCall) (list : MachineList) : Type 0 where
  pub directory : Option FileStatus
  pub content : FileRead
  pub between : List SystemCall
  pub asked : AddsCall (status_call (codes "/run/coefhird") directory) old between
  pub there : is_directory_status directory ≡ true
  pub copied : AddsCall (read_call copy LONGEST_LIST content) between new
  pub is : list ≡ list_of_copy content

-- the copy of a list that the caller can't read
abbrev pub IsPublishedList : List ℕ → List SystemCall → List SystemCall → MachineList → Type 0
IsPublishedList copy old new list = IsUnpublished old new list ⊎ IsCopyRead copy old new list

-- what follows the reading of the list itself
abbrev pub IsListBy : FileRead → List ℕ → List SystemCall → List SystemCall → MachineList → Type 0
IsListBy read.Absent copy old new list = (new ≡ old) × (list ≡ Absent)
IsListBy read.TooLong copy old new list = (new ≡ old) × (list ≡ Refusing)
IsListBy (read.Whole bytes) copy old new list = (new ≡ old) × (list ≡ Listed bytes)
IsListBy read.Unreadable copy old new list = IsPublishedList copy old new list

-- the list was read, or its copy where the caller can't read it
pub record IsListFound (path copy : List ℕ) (old new : List SystemCall) (list : MachineList) : Type 0 where
  pub content : FileRead
  pub after : List SystemCall
  pub asked : AddsCall (read_call path LONGEST_LIST content) old after
  pub by : IsListBy content copy after new list

-- the line that names a list that is ignored
abbrev pub ignored_line : ToolName → List ℕ → List ℕ
ignored_line tool path = name_of_tool tool ++ codes ": " ++ path ++ codes " can not be read, so it excludes nobody\n"

-- a list that is ignored is named on standard error; of the others nothing is said
abbrev pub IsWarnedOf : ToolName → List ℕ → MachineList → List SystemCall → List SystemCall → Type 0
IsWarnedOf tool path Ignored old new = (written : Bool) × AddsCall (write_error_call (ignored_line tool path) written) old new
IsWarnedOf tool path list old new = new ≡ old

-- lists of which one exists permit the name; what is no user's name is not permitted
abbrev pub PermitsName : List ℕ → Option (List ℕ) → Option (List ℕ) → Bool → Type 0
PermitsName name allow deny may =
    (IsUserName name × (may ≡ may_use_machine name allow deny)) ⊎ ((IsUserName name → ⊥) × (may ≡ false))

-- at.deny decides, where there is no at.allow
abbrev pub LetsUserByDeny : List ℕ → MachineList → Bool → Type 0
LetsUserByDeny name Refusing may = may ≡ false
LetsUserByDeny name (Listed deny) may = PermitsName name None (Some deny) may
LetsUserByDeny name Absent may = may ≡ true
LetsUserByDeny name Ignored may = may ≡ true

-- the first list that exists decides; without a list everyone may
abbrev pub LetsUser : List ℕ → MachineList → MachineList → Bool → Type 0
LetsUser name Refusing deny may = may ≡ false
LetsUser name (Listed allow) deny may = PermitsName name (Some allow) None may
LetsUser name Absent deny may = LetsUserByDeny name deny may
LetsUser name Ignored deny may = LetsUserByDeny name deny may

-- the tool consults no list, or the user is root: nothing was asked
pub record ConsultsNoList (tool : ToolName) (user : CallingUser) (old new : List SystemCall) (may : Bool) : Type 0 where
  pub row : ToolRow
  pub is_row : IsToolRow tool row
  pub free : (not row.consults_lists || is_root_user user) ≡ true
  pub asked : new ≡ old
  pub is : may ≡ true

-- both lists were looked for, each that is ignored was named, and they decide
pub record IsListedBy (tool : ToolName) (name : List ℕ) (old new : List SystemCall) (may : Bool) : Type 0 where
  pub allow : MachineList
  pub deny : MachineList
  pub allow_read : List SystemCall
  pub both_read : List SystemCall
  pub allow_named : List SystemCall
  pub allow_found : IsListFound (codes "/etc/at.allow") (codes "/run/coefhird/at.allow") old allow_read allow
  pub deny_found : IsListFound (codes "/etc/at.deny") (codes "/run/coefhird/at.deny") allow_read both_read deny
  pub allow_warned : IsWarnedOf tool (codes "/etc/at.allow") allow both_read allow_named
  pub deny_warned : IsWarnedOf tool (codes "/etc/at.deny") deny allow_named new
  pub is : LetsUser name allow deny may

-- the user may call the tool, or may not
abbrev pub IsPermitted : ToolName → CallingUser → List SystemCall → List SystemCall → Bool → Type 0
IsPermitted tool user old new may = ConsultsNoList tool user old new may ⊎ IsListedBy tool user.name old new may
