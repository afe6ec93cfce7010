-- The spool of a tool by its words (own).
use Rattle.std.specs.Prelude.{◌≡◌, ◌⊎◌, ℕ, false, List, Some, None}
use Rattle.std.specs.List.{remove}
use Rattle.caller_environment.specs.ToolTable.{IsToolRow}
use Rattle.caller_environment.specs.declared.tool_name.ToolName.{ToolName}
use Rattle.caller_environment.specs.declared.tool_table.SpoolSource.{SpoolSource}
use Rattle.caller_environment.specs.declared.tool_table.SpoolSource.TheVariants.{Caller, FirstWord, Nothing}
use Rattle.caller_environment.specs.declared.tool_table.ToolRow.{ToolRow}
use Rattle.caller_rules.specs.ToolSpools.{IsCallersSpool}
use Rattle.caller_rules.specs.declared.tool_spool.ToolSpool.{ToolSpool}
use Rattle.caller_rules.specs.declared.user.CallingUser.{CallingUser}
use Rattle.process_input.specs.Directories.{directory_word}
use Rattle.system_calls.specs.SystemCall.{SystemCall}

-- the spool is the caller's, and the words stay
abbrev pub IsCallersOwn : List (List ℕ) → List (List ℕ) → CallingUser → List SystemCall → List SystemCall → ToolSpool → Type 0
IsCallersOwn words left user old new spool = (left ≡ words) × IsCallersSpool user old new spool

-- the spool that the first word names, which is removed; nothing is asked
pub record IsFirstWord (words left : List (List ℕ)) (old new : List SystemCall) (spool : ToolSpool) : Type 0 where
  pub names : directory_word words ≡ Some spool.path
  pub not_own : spool.is_own ≡ false
  pub removed : left ≡ remove words 1
  pub unasked : new ≡ old

-- the first word names the spool, or else it is the caller's
abbrev pub IsNamedSpool : List (List ℕ) → List (List ℕ) → CallingUser → List SystemCall → List SystemCall → ToolSpool → Type 0
IsNamedSpool words left user old new spool =
    IsFirstWord words left old new spool ⊎ ((directory_word words ≡ None) × IsCallersOwn words left user old new spool)

-- the spool of a tool that has it from there
abbrev pub IsSpoolBy : SpoolSource → List (List ℕ) → List (List ℕ) → CallingUser → List SystemCall → List SystemCall → ToolSpool → Type 0
IsSpoolBy Caller words left user old new spool = IsCallersOwn words left user old new spool
IsSpoolBy FirstWord words left user old new spool = IsNamedSpool words left user old new spool
IsSpoolBy Nothing words left user old new spool = IsCallersOwn words left user old new spool

-- the spool of a tool, by its row of the table
pub record IsSpoolOfTool (tool : ToolName) (words left : List (List ℕ)) (user : CallingUser) (old new : List SystemCall)
    (spool : ToolSpool) : Type 0 where
  pub row : ToolRow
  pub is_row : IsToolRow tool row
  pub by : IsSpoolBy row.spool words left user old new spool
