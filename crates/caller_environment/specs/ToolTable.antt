-- The table of the tools (own).
use Rattle.std.specs.Prelude.{◌≡◌, ℕ, Bool, List, Some}
use Rattle.std.specs.List.{find}
use Rattle.std.specs.Str.{bytes_eq}
use Rattle.caller_environment.specs.Tools.{name_of_tool}
use Rattle.caller_environment.specs.declared.tool_name.ToolName.{ToolName}
use Rattle.caller_environment.specs.declared.tool_table.ToolRow.{ToolRow}
use Rattle.caller_environment.specs.declared.tool_table.TheConstants.{TOOLS}

-- the row is that of the tool of this name
abbrev pub is_row_named : List ℕ → ToolRow → Bool
is_row_named name row = bytes_eq (name_of_tool row.tool) name

-- the row is the one of the tool's name
abbrev pub IsToolRow : ToolName → ToolRow → Type 0
IsToolRow tool row = find (is_row_named (name_of_tool tool)) TOOLS ≡ Some row
