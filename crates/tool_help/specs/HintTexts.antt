-- Hints that name the tool, the user or a path (own).
use Rattle.std.specs.Prelude.{◌++◌, ℕ, List, codes}
use Rattle.caller_environment.specs.Tools.{name_of_tool}
use Rattle.caller_environment.specs.declared.tool_name.ToolName.{ToolName}
use Rattle.tool_help.specs.declared.hint_texts.ListsFound.{ListsFound}
use Rattle.tool_help.specs.declared.hint_texts.ListsFound.TheVariants.{Allow, Deny, Neither}

-- the line of a hint
abbrev pub hint_line_of : ToolName → List ℕ → List ℕ
hint_line_of tool hint = name_of_tool tool ++ codes ": " ++ hint ++ codes "\n"

-- that the help says how the tool is called
abbrev pub help_hint_of : ToolName → List ℕ
help_hint_of tool = codes "try " ++ name_of_tool tool ++ codes " --help"

-- who holds the lock on a file
abbrev pub lock_hint_of : List ℕ → List ℕ
lock_hint_of file = codes "another program holds the spool: try again, or see who by fuser " ++ file

-- how a user may use at, by the lists in a directory
abbrev pub access_hint_of : List ℕ → List ℕ → ListsFound → List ℕ
access_hint_of user directory Allow = codes "the name " ++ (user ++ (codes " is to stand in " ++ (directory ++ codes "/at.allow")))
access_hint_of user directory Deny = codes "the name " ++ (user ++ (codes " stands in " ++ (directory ++ codes "/at.deny")))
access_hint_of user directory Neither = codes "an empty file " ++ directory ++ codes "/at.deny lets everyone in"
