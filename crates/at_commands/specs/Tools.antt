-- The names by which the tools are called.
use Rattle.std.specs.Prelude.{ℕ, List, Option, Some, None, codes}
use Rattle.at_words.specs.declared.tool.Tool.{Tool}
use Rattle.at_words.specs.declared.tool.Tool.TheVariants.{At, Batch, Atq, Atrm, Atd, Atday}
use Rattle.at_words.specs.Tools.{tool_of_words}

-- the name of a tool
abbrev pub name_of_command : Tool → List ℕ
name_of_command At = codes "at"
name_of_command Batch = codes "batch"
name_of_command Atq = codes "atq"
name_of_command Atrm = codes "atrm"
name_of_command Atd = codes "atd"
name_of_command Atday = codes "atday"

-- the name of the tool that was found, or of at where none was
abbrev pub name_or_at : Option (Tool × ℕ) → List ℕ
name_or_at None = codes "at"
name_or_at (Some found) = name_of_command found.0

-- the name of the tool in the words, or of at where they name none
abbrev pub tool_name_of : List (List ℕ) → List ℕ
tool_name_of words = name_or_at (tool_of_words words)
