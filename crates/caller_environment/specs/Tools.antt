-- The tools by name (own).
use Rattle.std.specs.Prelude.{[], ◌∷◌, ℕ, Bool, true, false, List, Option, Some, None, codes, if◌then◌else◌}
use Rattle.std.specs.Str.{bytes_eq}
use Rattle.caller_environment.specs.Fields.{part_after_last}
use Rattle.caller_environment.specs.declared.tool_name.ToolName.{ToolName}
use Rattle.caller_environment.specs.declared.tool_name.ToolName.TheVariants.{At, Batch, Atq, Atrm, Atd, Atday, Atpost, Atcron, Ataccount, Atcheck, Atstat}

-- the name of a tool
abbrev pub name_of_tool : ToolName → List ℕ
name_of_tool At = codes "at"
name_of_tool Batch = codes "batch"
name_of_tool Atq = codes "atq"
name_of_tool Atrm = codes "atrm"
name_of_tool Atd = codes "atd"
name_of_tool Atday = codes "atday"
name_of_tool Atpost = codes "atpost"
name_of_tool Atcron = codes "atcron"
name_of_tool Ataccount = codes "ataccount"
name_of_tool Atcheck = codes "atcheck"
name_of_tool Atstat = codes "atstat"

-- the program of a name
unfoldable pub program_named : List ℕ → Option ToolName
program_named name =
    if bytes_eq name (codes "atpost") then Some Atpost
    else (if bytes_eq name (codes "atcron") then Some Atcron
    else (if bytes_eq name (codes "ataccount") then Some Ataccount
    else (if bytes_eq name (codes "atcheck") then Some Atcheck
    else (if bytes_eq name (codes "atstat") then Some Atstat
    else None))))

-- the tool of a name
unfoldable pub tool_named : List ℕ → Option ToolName
tool_named name =
    if bytes_eq name (codes "at") then Some At
    else (if bytes_eq name (codes "batch") then Some Batch
    else (if bytes_eq name (codes "atq") then Some Atq
    else (if bytes_eq name (codes "atrm") then Some Atrm
    else (if bytes_eq name (codes "atd") then Some Atd
    else (if bytes_eq name (codes "atday") then Some Atday
    else program_named name)))))

-- the tool that the last part of the first word names
abbrev pub first_tool : List (List ℕ) → Option ToolName
first_tool [] = None
first_tool (word ∷ others) = tool_named (part_after_last 47 word)

-- the tool that the second word names
abbrev pub second_tool_name : List (List ℕ) → Option ToolName
second_tool_name (first ∷ word ∷ others) = tool_named word
second_tool_name _ = None

-- the one, or else the other
abbrev pub first_tool_or : Option ToolName → Option ToolName → Option ToolName
first_tool_or (Some tool) other = Some tool
first_tool_or None other = other

-- the tool that the words name: by the last part of the first word, or else by the second
abbrev pub tool_name_of_words : List (List ℕ) → Option ToolName
tool_name_of_words words = first_tool_or (first_tool words) (second_tool_name words)

-- the words without the first, where the second alone names a tool
abbrev pub words_by : Option ToolName → Option ToolName → List (List ℕ) → List (List ℕ)
words_by None (Some tool) (word ∷ others) = others
words_by first second words = words

-- the words of the tool, its name first: without the first word where only the second names a tool
abbrev pub own_words : List (List ℕ) → List (List ℕ)
own_words words = words_by (first_tool words) (second_tool_name words) words
