-- The tools and their names.
use Rattle.std.specs.Prelude.{◌==◌, [], ◌∷◌, ℕ, List, Option, Some, None, codes, option_map, if◌then◌else◌}
use Rattle.std.specs.Str.{bytes_eq}
use Rattle.at_words.specs.declared.tool.Tool.{Tool}
use Rattle.at_words.specs.declared.tool.Tool.TheVariants.{At, Batch, Atq, Atrm, Atd, Atday}

-- what is after the last slash of a word, where this comes after the last one so far
abbrev pub part_after : List ℕ → List ℕ → List ℕ
part_after part [] = part
part_after part (byte ∷ others) = part_after (if byte == 47 then others else part) others

-- the part of a word after its last slash, or the word
abbrev pub last_part : List ℕ → List ℕ
last_part word = part_after word word

-- the tool of a name
unfoldable pub tool_of_name : List ℕ → Option Tool
tool_of_name name =
    if bytes_eq name (codes "at") then Some At
    else (if bytes_eq name (codes "batch") then Some Batch
    else (if bytes_eq name (codes "atq") then Some Atq
    else (if bytes_eq name (codes "atrm") then Some Atrm
    else (if bytes_eq name (codes "atd") then Some Atd
    else (if bytes_eq name (codes "atday") then Some Atday
    else None)))))

-- the tool with the number of words before its own
abbrev pub with_start : ℕ → Option Tool → Option (Tool × ℕ)
with_start start tool = option_map (λ named. (named, start)) tool

-- the tool that the second word names
abbrev pub second_tool : List (List ℕ) → Option (Tool × ℕ)
second_tool [] = None
second_tool (word ∷ others) = with_start 2 (tool_of_name word)

abbrev pub first_start_or : Option (Tool × ℕ) → Option (Tool × ℕ) → Option (Tool × ℕ)
first_start_or (Some found) other = Some found
first_start_or None other = other

-- The tool that the last part of the first word names, or else the second word, with the place at which
-- the tool's own words begin.
abbrev pub tool_of_words : List (List ℕ) → Option (Tool × ℕ)
tool_of_words [] = None
tool_of_words (word ∷ others) = first_start_or (with_start 1 (tool_of_name (last_part word))) (second_tool others)
