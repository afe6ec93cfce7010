-- The table of users: a line has seven fields after colons, of which the first is the name, the third the number and the
-- sixth the home directory (passwd(5)).
use Rattle.std.specs.Prelude.{◌==◌, ◌&&◌, ℕ, Bool, false, List, Option, Some, None, find, option_and_then, unwrap_or}
use Rattle.std.specs.Str.{bytes_eq}
use Rattle.text_reader.specs.Lines.{lines_of}
use Rattle.caller_environment.specs.Fields.{field, user_number}

-- the name of the line's user
abbrev pub name_in_user_line : List ℕ → List ℕ
name_in_user_line line = unwrap_or (field 58 0 line) line

-- the home directory of the line's user
abbrev pub home_in : List ℕ → Option (List ℕ)
home_in line = field 58 5 line

-- the number is this one
abbrev pub is_number : ℕ → Option ℕ → Bool
is_number number (Some other) = other == number
is_number number None = false

-- the user number of the line is this one
abbrev pub has_user_number : ℕ → List ℕ → Bool
has_user_number number line = is_number number (option_and_then user_number (field 58 2 line))

-- the user of the line has this number and name
abbrev pub is_user_named : ℕ → List ℕ → List ℕ → Bool
is_user_named number name line = has_user_number number line && bytes_eq (name_in_user_line line) name

-- the first line of this number and name
abbrev pub named_line : ℕ → List ℕ → List ℕ → Option (List ℕ)
named_line number name table = find (is_user_named number name) (lines_of table)

-- the first line of this number
abbrev pub numbered_line : ℕ → List ℕ → Option (List ℕ)
numbered_line number table = find (has_user_number number) (lines_of table)

-- the one, or else the other
abbrev pub line_or : Option (List ℕ) → Option (List ℕ) → Option (List ℕ)
line_or (Some line) other = Some line
line_or None other = other

-- the user's line: that of the number and the name, or else the first of the number
abbrev pub user_line : ℕ → List ℕ → List ℕ → Option (List ℕ)
user_line number name table = line_or (named_line number name table) (numbered_line number table)
