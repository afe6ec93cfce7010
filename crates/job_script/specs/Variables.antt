-- Which variables of the caller a job keeps, and how long their lines are (POSIX.1-2017, XCU, at:
-- the environment of the job; which names are left out is this project's own).
use Rattle.std.specs.Prelude.{ℕ, ◌+◌, ◌*◌, ◌==◌, ◌&&◌, ◌||◌, Bool, not, List, [], ◌∷◌, length, slice_index, codes, if◌then◌else◌}
use Rattle.std.specs.List.{filter, list_all, list_any, sum_by}
use Rattle.std.specs.Char.{is_ascii_alphabetic, is_ascii_alphanumeric}
use Rattle.std.specs.Str.{bytes_eq}

-- the names that the shell itself fills, or that speak of a terminal: no job keeps them
abbrev pub reserved_names : List (List ℕ)
reserved_names =
    codes "BASH_VERSINFO" ∷ codes "DISPLAY" ∷ codes "EUID" ∷ codes "GROUPS" ∷ codes "SHELLOPTS"
    ∷ codes "TERM" ∷ codes "UID" ∷ codes "_" ∷ []

-- the name is one of those
abbrev pub is_reserved : List ℕ → Bool
is_reserved name = list_any (λ reserved. bytes_eq name reserved) reserved_names

-- an ASCII letter, a digit or an underline
abbrev pub is_variable_byte : ℕ → Bool
is_variable_byte byte = is_ascii_alphanumeric byte || byte == 95

-- each byte may be in a variable's name
abbrev pub are_variable_bytes : List ℕ → Bool
are_variable_bytes name = list_all is_variable_byte name

-- an ASCII letter or an underline
abbrev pub begins_variable : ℕ → Bool
begins_variable byte = is_ascii_alphabetic byte || byte == 95

-- a name as the shell takes one (XBD 3.235): letters, digits and underlines, the first no digit
abbrev pub is_variable_name : List ℕ → Bool
is_variable_name name = begins_variable (slice_index name 0) && are_variable_bytes name

-- the byte isn't zero
abbrev pub is_no_zero : ℕ → Bool
is_no_zero byte = not (byte == 0)

-- the bytes have no zero byte
abbrev pub has_no_zero : List ℕ → Bool
has_no_zero bytes = list_all is_no_zero bytes

-- a job may set a variable of this name
abbrev pub may_be_set : List ℕ → Bool
may_be_set name = is_variable_name name && not (is_reserved name)

-- a job keeps the variable
abbrev pub is_kept_variable : List ℕ × List ℕ → Bool
is_kept_variable variable = may_be_set variable.0 && has_no_zero variable.1

-- the variables that a job keeps, in their order
abbrev pub kept : List (List ℕ × List ℕ) → List (List ℕ × List ℕ)
kept variables = filter is_kept_variable variables

-- how many bytes a byte takes between single quotes: a single quote takes four
abbrev pub quoted_byte : ℕ → ℕ
quoted_byte byte = if byte == 39 then 4 else 1

-- how many bytes a value takes with its quotes
abbrev pub quoted_length : List ℕ → ℕ
quoted_length value = sum_by quoted_byte value + 2

-- the length of a variable's line: its name twice, `=`, the value, `; export ` and a newline
abbrev pub line_length : List ℕ × List ℕ → ℕ
line_length variable = 2 * length variable.0 + quoted_length variable.1 + 11

-- the length of the lines of all variables that a job keeps
abbrev pub lines_length : List (List ℕ × List ℕ) → ℕ
lines_length variables = sum_by line_length (kept variables)
