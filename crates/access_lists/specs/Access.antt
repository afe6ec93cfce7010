-- Who may use `at`, by the lists at.allow and at.deny (XCU at, Description).
use Rattle.std.specs.Prelude.{ℕ, Bool, false, not, ◌||◌, List, Option, Some, None, codes}
use Rattle.std.specs.List.{list_any}
use Rattle.std.specs.Str.{bytes_eq}
use Rattle.text_reader.specs.Blanks.{after_blanks, before_blanks}
use Rattle.text_reader.specs.Lines.{lines_of}

-- the name that a line tells: the line without the blanks at both its ends (own)
abbrev pub name_in_list_line : List ℕ → List ℕ
name_in_list_line line = before_blanks (after_blanks line)

-- some line of the list tells the name
abbrev pub is_listed : List ℕ → List ℕ → Bool
is_listed list user = list_any (λ line. bytes_eq (name_in_list_line line) user) (lines_of list)

-- The lists permit the user. With at.allow those may whom it lists; else with at.deny those whom it
-- doesn't; without both lists nobody may.
abbrev pub lists_permit : List ℕ → Option (List ℕ) → Option (List ℕ) → Bool
lists_permit user (Some allow) deny = is_listed allow user
lists_permit user None (Some deny) = not (is_listed deny user)
lists_permit user None None = false

-- the user may use `at`: root always may (Debian at(1)), others where the lists permit it
abbrev pub may_use : List ℕ → Option (List ℕ) → Option (List ℕ) → Bool
may_use user allow deny = bytes_eq user (codes "root") || lists_permit user allow deny
