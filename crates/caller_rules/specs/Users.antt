-- Who calls (own).
use Rattle.std.specs.Prelude.{◌==◌, ◌&&◌, ℕ, Bool, List, Option, Some, None, codes, length, not}
use Rattle.std.specs.List.{list_all}
use Rattle.std.specs.Str.{bytes_eq}
use Rattle.std.specs.Char.{is_ascii_digit}
use Rattle.caller_rules.specs.declared.user.CallingUser.{CallingUser}

-- the number is root's; without a number the name is
abbrev pub is_root_by : Option ℕ → List ℕ → Bool
is_root_by (Some number) name = number == 0
is_root_by None name = bytes_eq name (codes "root")

-- the user is root
abbrev pub is_root_user : CallingUser → Bool
is_root_user user = is_root_by user.number user.name

-- the name has digits alone, so that the system's tools may take it for a user number
abbrev pub is_name_of_digits : List ℕ → Bool
is_name_of_digits name = not (length name == 0) && list_all is_ascii_digit name
