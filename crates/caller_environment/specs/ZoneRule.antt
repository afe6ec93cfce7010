-- The rule at the end of a zone's file: a line of its own, which ends the file (RFC 9636, Footer).
use Rattle.std.specs.Prelude.{◌==◌, ◌&&◌, ◌||◌, [], ◌∷◌, ◌-◌, ℕ, Bool, true, false, List, Option, Some, None, codes, length, nat_eq, nat_le, slice_index, take, if◌then◌else◌}
use Rattle.std.specs.List.{list_all, starts_with}
use Rattle.std.specs.Char.{is_ascii_alphabetic}
use Rattle.caller_environment.specs.Fields.{part_after_last}
use Rattle.caller_environment.specs.declared.zone_rule.TheConstants.{MAX_RULE, MAX_ZONE_FILE}

-- the file begins as one of zones, and is not too long
abbrev pub is_zone_file : List ℕ → Bool
is_zone_file file = nat_le (length file) MAX_ZONE_FILE && starts_with nat_eq file (codes "TZif")

-- the text ends with a newline
abbrev pub ends_line : List ℕ → Bool
ends_line text = slice_index text (length text - 1) == 10

-- the last line of a text that ends with a newline
abbrev pub last_line : List ℕ → Option (List ℕ)
last_line text = if ends_line text then Some (part_after_last 10 (take (length text - 1) text)) else None

-- the rule begins with a letter or `<`
abbrev pub begins_rule : List ℕ → Bool
begins_rule [] = false
begins_rule (byte ∷ others) = is_ascii_alphabetic byte || byte == 60

-- printable ASCII other than a space
abbrev pub is_rule_byte : ℕ → Bool
is_rule_byte byte = nat_le 33 byte && nat_le byte 126

-- the line is a rule by its first byte, its length and its bytes
abbrev pub is_rule_line : List ℕ → Bool
is_rule_line line = nat_le (length line) MAX_RULE && begins_rule line && list_all is_rule_byte line

-- the line, where it is a rule
abbrev pub rule_of_line : Option (List ℕ) → Option (List ℕ)
rule_of_line (Some line) = if is_rule_line line then Some line else None
rule_of_line None = None

-- the rule of a zone's file
abbrev pub rule_in : List ℕ → Option (List ℕ)
rule_in file = if is_zone_file file then rule_of_line (last_line file) else None
