-- What the matches of a command say of an argument.
use Rattle.std.specs.Prelude.{[], Bool, false, List, Option, codes, is_some, option_map, unwrap_or}
use Rattle.std.specs.Borrow.{Bor}
use Rattle.std.specs.Option.{option_map_or}
use Rattle.std.specs.Str.{bytes_eq}
use Rattle.clap.specs.Walk.{Row, Text, all_of, first_of}

-- the text of an option's value
abbrev pub text_of : Option (Bor Text) → Option Text
text_of value = option_map (λ text. text.now) value

-- the flag was given
abbrev pub is_set : Text → List Row → Bool
is_set id rows = option_map_or (λ value. bytes_eq value (codes "true")) (first_of id rows) false

-- the option was given
abbrev pub is_given : Text → List Row → Bool
is_given id rows = is_some (first_of id rows)

-- the operands
abbrev pub operands_of : List Row → List Text
operands_of rows = unwrap_or (all_of (codes "operands") rows) []
