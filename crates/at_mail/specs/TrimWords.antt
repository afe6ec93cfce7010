-- The words of the program that trims: `--trim`, which has to be given.
use Rattle.std.specs.Prelude.{[], ◌∷◌, List, Result, Ok, Err, codes, if◌then◌else◌}
use Rattle.clap.specs.Simple.{App}
use Rattle.clap.specs.Walk.{Row, Text}
use Rattle.at_words.specs.Answers.{named_asked}
use Rattle.at_words.specs.Commands.{app_with, long_flag_rule}
use Rattle.at_words.specs.Rows.{is_set}
use Rattle.at_words.specs.declared.fault.WordsFault.{WordsFault}
use Rattle.at_words.specs.declared.fault.WordsFault.TheVariants.{Usage}

-- `atpost`: the flag --trim
unfoldable pub trim_app : App
trim_app = app_with (codes "atpost") (long_flag_rule (codes "trim") ∷ [])

-- what the matches of the words request
abbrev pub trim_rows_asked : List Row → Result (Unit {0}) WordsFault
trim_rows_asked rows = if is_set (codes "trim") rows then Ok tt else Err Usage

-- what the words request, the first of which is the program's name; without it they request nothing
abbrev pub trim_asked : List Text → Result (Unit {0}) WordsFault
trim_asked words = named_asked trim_app trim_rows_asked words
