-- The words of the checker: its name, and after it none, or `--salvage`.
use Rattle.std.specs.Prelude.{[], ◌∷◌, Bool, List, Result, Ok, codes}
use Rattle.clap.specs.Simple.{App}
use Rattle.clap.specs.Walk.{Row, Text}
use Rattle.at_words.specs.Answers.{named_asked}
use Rattle.at_words.specs.Commands.{app_with, long_flag_rule}
use Rattle.at_words.specs.Rows.{is_set}
use Rattle.at_words.specs.declared.fault.WordsFault.{WordsFault}

-- `atcheck`: the flag --salvage
unfoldable pub check_app : App
check_app = app_with (codes "atcheck") (long_flag_rule (codes "salvage") ∷ [])

-- whether a salvage is requested
abbrev pub salvage_asked : List Row → Result Bool WordsFault
salvage_asked rows = Ok (is_set (codes "salvage") rows)

-- what the words request, the first of which is the name
abbrev pub check_asked : List Text → Result Bool WordsFault
check_asked words = named_asked check_app salvage_asked words
