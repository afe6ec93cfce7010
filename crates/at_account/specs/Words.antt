-- The words of the program: none, or `--show`.
use Rattle.std.specs.Prelude.{[], ◌∷◌, Bool, List, Result, Ok, codes}
use Rattle.clap.specs.Simple.{App}
use Rattle.clap.specs.Walk.{Row, Text}
use Rattle.at_words.specs.Answers.{named_asked}
use Rattle.at_words.specs.Commands.{app_with, long_flag_rule}
use Rattle.at_words.specs.Rows.{is_set}
use Rattle.at_words.specs.declared.fault.WordsFault.{WordsFault}

-- `ataccount`: the flag --show
unfoldable pub account_app : App
account_app = app_with (codes "ataccount") (long_flag_rule (codes "show") ∷ [])

-- the lines are to be shown
abbrev pub show_asked : List Row → Result Bool WordsFault
show_asked rows = Ok (is_set (codes "show") rows)

-- what the words request, the first of which is the program's name; without it they request nothing
abbrev pub account_asked : List Text → Result Bool WordsFault
account_asked words = named_asked account_app show_asked words
