-- The words of the program (own): `-f FILE`, which has to be given, and `--turns N`.
use Rattle.std.specs.Prelude.{[], ◌∷◌, ℕ, List, Option, Some, None, Result, Ok, Err, codes}
use Rattle.clap.specs.Simple.{App}
use Rattle.clap.specs.Walk.{Row, Text, first_of}
use Rattle.at_words.specs.Answers.{named_asked}
use Rattle.at_words.specs.Commands.{app_with, long_rule, value_rule}
use Rattle.at_words.specs.Daemons.{turns_asked}
use Rattle.at_words.specs.declared.fault.WordsFault.{WordsFault}
use Rattle.at_words.specs.declared.fault.WordsFault.TheVariants.{Usage}
use Rattle.cron_turn.specs.declared.words.CronRequest.{CronRequest}

-- `atcron`: the options -f and --turns
unfoldable pub cron_app : App
cron_app = app_with (codes "atcron") (value_rule (codes "file") 102 ∷ long_rule (codes "turns") ∷ [])

-- a crontab and a number of sessions, where there are both
abbrev pub cron_request : Option Text → Option ℕ → Result CronRequest WordsFault
cron_request (Some file) (Some turns) = Ok (record { file = file; turns = turns })
cron_request (Some file) None = Err Usage
cron_request None turns = Err Usage

-- the path of the crontab, and the number of sessions, which is the greatest where none is given
abbrev pub crontab_asked : List Row → Result CronRequest WordsFault
crontab_asked rows = cron_request (first_of (codes "file") rows) (turns_asked (first_of (codes "turns") rows))

-- what the words request, the first of which is the program's name; without it they request nothing
abbrev pub cron_asked : List Text → Result CronRequest WordsFault
cron_asked words = named_asked cron_app crontab_asked words
