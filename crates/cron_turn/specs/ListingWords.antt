-- The words of the program (own): `--next N` and `-f FILE`, which both have to be given.
use Rattle.std.specs.Prelude.{[], ◌∷◌, ℕ, List, Option, Some, None, Result, Ok, Err, codes, nat_le, if◌then◌else◌}
use Rattle.clap.specs.Simple.{App}
use Rattle.clap.specs.Walk.{Row, Text, first_of}
use Rattle.at_words.specs.Answers.{named_asked}
use Rattle.at_words.specs.Commands.{app_with, long_rule, value_rule}
use Rattle.at_words.specs.Daemons.{turns_asked}
use Rattle.at_words.specs.declared.fault.WordsFault.{WordsFault}
use Rattle.at_words.specs.declared.fault.WordsFault.TheVariants.{Usage}
use Rattle.cron_turn.specs.declared.listing_words.NextRequest.{NextRequest}
use Rattle.cron_turn.specs.declared.listing_words.TheConstants.{MAX_NEXT}

-- `atcron`: the options -f and --next
unfoldable pub next_app : App
next_app = app_with (codes "atcron") (value_rule (codes "file") 102 ∷ long_rule (codes "next") ∷ [])

-- the number, where it is no greater than the most that are listed
abbrev pub few_of : Option ℕ → Option ℕ
few_of (Some number) = if nat_le number MAX_NEXT then Some number else None
few_of None = None

-- the number of minutes, which has to be given, and is written as one of turns is
abbrev pub count_asked : Option Text → Option ℕ
count_asked (Some text) = few_of (turns_asked (Some text))
count_asked None = None

-- a crontab and a number of minutes, where there are both
abbrev pub listing_request : Option Text → Option ℕ → Result NextRequest WordsFault
listing_request (Some file) (Some count) = Ok (record { file = file; count = count })
listing_request (Some file) None = Err Usage
listing_request None count = Err Usage

-- the path of the crontab, and the number of minutes
abbrev pub listing_rows_asked : List Row → Result NextRequest WordsFault
listing_rows_asked rows = listing_request (first_of (codes "file") rows) (count_asked (first_of (codes "next") rows))

-- what the words request, the first of which is the program's name; without it they request nothing
abbrev pub next_asked : List Text → Result NextRequest WordsFault
next_asked words = named_asked next_app listing_rows_asked words
