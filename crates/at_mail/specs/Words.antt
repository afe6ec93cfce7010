-- The words of the program: `--send PATH`, which has to be given, and `--turns N`.
use Rattle.std.specs.Prelude.{[], ◌∷◌, ℕ, List, Option, Some, Result, Ok, Err, codes, if◌then◌else◌}
use Rattle.clap.specs.Simple.{App}
use Rattle.clap.specs.Walk.{Row, Text, first_of}
use Rattle.at_words.specs.Answers.{named_asked}
use Rattle.at_words.specs.Commands.{app_with, long_rule}
use Rattle.at_words.specs.Daemons.{turns_asked}
use Rattle.at_words.specs.declared.fault.WordsFault.{WordsFault}
use Rattle.at_words.specs.declared.fault.WordsFault.TheVariants.{Usage}
use Rattle.mail_session.specs.PostState.{may_be_program}
use Rattle.at_mail.specs.declared.request.PostRequest.{PostRequest}

-- `atpost`: the options --send and --turns
unfoldable pub post_app : App
post_app = app_with (codes "atpost") (long_rule (codes "send") ∷ long_rule (codes "turns") ∷ [])

-- so many sessions with this mail program, where the text may name one and the number can be read
abbrev pub sessions_asked : Option Text → Option ℕ → Result PostRequest WordsFault
sessions_asked (Some program) (Some turns) =
    if may_be_program program then Ok (record { program = program; turns = turns }) else Err Usage
sessions_asked _ _ = Err Usage

-- what the matches of the words request
abbrev pub matches_asked : List Row → Result PostRequest WordsFault
matches_asked rows = sessions_asked (first_of (codes "send") rows) (turns_asked (first_of (codes "turns") rows))

-- what the words request, the first of which is the program's name; without it they request nothing
abbrev pub post_asked : List Text → Result PostRequest WordsFault
post_asked words = named_asked post_app matches_asked words
