-- What the words of `atd` and `atday` request.
use Rattle.std.specs.Prelude.{ℕ, Bool, List, Option, Some, None, Result, Ok, Err, codes, option_map}
use Rattle.clap.specs.Walk.{Row, Text, first_of}
use Rattle.at_words.specs.Answers.{or_usage}
use Rattle.at_words.specs.Digits.{limit_of, decimal_in}
use Rattle.at_words.specs.Rows.{is_set}
use Rattle.at_words.specs.declared.atd.TheConstants.{MAX_INTERVAL, MAX_TURNS}
use Rattle.at_words.specs.declared.atday.TheConstants.{MAX_EVENTS}
use Rattle.at_words.specs.declared.fault.WordsFault.{WordsFault}
use Rattle.at_words.specs.declared.fault.WordsFault.TheVariants.{Usage}
use Rattle.at_words.specs.declared.tool_request.ToolRequest.{ToolRequest}
use Rattle.at_words.specs.declared.tool_request.ToolRequest.TheVariants.{Daemon, Make}

-- the limit of the load in hundredths, 150 where none is given
abbrev pub limit_asked : Option Text → Option ℕ
limit_asked None = Some 150
limit_asked (Some text) = limit_of text

-- the seconds between two batch jobs, 60 where none are given
abbrev pub interval_asked : Option Text → Option ℕ
interval_asked None = Some 60
interval_asked (Some text) = decimal_in 9 0 MAX_INTERVAL text

-- the number of turns, the greatest where none is given
abbrev pub turns_asked : Option Text → Option ℕ
turns_asked None = Some MAX_TURNS
turns_asked (Some text) = decimal_in 19 1 MAX_TURNS text

-- a daemon, where each of its numbers can be read
abbrev pub daemon_request : Option ℕ → Option ℕ → Bool → Option ℕ → Result ToolRequest WordsFault
daemon_request (Some limit) (Some interval) once (Some turns) = Ok (Daemon limit interval once turns)
daemon_request _ _ _ _ = Err Usage

-- `atd`
abbrev pub atd_asked : List Row → Result ToolRequest WordsFault
atd_asked rows =
    daemon_request
    (limit_asked (first_of (codes "limit") rows))
    (interval_asked (first_of (codes "interval") rows))
    (is_set (codes "once") rows)
    (turns_asked (first_of (codes "turns") rows))

-- the number of events of a day, which has to be given
abbrev pub make_asked : Option Text → Option ℕ
make_asked None = None
make_asked (Some text) = decimal_in 4 1 MAX_EVENTS text

-- `atday`
abbrev pub atday_asked : List Row → Result ToolRequest WordsFault
atday_asked rows = or_usage (option_map Make (make_asked (first_of (codes "make") rows)))
