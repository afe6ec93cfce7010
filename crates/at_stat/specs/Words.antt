-- The words of the program: the flags -w and --json, the options --turns and -q, and numbers of jobs (own).
use Rattle.std.specs.Prelude.{[], ◌∷◌, ℕ, Bool, true, false, List, Option, Some, None, Result, Ok, Err, codes, option_map}
use Rattle.clap.specs.Simple.{App}
use Rattle.clap.specs.Walk.{Row, Text, first_of}
use Rattle.at_words.specs.Answers.{named_asked, on_ok, or_bad_queue, or_usage}
use Rattle.at_words.specs.Commands.{app_with, flag_rule, long_flag_rule, long_rule, operands_rule, value_rule}
use Rattle.at_words.specs.Daemons.{turns_asked}
use Rattle.at_words.specs.Numbers.{numbers_between}
use Rattle.at_words.specs.Queues.{queue_letter}
use Rattle.at_words.specs.Rows.{is_set, operands_of}
use Rattle.at_words.specs.declared.fault.WordsFault.{WordsFault}
use Rattle.at_words.specs.declared.fault.WordsFault.TheVariants.{Usage}
use Rattle.at_words.specs.declared.filter.Filter.{Filter}
use Rattle.at_words.specs.declared.filter.Filter.TheVariants.{All, Queue, Numbers}
use Rattle.at_stat.specs.declared.form.Form as form
use Rattle.at_stat.specs.declared.form.Form.TheVariants.{Text as Lines, Json}
use Rattle.spool_model.specs.declared.number.TheConstants.{LAST_NUMBER}
use Rattle.at_stat.specs.declared.request.StatRequest.{StatRequest}

-- `atstat`
unfoldable pub stat_app : App
stat_app =
    app_with (codes "atstat") (
    flag_rule (codes "wait") 119
    ∷ long_rule (codes "turns")
    ∷ value_rule (codes "queue") 113
    ∷ long_flag_rule (codes "json")
    ∷ operands_rule
    ∷ []
    )

-- the jobs of a queue
abbrev pub queue_filter : Text → Result Filter WordsFault
queue_filter text = or_bad_queue (option_map Queue (queue_letter text))

-- the jobs of these numbers, from 0, which no job has, to the last one; or all
abbrev pub numbers_asked : List Text → Result Filter WordsFault
numbers_asked [] = Ok All
numbers_asked (operand ∷ others) = on_ok Numbers (or_usage (numbers_between 0 LAST_NUMBER (operand ∷ others)))

-- which jobs are requested: those of a queue or those of numbers, and not both
abbrev pub which_asked : Option Text → List Text → Result Filter WordsFault
which_asked (Some text) [] = queue_filter text
which_asked (Some text) (operand ∷ others) = Err Usage
which_asked None operands = numbers_asked operands

-- the greatest number of sessions, where the ends of jobs are waited for; no number is given where they are not
abbrev pub wait_asked : Bool → Option Text → Result (Option ℕ) WordsFault
wait_asked false None = Ok None
wait_asked false (Some text) = Err Usage
wait_asked true turns = on_ok Some (or_usage (turns_asked turns))

-- how the lines are written
abbrev pub form_asked : Bool → form.Form
form_asked true = Json
form_asked false = Lines

-- the wait is read before the jobs
abbrev pub request_asked : Result (Option ℕ) WordsFault → Result Filter WordsFault → form.Form → Result StatRequest WordsFault
request_asked (Err fault) which form = Err fault
request_asked (Ok wait) (Err fault) form = Err fault
request_asked (Ok wait) (Ok which) form = Ok (record { wait = wait; form = form; which = which })

-- what the matches of the words request
abbrev pub stat_matches_asked : List Row → Result StatRequest WordsFault
stat_matches_asked rows =
    request_asked
    (wait_asked (is_set (codes "wait") rows) (first_of (codes "turns") rows))
    (which_asked (first_of (codes "queue") rows) (operands_of rows))
    (form_asked (is_set (codes "json") rows))

-- what the words request, the first of which is the program's name; without it they request nothing
abbrev pub stat_asked : List Text → Result StatRequest WordsFault
stat_asked words = named_asked stat_app stat_matches_asked words
