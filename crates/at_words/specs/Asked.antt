-- What the words of `at`, `batch`, `atq` and `atrm` request.
use Rattle.std.specs.Prelude.{◌&&◌, ◌||◌, [], ◌∷◌, ℕ, Bool, true, List, Option, Some, None, Result, Ok, Err, codes, if◌then◌else◌, option_map}
use Rattle.std.specs.List.{join_by}
use Rattle.clap.specs.Walk.{Row, Text, first_of}
use Rattle.at_words.specs.Answers.{on_ok, or_bad_queue, or_usage}
use Rattle.at_words.specs.Numbers.{numbers_of}
use Rattle.at_words.specs.Queues.{queue_letter, shown_letter}
use Rattle.at_words.specs.Rows.{is_given, is_set, operands_of}
use Rattle.at_words.specs.declared.fault.WordsFault.{WordsFault}
use Rattle.at_words.specs.declared.fault.WordsFault.TheVariants.{Usage, BadQueue}
use Rattle.at_words.specs.declared.filter.Filter.{Filter}
use Rattle.at_words.specs.declared.filter.Filter.TheVariants.{All, Queue, Numbers}
use Rattle.at_words.specs.declared.tool_request.ToolRequest.{ToolRequest}
use Rattle.at_words.specs.declared.tool_request.ToolRequest.TheVariants.{Submit, List as Listing, Remove, Show}
use Rattle.at_words.specs.declared.when.When.{When}
use Rattle.at_words.specs.declared.when.When.TheVariants.{Spec, Touch}

-- the operands with a space between each two
abbrev pub joined_operands : List Text → Text
joined_operands operands = join_by (λ operand. operand) (codes " ") operands

-- the numbers that the operands spell: at least one
abbrev pub some_numbers : List Text → Result (List ℕ) WordsFault
some_numbers [] = Err Usage
some_numbers (operand ∷ others) = or_usage (numbers_of (operand ∷ others))

-- the jobs of a letter
abbrev pub letter_filter : Text → Result Filter WordsFault
letter_filter text = or_bad_queue (option_map Queue (shown_letter text))

-- the jobs of the numbers that the operands spell, or all
abbrev pub number_filter : List Text → Result Filter WordsFault
number_filter [] = Ok All
number_filter (operand ∷ others) = on_ok Numbers (or_usage (numbers_of (operand ∷ others)))

-- the jobs that a listing is requested
abbrev pub filter_asked : Option Text → List Text → Result Filter WordsFault
filter_asked (Some text) [] = letter_filter text
filter_asked (Some text) (operand ∷ others) = Err Usage
filter_asked None operands = number_filter operands

-- the time that a submission names: the value of -t or the operands, and not both
abbrev pub when_asked : Option Text → List Text → Option When
when_asked (Some time) [] = Some (Touch time)
when_asked None (operand ∷ others) = Some (Spec (joined_operands (operand ∷ others)))
when_asked _ _ = None

-- the queue of a submission, which is `a` where none is named
abbrev pub queue_asked : Option Text → Option ℕ
queue_asked None = Some 97
queue_asked (Some text) = queue_letter text

-- a submission: its time is tried before its queue
abbrev pub submit_request : Option When → Option ℕ → Bool → Option Text → Result ToolRequest WordsFault
submit_request None queue mail file = Err Usage
submit_request (Some when) None mail file = Err BadQueue
submit_request (Some when) (Some queue) mail file = Ok (Submit queue mail file when)

-- the submission of `at`
abbrev pub submission_asked : List Row → Result ToolRequest WordsFault
submission_asked rows =
    submit_request
    (when_asked (first_of (codes "time") rows) (operands_of rows))
    (queue_asked (first_of (codes "queue") rows))
    (is_set (codes "mail") rows)
    (first_of (codes "file") rows)

-- more than one of -l, -r and -c
abbrev pub has_two_actions : List Row → Bool
has_two_actions rows =
    (is_set (codes "list") rows && is_set (codes "remove") rows)
    || (is_set (codes "list") rows && is_set (codes "show") rows)
    || (is_set (codes "remove") rows && is_set (codes "show") rows)

-- words that a submission alone takes: -m, -f and -t
abbrev pub has_submission_words : List Row → Bool
has_submission_words rows =
    is_set (codes "mail") rows || is_given (codes "file") rows || is_given (codes "time") rows

-- `at -l`
abbrev pub listing_asked : List Row → Result ToolRequest WordsFault
listing_asked rows =
    if has_submission_words rows then Err Usage
    else on_ok Listing (filter_asked (first_of (codes "queue") rows) (operands_of rows))

-- the numbers of `at -r` and of `at -c`
abbrev pub action_numbers : List Row → Result (List ℕ) WordsFault
action_numbers rows =
    if has_submission_words rows || is_given (codes "queue") rows then Err Usage
    else some_numbers (operands_of rows)

-- `at`
abbrev pub at_asked : List Row → Result ToolRequest WordsFault
at_asked rows =
    if has_two_actions rows then Err Usage
    else (if is_set (codes "list") rows then listing_asked rows
    else (if is_set (codes "remove") rows then on_ok Remove (action_numbers rows)
    else (if is_set (codes "show") rows then on_ok Show (action_numbers rows)
    else submission_asked rows)))

-- `batch`, which is `at -q b -m now`
abbrev pub batch_asked : List Row → Result ToolRequest WordsFault
batch_asked rows = Ok (Submit 98 true (first_of (codes "file") rows) (Spec (codes "now")))

-- `atq`
abbrev pub atq_asked : List Row → Result ToolRequest WordsFault
atq_asked rows = on_ok Listing (filter_asked (first_of (codes "queue") rows) [])

-- `atrm`
abbrev pub atrm_asked : List Row → Result ToolRequest WordsFault
atrm_asked rows = on_ok Remove (some_numbers (operands_of rows))
