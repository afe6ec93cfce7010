-- The queue of a submission is a letter.
use Rattle.std.proofs.Common.{◌≡◌, [], ◌∷◌, ℕ, Bool, true, false, List, Option, Some, None, Result, Ok, Err, refl, sym, subst, codes}
use Rattle.std.specs.Prelude.{IfOk, option_map, if◌then◌else◌}
use Rattle.std.specs.Char.{is_ascii_alphabetic}
use Rattle.clap.specs.Faults.{fault_of}
use Rattle.clap.specs.Kinds.{Kinds}
use Rattle.clap.specs.Simple.{App, matches_of}
use Rattle.clap.specs.Walk.{Row, Text, first_of}
use Rattle.at_words.specs.Answers.{Answers, asked_of, if_taken, on_ok, or_usage}
use Rattle.at_words.specs.Commands.{at_app, batch_app, atq_app, atrm_app, atd_app, atday_app}
use Rattle.at_words.specs.Asked.{action_numbers, at_asked, atq_asked, atrm_asked, batch_asked, filter_asked, has_submission_words, has_two_actions, listing_asked, queue_asked, some_numbers, submission_asked, submit_request, when_asked}
use Rattle.at_words.specs.Daemons.{atd_asked, atday_asked, daemon_request, interval_asked, limit_asked, make_asked, turns_asked}
use Rattle.at_words.specs.Queues.{HasQueueLetter}
use Rattle.at_words.specs.Requests.{request_to}
use Rattle.at_words.specs.Rows.{is_set, operands_of}
use Rattle.at_words.specs.declared.fault.WordsFault.{WordsFault}
use Rattle.at_words.specs.declared.fault.WordsFault.TheVariants.{Usage}
use Rattle.at_words.specs.declared.filter.Filter.{Filter}
use Rattle.at_words.specs.declared.tool.Tool.{Tool}
use Rattle.at_words.specs.declared.tool.Tool.TheVariants.{At, Batch, Atq, Atrm, Atd, Atday}
use Rattle.at_words.specs.declared.tool_request.ToolRequest.{ToolRequest}
use Rattle.at_words.specs.declared.tool_request.ToolRequest.TheVariants.{List as Listing, Remove, Show, Make}
use Rattle.at_words.specs.declared.when.When.{When}

-- whatever is requested, the queue of a submission is a letter
abbrev AsksByLetter : Result ToolRequest WordsFault → Type 0
AsksByLetter asked = IfOk asked HasQueueLetter

by_test : (test : Bool) (one other : Result ToolRequest WordsFault) → AsksByLetter one → AsksByLetter other
    → AsksByLetter (if test then one else other)
by_test true one other first second = first
by_test false one other first second = second

-- a listing, a removal and a showing are no submission
listings : (asked : Result Filter WordsFault) → AsksByLetter (on_ok Listing asked)
listings (Ok filter) = tt
listings (Err fault) = tt

removals : (asked : Result (List ℕ) WordsFault) → AsksByLetter (on_ok Remove asked)
removals (Ok numbers) = tt
removals (Err fault) = tt

showings : (asked : Result (List ℕ) WordsFault) → AsksByLetter (on_ok Show asked)
showings (Ok numbers) = tt
showings (Err fault) = tt

-- a queue that is requested is a letter
abbrev IsLetter : Option ℕ → Type 0
IsLetter None = Unit {0}
IsLetter (Some queue) = is_ascii_alphabetic queue ≡ true

letter_by : (test : Bool) (byte : ℕ) → is_ascii_alphabetic byte ≡ test → IsLetter (if test then Some byte else None)
letter_by true byte is = is
letter_by false byte is = tt

asked_letter : (value : Option Text) → IsLetter (queue_asked value)
asked_letter None = refl
asked_letter (Some []) = tt
asked_letter (Some (byte ∷ [])) = letter_by (is_ascii_alphabetic byte) byte refl
asked_letter (Some (byte ∷ other ∷ others)) = tt

submissions : (when : Option When) (queue : Option ℕ) (mail : Bool) (file : Option Text) → IsLetter queue
    → AsksByLetter (submit_request when queue mail file)
submissions None queue mail file letter = tt
submissions (Some when) None mail file letter = tt
submissions (Some when) (Some queue) mail file letter = letter

daemons : (limit interval : Option ℕ) (once : Bool) (turns : Option ℕ) → AsksByLetter (daemon_request limit interval once turns)
daemons None interval once turns = tt
daemons (Some limit) None once turns = tt
daemons (Some limit) (Some interval) once None = tt
daemons (Some limit) (Some interval) once (Some turns) = tt

makes : (events : Option ℕ) → AsksByLetter (or_usage (option_map Make events))
makes None = tt
makes (Some events) = tt

-- each tool's words
at_letters : (rows : List Row) → AsksByLetter (at_asked rows)
at_letters rows =
    let listing =
    by_test (has_submission_words rows) (Err Usage) _ tt (listings (filter_asked (first_of (codes "queue") rows) (operands_of rows))) in
    let submission =
    submissions (when_asked (first_of (codes "time") rows) (operands_of rows)) (queue_asked (first_of (codes "queue") rows))
    (is_set (codes "mail") rows)
    (first_of (codes "file") rows) (asked_letter (first_of (codes "queue") rows)) in
    by_test (has_two_actions rows) (Err Usage) _ tt
    (by_test (is_set (codes "list") rows) (listing_asked rows) _ listing
    (by_test (is_set (codes "remove") rows) (on_ok Remove (action_numbers rows)) _ (removals (action_numbers rows))
    (by_test (is_set (codes "show") rows) (on_ok Show (action_numbers rows)) (submission_asked rows)
    (showings (action_numbers rows)) submission)))

atd_letters : (rows : List Row) → AsksByLetter (atd_asked rows)
atd_letters rows =
    daemons (limit_asked (first_of (codes "limit") rows)) (interval_asked (first_of (codes "interval") rows)) (is_set (codes "once") rows)
    (turns_asked (first_of (codes "turns") rows))

-- the words are taken or not
taken : (kinds : Kinds) (asked : Result ToolRequest WordsFault) → AsksByLetter asked → AsksByLetter (if_taken kinds asked)
taken [] asked letter = letter
taken (kind ∷ kinds) asked letter = tt

by_command : (app : App) (asked : List Row → Result ToolRequest WordsFault) (words : List Text)
    → ((rows : List Row) → AsksByLetter (asked rows)) → AsksByLetter (asked_of app asked words)
by_command app asked words each = taken (fault_of app words) (asked (matches_of app words)) (each (matches_of app words))

by_tool : (tool : Tool) (words : List Text) → AsksByLetter (request_to tool words)
unfolding request_to
by_tool At words = by_command at_app at_asked words at_letters
by_tool Batch words = by_command batch_app batch_asked words (λ rows. refl)
by_tool Atq words = by_command atq_app atq_asked words (λ rows. listings (filter_asked (first_of (codes "queue") rows) []))
by_tool Atrm words = by_command atrm_app atrm_asked words (λ rows. removals (some_numbers (operands_of rows)))
by_tool Atd words = by_command atd_app atd_asked words atd_letters
by_tool Atday words = by_command atday_app atday_asked words (λ rows. makes (make_asked (first_of (codes "make") rows)))

-- so it is in whatever answers a tool's words
pub answers_by_letter : (tool : Tool) (words : List Text) (result : Result ToolRequest WordsFault) → Answers (request_to tool words) result
    → IfOk result HasQueueLetter
answers_by_letter tool words (Ok request) same = subst AsksByLetter (sym same) (by_tool tool words)
answers_by_letter tool words (Err fault) same = tt
