-- Letters of queues.
use Rattle.std.specs.Prelude.{◌==◌, ◌||◌, [], ◌∷◌, ℕ, List, Option, Some, None, IsTrue, ⊤, if◌then◌else◌}
use Rattle.std.specs.Char.{is_ascii_alphabetic}
use Rattle.at_words.specs.declared.tool_request.ToolRequest.{ToolRequest}
use Rattle.at_words.specs.declared.tool_request.ToolRequest.TheVariants.{Submit}

-- the queue of one letter
abbrev pub queue_letter : List ℕ → Option ℕ
queue_letter (byte ∷ []) = if is_ascii_alphabetic byte then Some byte else None
queue_letter _ = None

-- the letter that a listing shows: that of a queue, or an equals sign for jobs that run
abbrev pub shown_letter : List ℕ → Option ℕ
shown_letter (byte ∷ []) = if is_ascii_alphabetic byte || byte == 61 then Some byte else None
shown_letter _ = None

-- the queue of a submission is a letter
abbrev pub HasQueueLetter : ToolRequest → Type 0
HasQueueLetter (Submit queue mail file when) = IsTrue (is_ascii_alphabetic queue)
HasQueueLetter _ = ⊤
