-- The line of a job as a JSON object, keys sorted (RFC 8259, sections 4, 6 and 7).
use Rattle.std.specs.Prelude.{◌≡◌, ◌==◌, ◌&&◌, ℕ, Bool, true, not, List, ◌∷◌, ◌++◌, codes, nat_le}
use Rattle.std.specs.List.{list_all}
use Rattle.std.specs.Fmt.{decimal}
use Rattle.host_calls.specs.declared.child.Ending.TheVariants.{Exit, Signal, NotStarted}
use Rattle.spool_model.specs.declared.fate.Fate.{Fate}
use Rattle.spool_model.specs.declared.fate.Fate.TheVariants.{Removed, Finished, Interrupted}
use Rattle.spool_model.specs.declared.row.Row.{Row}
use Rattle.spool_model.specs.JobTable.{JobState}
use Rattle.at_stat.specs.Lines.{state_word}

-- the member of the number
abbrev pub job_member : ℕ → List ℕ
job_member number = codes "\"job\":" ++ decimal number

-- the members of a live job's queue, its state, and its user, which ends the line
abbrev pub queue_member : ℕ → List ℕ
queue_member queue = codes ",\"queue\":\"" ++ queue ∷ codes "\""

abbrev pub state_member : JobState → List ℕ
state_member state = codes ",\"state\":\"" ++ state_word state ++ codes "\""

abbrev pub user_member : List ℕ → List ℕ
user_member user = codes ",\"user\":\"" ++ user ++ codes "\"}\n"

abbrev pub owner_members : Row → List ℕ
owner_members row = queue_member row.queue ++ state_member row.state ++ user_member row.user

-- the object of a live job
abbrev pub live_object : Row → List ℕ → List ℕ
live_object row date = codes "{\"date\":\"" ++ date ++ codes "\"," ++ job_member row.number ++ owner_members row

-- the object of a job of which there is a word alone
abbrev pub word_object : ℕ → List ℕ → List ℕ
word_object number word = codes "{" ++ job_member number ++ codes ",\"state\":\"" ++ word ++ codes "\"}\n"

-- the object of a job that is done
abbrev pub fate_object : ℕ → Fate → List ℕ
fate_object number Removed = word_object number (codes "removed")
fate_object number (Finished (Exit code)) =
    codes "{\"code\":" ++ decimal code ++ codes "," ++ job_member number ++ codes ",\"state\":\"exit\"}\n"
fate_object number (Finished (Signal signal)) =
    codes "{" ++ job_member number ++ codes ",\"signal\":" ++ decimal signal ++ codes ",\"state\":\"signal\"}\n"
fate_object number (Finished NotStarted) = word_object number (codes "not started")
fate_object number Interrupted = word_object number (codes "interrupted")

-- a byte that stands for itself in a string: a printable ASCII character, and neither a quotation mark nor a backslash
abbrev pub is_plain : ℕ → Bool
is_plain byte = nat_le 32 byte && nat_le byte 126 && not (byte == 34) && not (byte == 92)

abbrev pub are_plain : List ℕ → Bool
are_plain bytes = list_all is_plain bytes

-- no string of the object of a live job needs an escape
pub record NeedsNoEscape (row : Row) (date : List ℕ) : Type 0 where
  pub date_is : are_plain date ≡ true
  pub queue_is : is_plain row.queue ≡ true
  pub state_is : are_plain (state_word row.state) ≡ true
  pub user_is : are_plain row.user ≡ true
