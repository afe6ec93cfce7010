-- What a directory came to, call after call.
use Rattle.std.specs.Prelude.{◌+◌, ◌++◌, [], ◌∷◌, ℕ, Bool, List}
use Rattle.std.specs.FinMap as map
use Rattle.host_calls.specs.declared.child.Handed.{Handed}
use Rattle.host_calls.specs.Directory.{Directory, Renamed, Removed, with_file, with_changed, with_change, with_names_durable, settled, written_body, durable_body}
use Rattle.host_calls.specs.World.{Moment}
use Rattle.memory_host.specs.Crash.{no_body, rebooted}
use Rattle.memory_host.specs.declared.past_call.PastCall.{PastCall}
use Rattle.memory_host.specs.declared.past_call.PastCall.TheVariants as past

-- the directory, the number of the next body, and all scripts that were started
pub record State : Type 0 where
  pub directory : Directory
  pub next : ℕ
  pub handed : List Handed

-- the same with another directory
abbrev pub with_directory : Directory → State → State
with_directory directory at = record { directory = directory; next = at.next; handed = at.handed }

-- the state after a file was made, under the next number
abbrev pub with_new_file : List ℕ → List ℕ → State → State
with_new_file name bytes at = record { directory = with_file name at.next bytes at.directory; next = at.next + 1; handed = at.handed }

-- the state after a script was started
abbrev pub with_handed : ℕ → ℕ → ℕ → Bool → State → State
with_handed number body nice started at =
    record {
      directory = at.directory;
      next = at.next;
      handed = at.handed ++ record { number = number; script = (at.directory.body body).bytes; nice = nice; started = started } ∷ [];
    }

-- the state after a call
abbrev pub after_call : PastCall → State → State
after_call (past.Made name bytes) at = with_new_file name bytes at
after_call (past.Written number offset bytes) at = with_directory (with_changed number (written_body offset bytes) at.directory) at
after_call (past.Synced number) at = with_directory (with_changed number durable_body at.directory) at
after_call past.NamesSynced at = with_directory (with_names_durable at.directory) at
after_call past.Settled at = with_directory (settled at.directory) at
after_call (past.Renamed from to) at = with_directory (with_change (Renamed from to) at.directory) at
after_call (past.Removed name) at = with_directory (with_change (Removed name) at.directory) at
after_call (past.HandedOver number body nice started) at = with_handed number body nice started at
after_call (past.Rebooted pick) at = with_directory (rebooted pick at.directory) at

-- the state now, and the moments before it, the newest first
pub record History : Type 0 where
  pub now : State
  pub before : List Moment

-- the moment at which it is
abbrev pub moment_of : State → Moment
moment_of at = record { directory = at.directory; handed = at.handed }

-- the history with one more call
abbrev pub with_call : PastCall → History → History
with_call call past = record { now = after_call call past.now; before = moment_of past.now ∷ past.before }

-- the history after all of the calls, the oldest first
abbrev pub with_calls : List PastCall → History → History
with_calls [] past = past
with_calls (call ∷ later) past = with_calls later (with_call call past)

-- a directory without a file
abbrev pub nothing : State
nothing = record { directory = record { durable = map.empty; pending = []; body = λ _. no_body }; next = 0; handed = [] }

-- the state after these files were made
abbrev pub with_files : List (List ℕ × List ℕ) → State → State
with_files [] at = at
with_files (file ∷ others) at = with_files others (with_new_file file.0 file.1 at)

-- the history of a directory with these files, all of them durable
abbrev pub opened : List (List ℕ × List ℕ) → History
opened files = record { now = with_directory (settled (with_files files nothing).directory) (with_files files nothing); before = [] }

-- the files at first, and each call that changed something, in order
pub record CallLog : Type 0 where
  pub opening : List (List ℕ × List ℕ)
  pub calls : List PastCall

-- what the story came to
unfoldable pub history_of : CallLog → History
history_of story = with_calls story.calls (opened story.opening)
