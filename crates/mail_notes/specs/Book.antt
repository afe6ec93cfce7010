-- What notes say of a job (own).
use Rattle.std.specs.Prelude.{◌≡◌, ◌<◌, ℕ, Bool, true, false, List, Option, Some, None, AllPairs, Contains, map}
use Rattle.std.specs.BTreeMap as tree
use Rattle.std.specs.BTreeMap.{BTreeMap}
use Rattle.std.specs.Ordering.{nat_cmp}
use Rattle.mail_notes.specs.declared.notice_states.NoticeStates.{NoticeStates}
use Rattle.mail_notes.specs.declared.notice_states.NoticeState.{NoticeState}
use Rattle.mail_notes.specs.declared.notice_states.NoticeState.TheVariants.{Closed, Waits}
use Rattle.mail_notes.specs.declared.note.Note.{Note}
use Rattle.mail_notes.specs.declared.note.Note.TheVariants.{Dropped, Noted, Sent}
use Rattle.mail_notes.specs.declared.note.NotedJob.{NotedJob}
use Rattle.mail_notes.specs.Notes.{has_closing_note, has_note_of, is_noted, awaits_notice}

-- the job was noted so, and its notice was neither sent nor dropped
pub record IsWaiting (notes : List Note) (number : ℕ) (job : NotedJob) : Type 0 where
  pub number_is : job.number ≡ number
  pub noted : Contains notes (Noted job)
  pub is_noted : is_noted number notes ≡ true
  pub open_yet : has_closing_note number notes ≡ false

-- the job was noted, and its notice was sent or dropped
pub record IsClosed (notes : List Note) (number : ℕ) : Type 0 where
  pub is_noted : is_noted number notes ≡ true
  pub closed : has_closing_note number notes ≡ true

-- the notes say this of the number, or none is of it
abbrev pub IsNoticeStateAt : List Note → ℕ → Option NoticeState → Type 0
IsNoticeStateAt notes number None = has_note_of number notes ≡ false
IsNoticeStateAt notes number (Some (Waits job)) = IsWaiting notes number job
IsNoticeStateAt notes number (Some Closed) = IsClosed notes number

-- the map has what the notes say of each number
abbrev pub AreNoticeStates : List Note → BTreeMap ℕ NoticeState → Type 0
AreNoticeStates notes states = (number : ℕ) → IsNoticeStateAt notes number (tree.get nat_cmp states number)

-- the book is that of the notes
abbrev pub AreStatesOfNotes : List Note → NoticeStates → Type 0
AreStatesOfNotes notes notice_states = AreNoticeStates notes notice_states.states

-- the note may come where its job is in this state
abbrev pub note_may_follow : Option NoticeState → Note → Bool
note_may_follow None (Noted job) = true
note_may_follow None (Sent number) = false
note_may_follow None (Dropped number) = false
note_may_follow (Some (Waits waiting)) (Noted job) = false
note_may_follow (Some (Waits waiting)) (Sent number) = true
note_may_follow (Some (Waits waiting)) (Dropped number) = true
note_may_follow (Some Closed) note = false

-- the state of the job after the note, where that may come
abbrev pub notice_state_after : Note → NoticeState
notice_state_after (Noted job) = Waits job
notice_state_after (Sent number) = Closed
notice_state_after (Dropped number) = Closed

-- the job of a standing, where it waits
abbrev pub waiting_job : NoticeState → Option NotedJob
waiting_job (Waits job) = Some job
waiting_job Closed = None

-- these jobs wait for their notices after the notes, and no others, and their numbers rise
pub record AreAwaitingNotice (notes : List Note) (jobs : List NotedJob) : Type 0 where
  pub each : (job : NotedJob) → Contains jobs job → IsWaiting notes job.number job
  pub all : (number : ℕ) → awaits_notice number notes ≡ true → Contains (map (λ job. job.number) jobs) number
  pub rise : AllPairs (λ one other. one.number < other.number) jobs
