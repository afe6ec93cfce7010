-- What every store keeps, over any host (own): a sound table, and a journal that speaks of the same jobs.
use Rattle.std.specs.Prelude.{◌≡◌, ◌<◌, ◌^◌, ℕ, List, Option, Some, None, IfSome, IsTrue, true, false}
use Rattle.std.specs.Char.{is_ascii_alphabetic}
use Rattle.spool_model.specs.declared.entry.Entry.TheVariants.{Live, Done}
use Rattle.spool_model.specs.declared.job.Job.{Job}
use Rattle.spool_model.specs.declared.row.Row.{Row}
use Rattle.spool_model.specs.declared.state.State.{State}
use Rattle.spool_model.specs.declared.state.State.TheVariants.{Pending, Running}
use Rattle.spool_model.specs.JobTable.{IsSound, JobEntry, entry_at}
use Rattle.start_journal.specs.declared.mark.Mark.{Mark}
use Rattle.start_journal.specs.Journals.{are_drawn}
use Rattle.start_journal.specs.Marks.{has_mark_of, is_open, is_remembered}
use Rattle.host_calls.specs.ClockRange.{IsClockMinute, IsClockSecond}
use Rattle.step_runs.specs.Current.{Kept, is_new_form}
use Rattle.spool_model.specs.Numbers.{number_digits}

-- the queue and the minute can be in the name of a job's file
pub record CanBeNamed (queue minute : ℕ) : Type 0 where
  pub letter : IsTrue (is_ascii_alphabetic queue)
  pub in_calendar : IsClockMinute minute

-- a running job has a second of the clock's range
abbrev pub RunsSince : State → Type 0
RunsSince Pending = Unit {0}
RunsSince (Running second) = IsClockSecond second

-- the marks that tell of a live job in this state: none names one that is pending, and one that runs was
-- started and not finished
abbrev pub IsStateBy : List Mark → ℕ → State → Type 0
IsStateBy marks number Pending = has_mark_of number marks ≡ false
IsStateBy marks number (Running second) = is_open number marks ≡ true

-- a live job can have a file, and the marks say of its state
pub record IsLiveBy (marks : List Mark) (number : ℕ) (job : Job) (state : State) : Type 0 where
  pub named : CanBeNamed job.queue job.minute
  pub since : RunsSince state
  pub state_by : IsStateBy marks number state

-- the marks say of the number's entry: those of a job that is done decide it, and do not forget it
abbrev pub IsEntryBy : List Mark → ℕ → Option JobEntry → Type 0
IsEntryBy marks number None = Unit {0}
IsEntryBy marks number (Some (Live job state)) = IsLiveBy marks number job state
IsEntryBy marks number (Some (Done fate)) = is_remembered number marks ≡ true

-- each number that is kept as that of a name in the old form has as many digits as such a name has
abbrev pub AreInOldForm : List ℕ → Type 0
AreInOldForm old_form = (number : ℕ) → is_new_form old_form number ≡ false → number < 16 ^ number_digits false

-- What a store keeps, over any host: a sound table, marks of numbers that were drawn, each entry as the marks have it,
-- and numbers of names in the old form.
pub record IsStored (kept : Kept) : Type 0 where
  pub sound : IsSound kept.table
  pub drawn : IsTrue (are_drawn kept.table.last kept.journal.marks)
  pub entries : (number : ℕ) → IsEntryBy kept.journal.marks number (entry_at kept.table number)
  pub batch : IfSome kept.table.last_batch IsClockSecond
  pub old_form : AreInOldForm kept.old_form

-- the row of a live job can have a file, and a running one has a second of the clock's range
pub record IsRowInRange (row : Row) : Type 0 where
  pub named : CanBeNamed row.queue row.minute
  pub since : RunsSince row.state
