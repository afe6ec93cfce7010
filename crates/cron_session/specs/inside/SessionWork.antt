-- The work of a session within it (own).
use Rattle.std.specs.Prelude.{◌≡◌, ◌⊎◌, [], ℕ, Bool, true, false, nat_le, IsTrue, List, Option, Some, None, Result, Ok, Err, length}
use Rattle.at_words.specs.Numbers.{are_distinct}
use Rattle.host_calls.specs.declared.fault.EnterFault.{EnterFault}
use Rattle.host_calls.specs.declared.fault.EnterFault.TheVariants as entry
use Rattle.host_calls.specs.Session.{CallsInside, Session}
use Rattle.host_calls.specs.World.{World}
use Rattle.spool_model.specs.declared.job.Job.{Job}
use Rattle.spool_model.specs.JobTable.{JobTable}
use Rattle.host_calls.specs.declared.store_fault.StoreFault.{StoreFault}
use Rattle.host_calls.specs.declared.store_fault.StoreFault.TheVariants as fault
use Rattle.step_runs.specs.Current.{IsCurrent, Kept}
use Rattle.cron_session.specs.MarkNames.{mark_temp}
use Rattle.cron_session.specs.declared.report.CronEnd.{CronEnd}
use Rattle.cron_session.specs.declared.report.CronEnd.TheVariants.{Done, Busy, FileFault, Damaged, QueueFull, NumbersUsedUp, Memory}
use Rattle.cron_session.specs.SessionOutcome.{CronAt, CronLeaves, IfNoJobBegun}
use Rattle.cron_session.specs.Steps.{AreDueJobs, Cron, HasRoomFor, minute_of, next_numbers}
use Rattle.cron_session.specs.inside.MarkThenSubmit.{MarkingLeaves}
use Rattle.whole_file.specs.TempFiles.{IsDurableAt}
use Rattle.cron_session.specs.inside.Room.{IsRoomFault}
use Rattle.cron_session.specs.inside.Submissions.{IsPartOf, CronPart}

-- the end of a session by a fault
abbrev pub cron_end_by : StoreFault → CronEnd
cron_end_by fault.FileFault = FileFault
cron_end_by (fault.Damaged damage) = Damaged damage
cron_end_by fault.QueueFull = QueueFull
cron_end_by fault.NumbersUsedUp = NumbersUsedUp
cron_end_by fault.Memory = Memory

-- the end of a session, by what came of its work
abbrev pub cron_end_after : Result (Unit {0}) StoreFault → CronEnd
cron_end_after (Ok done) = Done
cron_end_after (Err fault) = cron_end_by fault

-- the end of a session, by what came of it
abbrev pub end_of_cron_session : Result (Result (Unit {0}) StoreFault) EnterFault → CronEnd
end_of_cron_session (Ok worked) = cron_end_after worked
end_of_cron_session (Err entry.Taken) = Busy
end_of_cron_session (Err entry.Failed) = FileFault
end_of_cron_session (Err entry.Memory) = Memory

-- the mark is of the minute or of a later one
abbrev pub is_since : ℕ → Option ℕ → Bool
is_since minute None = false
is_since minute (Some marked) = nat_le minute marked

-- The jobs that are due at the minute were begun, with room for them.
pub record AreSubmissionsBegun (cron : Cron) (table : JobTable) (numbers : List ℕ) (old new : World)
    (result : Result (Unit {0}) StoreFault) : Type 0 where
  pub jobs : List Job
  pub are : AreDueJobs cron jobs
  pub room : HasRoomFor table (length jobs)
  pub part : CronPart
  pub is_part : IsPartOf jobs part result
  pub written : numbers ≡ next_numbers table.last (length part.made)
  pub leaves : MarkingLeaves (minute_of cron) table jobs part old new result

-- nothing was done
pub record IsCronUntouched (numbers : List ℕ) (old new : World) : Type 0 where
  pub none : numbers ≡ []
  pub same : new ≡ old

-- Nothing was done: there is no room for the jobs that are due, or no number for each.
pub record AreJobsRefused (cron : Cron) (table : JobTable) (numbers : List ℕ) (old new : World) (of : StoreFault) : Type 0 where
  pub jobs : List Job
  pub are : AreDueJobs cron jobs
  pub because : IsRoomFault table (length jobs) of
  pub untouched : IsCronUntouched numbers old new

-- what is left of the minute, by the answer
abbrev pub DueLeaves : Cron → JobTable → List ℕ → World → World → Result (Unit {0}) StoreFault → Type 0
DueLeaves cron table numbers old new (Ok done) = AreSubmissionsBegun cron table numbers old new (Ok done)
DueLeaves cron table numbers old new (Err fault.FileFault) = AreSubmissionsBegun cron table numbers old new (Err fault.FileFault)
DueLeaves cron table numbers old new (Err fault.Memory) =
    IsCronUntouched numbers old new ⊎ AreSubmissionsBegun cron table numbers old new (Err fault.Memory)
DueLeaves cron table numbers old new (Err fault.QueueFull) = AreJobsRefused cron table numbers old new fault.QueueFull
DueLeaves cron table numbers old new (Err fault.NumbersUsedUp) = AreJobsRefused cron table numbers old new fault.NumbersUsedUp
DueLeaves cron table numbers old new (Err (fault.Damaged damage)) = ⊥

-- The jobs that are due at the minute of a session whose mark isn't there yet: what came of them.
pub record SubmitsDue (tells : Bool) (before after : Session) (old new : World) (kept : Kept) (cron : Cron) (numbers : List ℕ)
    (result : Result (Unit {0}) StoreFault) : Type 0 where
  pub inside : CallsInside fault.FileFault before after result
  pub unread : IfNoJobBegun (cron_end_after result) (numbers ≡ [])
  pub distinct : IsTrue (are_distinct numbers)
  pub leaves : tells ≡ true → (table : JobTable) → IsCurrent kept old.now.directory table → IsDurableAt mark_temp old.now.directory →
      DueLeaves cron table numbers old new result

-- The work of a session: a recovery, the mark, and the jobs that are due.
pub record CronWorks (tells : Bool) (cron : Cron) (old new : CronAt) (numbers : List ℕ)
    (result : Result (Unit {0}) StoreFault) : Type 0
  where
    pub inside : CallsInside fault.FileFault old.session new.session result
    pub unread : IfNoJobBegun (cron_end_after result) (numbers ≡ [])
    pub distinct : IsTrue (are_distinct numbers)
    pub leaves : tells ≡ true → CronLeaves cron numbers old.world new.world (cron_end_after result)
