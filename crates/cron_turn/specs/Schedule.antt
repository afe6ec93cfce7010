-- When an entry of a crontab is due next (own).
use Rattle.std.specs.Prelude.{◌≡◌, ◌⊎◌, ◌≤◌, ◌<◌, ◌+◌, ◌-◌, ◌*◌, ℕ, pos, List, All, AllPairs, Contains, IsTrue, length, nat_lt, if◌then◌else◌}
use Rattle.host_calls.specs.declared.clock_seconds.TheConstants.{LAST_MINUTE}
use Rattle.civil_minute.specs.Civil.{IsCivilTime}
use Rattle.civil_minute.specs.declared.civil.CivilMinute.{CivilMinute}
use Rattle.civil_minute.specs.declared.zone.Zone.{Zone}
use Rattle.cron_text.specs.declared.entry.CronEntry.{CronEntry}
use Rattle.cron_minutes.specs.Due.{is_entry_due}
use Rattle.cron_turn.specs.declared.next.TheConstants.{SEARCHED_MINUTES}

-- the entry is due at the minute, by what a clock in the zone shows then
pub record IsDueAt (zone : Zone) (entry : CronEntry) (minute : ℕ) : Type 0 where
  pub civil : CivilMinute
  pub shown : IsCivilTime zone (pos (60 * minute)) civil
  pub due : IsTrue (is_entry_due entry civil)

-- from one minute up to another the entry is not due
abbrev pub IsNotDueWithin : Zone → CronEntry → ℕ → ℕ → Type 0
IsNotDueWithin zone entry from end = (minute : ℕ) → from ≤ minute → minute < end → ¬ (IsDueAt zone entry minute)

-- the minute is one from the first up to the end at which the entry is due
pub record IsDueWithin (zone : Zone) (entry : CronEntry) (from end minute : ℕ) : Type 0 where
  pub late : from ≤ minute
  pub early : minute < end
  pub due : IsDueAt zone entry minute

-- the minutes are all of these, in order
pub record AreDueWithin (zone : Zone) (entry : CronEntry) (from end : ℕ) (minutes : List ℕ) : Type 0 where
  pub ascending : AllPairs (λ first second. first < second) minutes
  pub due : All (IsDueWithin zone entry from end) minutes
  pub all : (minute : ℕ) → IsDueWithin zone entry from end minute → Contains minutes minute

-- the minute before which the search from this one on ends: at the end of the searched minutes, or of the clock's range
abbrev pub end_of_search : ℕ → ℕ
end_of_search from =
    if nat_lt (LAST_MINUTE - SEARCHED_MINUTES) from then LAST_MINUTE + 1 else from + SEARCHED_MINUTES

-- The minutes are the next ones from a minute on at which the entry is due: all of those up to some minute, and so many,
-- or fewer where the search ended.
pub record AreNextDue (zone : Zone) (entry : CronEntry) (from count : ℕ) (minutes : List ℕ) : Type 0 where
  pub end : ℕ
  pub within : end ≤ end_of_search from
  pub are : AreDueWithin zone entry from end minutes
  pub few : length minutes ≤ count
  pub enough : (length minutes ≡ count) ⊎ (end ≡ end_of_search from)
