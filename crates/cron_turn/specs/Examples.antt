-- Rests after sessions, written down (own).
use Rattle.std.specs.Prelude.{◌≡◌, ℤ, pos}
use Rattle.cron_session.specs.declared.report.CronEnd.TheVariants.{Done, Busy, FileFault, QueueFull, NumbersUsedUp, Memory}
use Rattle.cron_turn.specs.Items.{rest_after_session}

-- Fri Jan 24 2025 08:30:00 UTC, and 13 seconds later
abbrev pub full_minute : ℤ
full_minute = pos 1737707400

abbrev pub seconds_later : ℤ
seconds_later = pos 1737707413

-- After a session that was done it rests until the next full minute; after another one, for a second.
pub record SmallRests : Type 0 where
  pub done_at_a_minute : rest_after_session Done full_minute ≡ 60
  pub done_within_one : rest_after_session Done seconds_later ≡ 47
  pub busy : rest_after_session Busy seconds_later ≡ 1
  pub file_fault : rest_after_session FileFault seconds_later ≡ 1
  pub queue_full : rest_after_session QueueFull seconds_later ≡ 1
  pub used_up : rest_after_session NumbersUsedUp seconds_later ≡ 1
  pub memory : rest_after_session Memory seconds_later ≡ 1
