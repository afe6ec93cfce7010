-- What happens on a machine where mail is sent too, and a crontab kept, and what it reports (own).
use Rattle.std.specs.Prelude.{◌≡◌, ◌≤◌, ◌<◌, ◌⊎◌, ℤ, true, List, None, All, length}
use Rattle.civil_minute.specs.declared.zone.Zone.{Zone}
use Rattle.civil_minute.specs.Zone.{IsReadable}
use Rattle.host_calls.specs.ClockRange.{IsClockSecond}
use Rattle.cron_session.specs.declared.report.CronReport.{CronReport}
use Rattle.cron_session.specs.SessionOutcome.{CronsTo}
use Rattle.cron_session.specs.Steps.{Cron as CronOf}
use Rattle.cron_text.specs.declared.crontab.TheConstants.{MAX_CRONTAB}
use Rattle.cron_text.specs.declared.entry.CronEntry.{CronEntry}
use Rattle.at_day.specs.EventsDays.{is_day_event}
use Rattle.at_day.specs.declared.event.Event.{Event}
use Rattle.at_day.specs.declared.event.Event.TheVariants.{Command, Turn, Reboot}
use Rattle.at_day.specs.declared.events_report.EventReport.{EventReport}
use Rattle.job_script.specs.Check.{first_fault}
use Rattle.job_script.specs.declared.context.Context.{Context}
use Rattle.mail_session.specs.declared.report.PostReport.{PostReport}
use Rattle.mail_session.specs.SessionOutcome.{PostsTo}
use Rattle.mail_session.specs.PostState.{PostState, new_post}
use Rattle.memory_host.specs.Host.{IsUnchanged}
use Rattle.memory_host.specs.declared.memory_host.MemoryHost.{MemoryHost}
use Rattle.at_day.specs.EventEffects.{Happens}
use Rattle.later_day.specs.declared.entry.LaterEntry.{LaterEntry}
use Rattle.later_day.specs.declared.entry.LaterEntry.TheVariants as known
use Rattle.later_day.specs.declared.later.Later.{Later}
use Rattle.later_day.specs.declared.later.Later.TheVariants.{Day, Post, Cron}
use Rattle.later_day.specs.LaterMachines.{LaterMachine, cron_at, post_at}

-- the session of a crontab that an event is
abbrev pub cron_of_event : Context → Zone → List CronEntry → ℤ → CronOf
cron_of_event context zone entries now = record { context = context; zone = zone; entries = entries; now = now }

-- A session of a crontab may be made: its jobs have a right header, its zone can be read, its second lies in the clock's
-- range, and the command of each entry is one of a crontab.
pub record IsCronEvent (cron : CronOf) : Type 0 where
  pub context : first_fault cron.context ≡ None
  pub umask : cron.context.umask < 512
  pub zone : IsReadable cron.zone
  pub now : IsClockSecond cron.now
  pub commands : All (λ entry. length entry.command ≤ MAX_CRONTAB) cron.entries

-- the event may come
abbrev pub IsLaterEvent : Later → Type 0
IsLaterEvent (Day event) = is_day_event event ≡ true
IsLaterEvent Post = Unit {0}
IsLaterEvent (Cron context zone entries now) = IsCronEvent (cron_of_event context zone entries now)

-- the post after an event of a day: it is made anew where the machine comes up again, and else it stays
abbrev pub IsPostAfter : Event → PostState → PostState → Type 0
IsPostAfter (Command words caller input now) old new = new ≡ old
IsPostAfter (Turn now load) old new = new ≡ old
IsPostAfter (Reboot pick fuse) old new = new ≡ new_post old.program

-- An event of a day happened, and this is its report.
pub record HappensOnDay (event : Event) (report : EventReport) (old new : LaterMachine) : Type 0 where
  pub happens : Happens event report old.at new.at
  pub post : IsPostAfter event old.post new.post

-- A session of mail was made, with the children that the post had; the daemon is as it was.
pub record IsSessionOfMail (report : PostReport) (old new : LaterMachine) : Type 0 where
  pub posts : PostsTo true true (post_at old) (post_at new) report.end report.sent
  pub daemon : new.at.daemon ≡ old.at.daemon

-- A session of a crontab was made; the daemon and the post are as they were.
pub record IsSessionOfCron (cron : CronOf) (report : CronReport) (old new : LaterMachine) : Type 0 where
  pub crons : CronsTo true true cron (cron_at old) (cron_at new) report.end report.numbers
  pub daemon : new.at.daemon ≡ old.at.daemon
  pub post : new.post ≡ old.post

-- the event happened, and this is its entry
abbrev pub LaterHappens : Later → LaterEntry → LaterMachine → LaterMachine → Type 0
LaterHappens (Day event) (known.Day report) old new = HappensOnDay event report old new
LaterHappens Post (known.Post report) old new = IsSessionOfMail report old new
LaterHappens (Cron context zone entries now) (known.Cron report) old new =
    IsSessionOfCron (cron_of_event context zone entries now) report old new
LaterHappens _ _ old new = ⊥

-- Memory ran out for an event of a day or its report: the host is as it was, or as the event left it.
abbrev pub IsUnreportedOnDay : Event → LaterMachine → MemoryHost → Type 0
IsUnreportedOnDay event old left =
    IsUnchanged old.at.host left
    ⊎ ((report : EventReport) × (after : LaterMachine) × HappensOnDay event report old after × (after.at.host ≡ left))

-- so of the event; a session reports it itself
abbrev pub IsLaterUnreported : Later → LaterMachine → MemoryHost → Type 0
IsLaterUnreported (Day event) old left = IsUnreportedOnDay event old left
IsLaterUnreported _ old left = ⊥
