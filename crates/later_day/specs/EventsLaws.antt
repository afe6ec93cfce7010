-- What holds of sessions of mail and of crontabs among the events of a day.
use Rattle.std.specs.Prelude.{ℕ, List, true}
use Rattle.host_calls.specs.World.{World}
use Rattle.host_calls.specs.declared.turn_end.TurnEnd.{TurnEnd}
use Rattle.mail_session.specs.SessionOutcome.{PostSpool, PostsTo}
use Rattle.cron_session.specs.declared.report.CronEnd.{CronEnd}
use Rattle.cron_session.specs.SessionOutcome.{CronLeaves}
use Rattle.cron_session.specs.Steps.{Cron}
use Rattle.later_day.specs.LaterEffects.{LeavesTheRest}
use Rattle.later_day.specs.SessionsPass.{PassesBeside, PassesCron, PassesMail}

-- each session of mail, over a host that exposes its files and is alone
abbrev pub MailSessionsPass : Type 0
MailSessionsPass = (old new : PostSpool) (end : TurnEnd) (sent : List ℕ) → PostsTo true true old new end sent →
    PassesMail old.world new.world

-- each session of a crontab
abbrev pub CronSessionsPass : Type 0
CronSessionsPass = (cron : Cron) (old new : World) (end : CronEnd) (numbers : List ℕ) → CronLeaves cron numbers old new end →
    PassesCron cron end numbers old new

-- and whatever leaves alone all files but the store's
abbrev pub BesideTheStorePass : Type 0
BesideTheStorePass = (old new : World) → LeavesTheRest old new → PassesBeside old new
