-- What an event does, whatever it is of.
use Rattle.std.proofs.Common.{refl}
use Rattle.at_day.proofs.EffectLemmas.{EventEffects, happens_takes_effect}
use Rattle.at_day.specs.EventOutcomes.{EventOutcome, IsDoneOn}
use Rattle.cron_session.specs.Steps.{Cron as CronOf}
use Rattle.at_day.specs.declared.event.Event.{Event}
use Rattle.at_day.specs.declared.events_report.EventReport.{EventReport}
use Rattle.cron_session.specs.declared.report.CronReport.{CronReport}
use Rattle.mail_session.specs.declared.report.PostReport.{PostReport}
use Rattle.later_day.specs.LaterEffects.{Beside, LaterEffect, OfTable, TakesLaterEffect}
use Rattle.later_day.specs.declared.entry.LaterEntry.{LaterEntry}
use Rattle.later_day.specs.declared.entry.LaterEntry.TheVariants as known
use Rattle.later_day.specs.declared.later.Later.{Later}
use Rattle.later_day.specs.declared.later.Later.TheVariants.{Day, Post, Cron}
use Rattle.later_day.specs.SessionsPass.{PassesCron, PassesMail}
use Rattle.later_day.proofs.CronLemmas.{cron_sessions_pass}
use Rattle.later_day.proofs.MailLemmas.{mail_sessions_pass}
use Rattle.later_day.specs.LaterEventEffects.{HappensOnDay, IsSessionOfMail, IsSessionOfCron, LaterHappens, cron_of_event}
use Rattle.later_day.specs.LaterMachines.{LaterMachine, later_spool, post_at}
use Rattle.later_day.specs.LaterOutcomes.{IsLaterEffect}
use Rattle.later_day.proofs.OutcomeLemmas.{day_outcomes_pass}

-- an effect by the steps of the event, which leads from one machine to the other
abbrev pub LaterEffects : Later → LaterEntry → LaterMachine → LaterMachine → Type 0
LaterEffects event entry old new =
    (effect : LaterEffect) × IsLaterEffect event entry old effect × TakesLaterEffect effect (later_spool old) (later_spool new)

day_effect : (event : Event) (report : EventReport) (old new : LaterMachine) → HappensOnDay event report old new →
    LaterEffects (Day event) (known.Day report) old new
day_effect event report old new happened =
    let found : EventEffects event report old.at new.at = happens_takes_effect event report old.at new.at happened.happens in
    let outcome : EventOutcome = record { event = event; report = report; effect = found.0; left = new.at } in
    let done : IsDoneOn old.at outcome = record { happens = happened.happens; by_its_steps = found.1; moved = found.2 } in
    (OfTable found.0, found.1, (day_outcomes_pass old.at outcome done).later)

mail_effect : (report : PostReport) (old new : LaterMachine) → IsSessionOfMail report old new
    → LaterEffects Post (known.Post report) old new
mail_effect report old new posted =
    let passes : PassesMail (later_spool old) (later_spool new) =
    mail_sessions_pass (post_at old) (post_at new) report.end report.sent posted.posts in
    (Beside, refl, passes.later)

cron_effect : (cron : CronOf) (report : CronReport) (old new : LaterMachine) → IsSessionOfCron cron report old new →
    PassesCron cron report.end report.numbers (later_spool old) (later_spool new)
cron_effect cron report old new submitted =
    cron_sessions_pass cron (later_spool old) (later_spool new) report.end report.numbers (submitted.crons.leaves refl refl)

pub later_happens_takes_effect : (event : Later) (entry : LaterEntry) (old new : LaterMachine) → LaterHappens event entry old new →
    LaterEffects event entry old new
later_happens_takes_effect (Day event) (known.Day report) old new happened = day_effect event report old new happened
later_happens_takes_effect Post (known.Post report) old new posted = mail_effect report old new posted
later_happens_takes_effect (Cron context zone entries now) (known.Cron report) old new submitted =
    let passes = cron_effect (cron_of_event context zone entries now) report old new submitted in
    (OfTable passes.effect, passes.by_its_steps, passes.later)
later_happens_takes_effect (Day event) (known.Post report) old new happened = absurd happened
later_happens_takes_effect (Day event) (known.Cron report) old new happened = absurd happened
later_happens_takes_effect Post (known.Day report) old new happened = absurd happened
later_happens_takes_effect Post (known.Cron report) old new happened = absurd happened
later_happens_takes_effect (Cron context zone entries now) (known.Day report) old new happened = absurd happened
later_happens_takes_effect (Cron context zone entries now) (known.Post report) old new happened = absurd happened
