-- Outcomes one after another keep the promise.
use Rattle.std.proofs.Common.{ℕ, List, [], ◌∷◌, map, refl}
use Rattle.host_calls.specs.World.{World}
use Rattle.at_day.specs.declared.event.Event.{Event}
use Rattle.at_day.specs.declared.events_report.EventReport.{EventReport}
use Rattle.later_day.specs.LaterEffects.{LaterPassFrom, LeavesTheRest}
use Rattle.later_day.proofs.LaterLemmas.{later_events_hand_once}
use Rattle.at_mail.specs.Once.{MailEvent, MailEvents, a_session, another, next_event, no_event}
use Rattle.at_mail.proofs.OnceLemmas.{notices_are_handed_once}
use Rattle.cron_session.specs.Minutes.{AcceptApart, Beside, CronEvent, CronPassFrom, CronPassed, Ended, MayAcceptAt, NoneAcceptsAt, PassesAs}
use Rattle.cron_session.proofs.MinuteLemmas.{no_minute_comes_twice}
use Rattle.later_day.specs.SessionsPass.{PassesBeside}
use Rattle.later_day.proofs.CronLemmas.{cron_sessions_pass}
use Rattle.later_day.proofs.MailLemmas.{mail_sessions_pass}
use Rattle.later_day.proofs.RestLemmas.{beside_the_store_pass}
use Rattle.at_day.specs.EventEffects.{Happens}
use Rattle.at_day.specs.Machines.{Machine, spool_of}
use Rattle.at_day.proofs.EffectLemmas.{happens_takes_effect}
use Rattle.later_day.specs.declared.entry.LaterEntry.{LaterEntry}
use Rattle.later_day.specs.declared.entry.LaterEntry.TheVariants as known
use Rattle.later_day.specs.declared.later.Later.{Later}
use Rattle.later_day.specs.declared.later.Later.TheVariants.{Day, Post, Cron}
use Rattle.later_day.specs.LaterEventEffects.{IsLaterEvent, LaterHappens, cron_of_event}
use Rattle.later_day.specs.LaterMachines.{LaterMachine, later_spool, post_at}
use Rattle.later_day.specs.LaterOutcomes.{AreLaterDoneOn, LaterOutcome, later_machine_after, later_passed_of}
use Rattle.later_day.specs.LaterPromise.{HasAcceptedAt, HaveAcceptedApart, NoneHasAcceptedAt}
use Rattle.later_day.specs.Laws.{LaterOutcomesKeepTheirPromise}
use Rattle.later_day.proofs.OutcomeLemmas.{day_outcomes_pass}

-- The headline.

later_pass_from : (first : LaterMachine) (outcomes : List LaterOutcome) → AreLaterDoneOn first outcomes →
    LaterPassFrom (later_spool first) (later_passed_of outcomes)
later_pass_from first [] done = tt
later_pass_from first (outcome ∷ later) done = (done.0.passes, later_pass_from outcome.left later done.1)

-- What an event of a day leaves alone.

day_leaves_the_rest : (event : Event) (report : EventReport) (old new : Machine) → Happens event report old new →
    LeavesTheRest (spool_of old) (spool_of new)
day_leaves_the_rest event report old new happens =
    let takes = happens_takes_effect event report old new happens in
    (day_outcomes_pass old (record { event = event; report = report; effect = takes.0; left = new })
    (record { happens = happens; by_its_steps = takes.1; moved = takes.2 })).rest

day_passes : (event : Event) (report : EventReport) (old new : Machine) → Happens event report old new →
    PassesBeside (spool_of old) (spool_of new)
day_passes event report old new happens =
    beside_the_store_pass (spool_of old) (spool_of new) (day_leaves_the_rest event report old new happens)

-- Notices.

mail_event : (event : Later) (entry : LaterEntry) (old new : LaterMachine) → LaterHappens event entry old new →
    MailEvent (later_spool old) (later_spool new)
mail_event (Day event) (known.Day report) old new happens =
    another (day_passes event report old.at new.at happens.happens).mail
mail_event Post (known.Post report) old new happens =
    a_session (record {
      before = post_at old;
      after = post_at new;
      was = refl;
      is = refl;
      end = report.end;
      sent = report.sent;
      leaves = happens.posts.leaves refl refl;
    })
mail_event (Cron context zone entries now) (known.Cron report) old new happens =
    another (cron_sessions_pass (cron_of_event context zone entries now) (later_spool old) (later_spool new) report.end report.numbers
    (happens.crons.leaves refl refl)).mail
mail_event (Day event) (known.Post report) old new happens = absurd happens
mail_event (Day event) (known.Cron report) old new happens = absurd happens
mail_event Post (known.Day report) old new happens = absurd happens
mail_event Post (known.Cron report) old new happens = absurd happens
mail_event (Cron context zone entries now) (known.Day report) old new happens = absurd happens
mail_event (Cron context zone entries now) (known.Post report) old new happens = absurd happens

-- the events of these outcomes come after those so far
mail_events : (first old : LaterMachine) (outcomes : List LaterOutcome) → MailEvents (later_spool first) (later_spool old) →
    AreLaterDoneOn old outcomes → MailEvents (later_spool first) (later_spool (later_machine_after old outcomes))
mail_events first old [] so_far done = so_far
mail_events first old (outcome ∷ later) so_far done =
    mail_events first outcome.left later
    (next_event (later_spool old) (later_spool outcome.left) so_far
    (mail_event outcome.event outcome.entry old outcome.left done.0.happens)) done.1

-- Minutes.

-- what an event is to the mark of the crontab
abbrev cron_event : Later → LaterEntry → CronEvent
cron_event (Cron context zone entries now) (known.Cron report) =
    Ended (cron_of_event context zone entries now) report.end report.numbers
cron_event (Cron context zone entries now) (known.Day report) = Beside
cron_event (Cron context zone entries now) (known.Post report) = Beside
cron_event (Day event) entry = Beside
cron_event Post entry = Beside

abbrev cron_passed : LaterOutcome → CronPassed
cron_passed outcome = record { event = cron_event outcome.event outcome.entry; left = later_spool outcome.left }

passes_as : (event : Later) (entry : LaterEntry) (old new : LaterMachine) → IsLaterEvent event → LaterHappens event entry old new →
    PassesAs (cron_event event entry) (later_spool old) (later_spool new)
passes_as (Day event) (known.Day report) old new may_come happens =
    (day_passes event report old.at new.at happens.happens).mark
passes_as Post (known.Post report) old new may_come happens =
    (mail_sessions_pass (post_at old) (post_at new) report.end report.sent happens.posts).mark
passes_as (Cron context zone entries now) (known.Cron report) old new may_come happens =
    (may_come.now, happens.crons.leaves refl refl)
passes_as (Day event) (known.Post report) old new may_come happens = absurd happens
passes_as (Day event) (known.Cron report) old new may_come happens = absurd happens
passes_as Post (known.Day report) old new may_come happens = absurd happens
passes_as Post (known.Cron report) old new may_come happens = absurd happens
passes_as (Cron context zone entries now) (known.Day report) old new may_come happens = absurd happens
passes_as (Cron context zone entries now) (known.Post report) old new may_come happens = absurd happens

cron_pass_from : (first : LaterMachine) (outcomes : List LaterOutcome) → AreLaterDoneOn first outcomes →
    CronPassFrom (later_spool first) (map cron_passed outcomes)
cron_pass_from first [] done = tt
cron_pass_from first (outcome ∷ later) done = (
  passes_as outcome.event outcome.entry first outcome.left done.0.may_come done.0.happens,
  cron_pass_from outcome.left later done.1,
)

-- a session that accepted a job is one that may have accepted one
may_accept : (minute : ℕ) (event : Later) (entry : LaterEntry) (old new : World) → HasAcceptedAt minute event entry old new →
    MayAcceptAt minute (cron_event event entry) old new
may_accept minute (Cron context zone entries now) (known.Cron report) old new accepted = accepted
may_accept minute (Cron context zone entries now) (known.Day report) old new accepted = absurd accepted
may_accept minute (Cron context zone entries now) (known.Post report) old new accepted = absurd accepted
may_accept minute (Day event) entry old new accepted = absurd accepted
may_accept minute Post entry old new accepted = absurd accepted

none_accepted : (minute : ℕ) (old : LaterMachine) (outcomes : List LaterOutcome) →
    NoneAcceptsAt minute (later_spool old) (map cron_passed outcomes) → NoneHasAcceptedAt minute old outcomes
none_accepted minute old [] none = tt
none_accepted minute old (outcome ∷ later) none = (
  λ accepted. none.0 (may_accept minute outcome.event outcome.entry (later_spool old) (later_spool outcome.left) accepted),
  none_accepted minute outcome.left later none.1,
)

all_apart : (old : LaterMachine) (outcomes : List LaterOutcome) → AcceptApart (later_spool old) (map cron_passed outcomes) →
    HaveAcceptedApart old outcomes
all_apart old [] apart = tt
all_apart old (outcome ∷ later) apart = (
  λ minute accepted. none_accepted minute outcome.left later
      (apart.0 minute (may_accept minute outcome.event outcome.entry (later_spool old) (later_spool outcome.left) accepted)),
  all_apart outcome.left later apart.1,
)

-- All of it.

pub later_outcomes_keep_their_promise : LaterOutcomesKeepTheirPromise
later_outcomes_keep_their_promise first outcomes done = record {
  jobs = λ opening shows.
      later_events_hand_once opening (later_passed_of outcomes) (later_spool first) shows (later_pass_from first outcomes done);
  notices = λ whole.
      notices_are_handed_once (later_spool first) (later_spool (later_machine_after first outcomes)) whole
      (mail_events first first outcomes no_event done);
  minutes =
      all_apart first outcomes (no_minute_comes_twice (map cron_passed outcomes) (later_spool first) (cron_pass_from first outcomes done));
}
