-- The promise (own). Over every list of events on a machine (commands, turns of the daemon, reboots at any moment, sessions
-- of mail and of crontabs): the headline is true of the scripts of jobs; no notice is sent twice; and no minute has
-- two sessions of crontabs that accepted a job, also where the first of them reports none.
use Rattle.std.specs.Prelude.{◌≡◌, ◌≢◌, ◌⊎◌, [], ◌∷◌, ℕ, List}
use Rattle.host_calls.specs.ClockRange.{minute_at}
use Rattle.cron_session.specs.Minutes.{ShowsAStep}
use Rattle.headline.specs.Headline.{Headline}
use Rattle.host_calls.specs.World.{World}
use Rattle.later_day.specs.LaterEffects.{only_jobs, passed_jobs}
use Rattle.at_mail.specs.Once.{HasOnceSince, HasWholeNotes}
use Rattle.spool_model.specs.JobTable.{JobTable}
use Rattle.step_runs.specs.Current.{EachShows}
use Rattle.later_day.specs.declared.entry.LaterEntry.{LaterEntry}
use Rattle.later_day.specs.declared.entry.LaterEntry.TheVariants as known
use Rattle.later_day.specs.declared.later.Later.{Later}
use Rattle.later_day.specs.declared.later.Later.TheVariants.{Cron}
use Rattle.later_day.specs.LaterMachines.{LaterMachine, later_spool}
use Rattle.later_day.specs.LaterOutcomes.{LaterOutcome, later_machine_after, later_passed_of}

-- a session of a crontab at the minute accepted a job: it reports a number, or some image that it leaves shows a step of it
abbrev pub HasAcceptedAt : ℕ → Later → LaterEntry → World → World → Type 0
HasAcceptedAt minute (Cron context zone entries now) (known.Cron report) old new =
    (minute_at now ≡ minute) × ((report.numbers ≢ []) ⊎ ShowsAStep old.now.directory new.now.directory)
HasAcceptedAt minute _ _ old new = ⊥

-- none of the outcomes is of such a session at the minute
abbrev pub NoneHasAcceptedAt : ℕ → LaterMachine → List LaterOutcome → Type 0
NoneHasAcceptedAt minute old [] = Unit {0}
NoneHasAcceptedAt minute old (outcome ∷ later) =
    ¬ (HasAcceptedAt minute outcome.event outcome.entry (later_spool old) (later_spool outcome.left))
    × NoneHasAcceptedAt minute outcome.left later

-- after an outcome that is of such a session at a minute, none of the later ones is
abbrev pub HaveAcceptedApart : LaterMachine → List LaterOutcome → Type 0
HaveAcceptedApart old [] = Unit {0}
HaveAcceptedApart old (outcome ∷ later) =
    ((minute : ℕ) → HasAcceptedAt minute outcome.event outcome.entry (later_spool old) (later_spool outcome.left)
    → NoneHasAcceptedAt minute outcome.left later)
    × HaveAcceptedApart outcome.left later

-- The promise of outcomes on a machine. The headline, of the scripts of jobs, where each image of the directory showed
-- one table; no notice twice, where each had a whole file of notes; and no minute twice.
pub record KeepsLaterPromise (first : LaterMachine) (outcomes : List LaterOutcome) : Type 0 where
  pub jobs : (opening : JobTable) → EachShows (later_spool first).now.directory opening →
      Headline opening (passed_jobs (later_passed_of outcomes)) (only_jobs (later_spool first))
  pub notices : HasWholeNotes (later_spool first).now.directory →
      HasOnceSince (later_spool first).now.handed (later_spool (later_machine_after first outcomes)).now.handed
  pub minutes : HaveAcceptedApart first outcomes
