-- What holds of all events, notices of mail among them.
use Rattle.std.specs.Prelude.{List}
use Rattle.host_calls.specs.World.{World}
use Rattle.spool_model.specs.JobTable.{JobTable}
use Rattle.step_runs.specs.Current.{EachShows}
use Rattle.at_mail.specs.Events.{NoneLivesAgain}
use Rattle.headline.specs.Effects.{Effect, TakesEffect, steps_begun, world_after}
use Rattle.headline.specs.Headline.{Headline}
use Rattle.mail_notes.specs.declared.note.Note.{Note}
use Rattle.mail_notes.specs.Hands.{Mailing}
use Rattle.mail_session.specs.Sessions.{HasPosted}
use Rattle.later_day.specs.LaterEffects.{DoOneThing, LaterPassFrom, LaterPassed, LeavesTheRest, WentBeside, only_jobs, passed_jobs}

-- the headline, of the scripts of jobs, over any events that pass from a world on whose directory shows one table in each
-- image
abbrev pub LaterEventsHandOnce : Type 0
LaterEventsHandOnce = (opening : JobTable) (events : List LaterPassed) (old : World) →
    EachShows old.now.directory opening → LaterPassFrom old events → Headline opening (passed_jobs events) (only_jobs old)

-- a session of mail goes on next to the table
abbrev pub SessionsGoBeside : Type 0
SessionsGoBeside = (of : Mailing) (notes new_ones : List Note) (table : JobTable) (start end : World) →
    HasPosted of notes new_ones table start end → WentBeside start end

-- an effect of a command or of a turn leaves all other files alone, and starts nothing but scripts of jobs
abbrev pub EffectsLeaveTheRest : Type 0
EffectsLeaveTheRest = (effect : Effect) (old new : World) → DoOneThing (steps_begun effect) → TakesEffect effect old new →
    LeavesTheRest old new

-- Where each image shows a table, as it does once a trim has recovered, no job that is over in it lives in what the
-- directory shows after any events.
abbrev pub JobsStayOver : Type 0
JobsStayOver = (table : JobTable) (events : List LaterPassed) (old : World) → EachShows old.now.directory table →
    LaterPassFrom old events → NoneLivesAgain table (world_after (only_jobs old) (passed_jobs events))
