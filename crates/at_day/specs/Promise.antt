-- The promise. Over every list of events on a machine (commands, turns of the daemon, reboots at any moment) whose
-- directory shows one table in each image: after each event the host is in the state where its event left it; over all of
-- them no script is started twice, each is that of a job that was pending at first or was accepted since, and each start
-- survives every crash from the moment on at which its script is started.
use Rattle.std.specs.Prelude.{List}
use Rattle.headline.specs.Headline.{Headline}
use Rattle.step_runs.specs.Current.{EachShows}
use Rattle.spool_model.specs.JobTable.{JobTable}
use Rattle.at_day.specs.EventOutcomes.{EventOutcome, passed_events}
use Rattle.at_day.specs.Machines.{Machine, spool_of}

-- the promise of outcomes on a machine
abbrev pub KeepsPromise : Machine → List EventOutcome → Type 0
KeepsPromise first outcomes = (opening : JobTable) → EachShows (spool_of first).now.directory opening →
    Headline opening (passed_events outcomes) (spool_of first)
