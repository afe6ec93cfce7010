-- What the program works with, at a moment (own).
use Rattle.std.specs.Prelude.{◌≡◌, ◌≤◌, false}
use Rattle.host_calls.specs.declared.host.Host as host
use Rattle.host_calls.specs.declared.inputs.Inputs as inputs
use Rattle.host_calls.specs.declared.readings.Readings as readings
use Rattle.host_calls.specs.declared.sink.Sink as sink
use Rattle.host_calls.specs.Session.{IsLeft}
use Rattle.tool_output.specs.Outside.{Telling, WorkAt, no_sink, outside_at, telling, work_at}
use Rattle.cron_session.specs.SessionOutcome.{CronAt}

-- which of the objects that the program is handed tell what they hold: nothing is printed
abbrev pub cron_telling : {H R I E : Type 0} → host.Ghosts H → readings.Ghosts R → inputs.Ghosts I → sink.Ghosts E → Telling
cron_telling h r i e = telling h.tells h.alone r.tells i.tells false e.tells

abbrev pub spool_at : {H : Type 0} → host.Ghosts H → H → CronAt
spool_at h host = record { session = h.session host; world = h.world host }

-- what its sessions work with
abbrev pub run_at : {H R I E : Type 0} → host.Ghosts H → readings.Ghosts R → inputs.Ghosts I → sink.Ghosts E
    → H → R → I → E → WorkAt CronAt
run_at h r i e host readings inputs err = work_at (spool_at h host) (outside_at h r i no_sink e host readings inputs tt err)

-- What the program leaves as it was, whatever comes of it: no session is on, no child came or went, no load is read, the
-- inputs hold what they held, and no count fell.
pub record StaysSo (old new : WorkAt CronAt) : Type 0 where
  pub left : IsLeft old.spool.session new.spool.session
  pub readers : new.clock.readers ≡ old.clock.readers
  pub contents : new.input.contents ≡ old.input.contents
  pub made_as : new.input.sources.made_as ≡ old.input.sources.made_as
  pub input_faults : old.input.sources.input_faults ≤ new.input.sources.input_faults
  pub said_faults : old.said.faults ≤ new.said.faults
