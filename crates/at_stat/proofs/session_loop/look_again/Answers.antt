use Rattle.std.proofs.Common.{refl}
use Rattle.at_stat.specs.WaitSessions.{wait_at}
use Rattle.at_stat.proofs.session_loop.look_again.Goals as goal

pub returns : goal.returns
returns g c = (
  wait_at (g.H.Host.session c.args.host.now) (g.H.Host.world c.args.host.now) (g.R.Readings.answers c.rest.new.self)
      (g.R.Readings.readers c.rest.new.self),
  record { clock = record { known = c.rest.ensures.known; readers = c.rest.ensures.same }; spool = refl },
  record { spool = c.look_at_jobs.ensures; clock = refl },
)
