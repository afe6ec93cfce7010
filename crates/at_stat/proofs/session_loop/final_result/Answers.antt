use Rattle.std.proofs.Common.{refl}
use Rattle.at_stat.specs.WaitSessions.{wait_at, wait_telling}
use Rattle.at_stat.proofs.SightLemmas.{sees_after, sees_once}
use Rattle.at_stat.proofs.session_loop.final_result.Goals as goal

pub returns-in-Some : goal.returns-in-Some
returns-in-Some g c =
    sees_after (wait_telling g.H.Host.tells g.H.Host.alone g.R.Readings.tells) c.args.user.now c.args.request.now.wait
    c.args.request.now.which
    (wait_at (g.H.Host.session c.args.host.now) (g.H.Host.world c.args.host.now) (g.R.Readings.answers c.args.readings.now)
    (g.R.Readings.readers c.args.readings.now))
    (wait_at (g.H.Host.session c.look_at_jobs.new.host) (g.H.Host.world c.look_at_jobs.new.host) (g.R.Readings.answers c.args.readings.now)
    (g.R.Readings.readers c.args.readings.now))
    (wait_at (g.H.Host.session c.wait.new.host) (g.H.Host.world c.wait.new.host) (g.R.Readings.answers c.wait.new.readings)
    (g.R.Readings.readers c.wait.new.readings))
    c.in_ok-store.store (record { spool = c.in_ok-store.ensures; clock = refl }) c.in-Some.turns c.wait.result c.in-Some.is c.wait.ensures

pub returns-in-None : goal.returns-in-None
returns-in-None g c =
    sees_once (wait_telling g.H.Host.tells g.H.Host.alone g.R.Readings.tells) c.args.user.now c.args.request.now.wait
    c.args.request.now.which
    (wait_at (g.H.Host.session c.args.host.now) (g.H.Host.world c.args.host.now) (g.R.Readings.answers c.args.readings.now)
    (g.R.Readings.readers c.args.readings.now))
    (wait_at (g.H.Host.session c.look_at_jobs.new.host) (g.H.Host.world c.look_at_jobs.new.host) (g.R.Readings.answers c.args.readings.now)
    (g.R.Readings.readers c.args.readings.now))
    c.in_ok-store.store (record { spool = c.in_ok-store.ensures; clock = refl }) c.in-None.is
