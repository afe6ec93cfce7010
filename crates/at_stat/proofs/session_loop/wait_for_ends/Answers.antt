use Rattle.std.proofs.Common.{◌+◌, ◌∙◌, ap, arith, refl, sym, ℕ}
use Rattle.std.proofs.lemmas.Result.{err_from_is_err_and}
use Rattle.at_stat.specs.WaitSessions.{no_more, once_more, wait_at}
use Rattle.at_stat.proofs.session_loop.wait_for_ends.Goals as goal

pub loop-looks-init : goal.loop-looks-init
loop-looks-init g c = record { outside = c.requires.outside; most = c.requires.turns; made = (0, refl, no_more) }

pub returns-in_err-store : goal.returns-in_err-store
returns-in_err-store g c =
    let p = err_from_is_err_and c.from_residual.result c.from_residual.ensures.1 in
    let made = c.loop-looks.invariant.made in
    rw (p.1, p.2)
    (record {
      count = made.0;
      kept = c.loop-looks.store;
      before = wait_at (g.H.Host.session c.loop-looks.host) (g.H.Host.world c.loop-looks.host) (g.R.Readings.answers c.loop-looks.readings)
          (g.R.Readings.readers c.loop-looks.readings);
      rested = c.in_err-store.ensures.0;
      waits = made.2;
      few = omega (arith, made.1, c.loop-looks.invariant.most);
      lives = sym c.has_live.ensures ∙ c.if-has_live.true;
      rests = c.in_err-store.ensures.1;
      stops = c.in_err-store.ensures.2;
    })

pub loop-looks-preserved : goal.loop-looks-preserved
loop-looks-preserved g c =
    let made = c.loop-looks.invariant.made in
    record {
      outside = c.in_ok-store.ensures.2.spool.left.outside;
      most = omega (arith, c.loop-looks-test.true);
      made = (
        made.0 + 1,
        ap (λ (count : ℕ). count + 1) made.1,
        once_more made.0 c.loop-looks.store c.in_ok-store.store
            (wait_at (g.H.Host.session c.loop-looks.host) (g.H.Host.world c.loop-looks.host) (g.R.Readings.answers c.loop-looks.readings)
            (g.R.Readings.readers c.loop-looks.readings))
            c.in_ok-store.ensures.0
            (wait_at (g.H.Host.session c.look_again.new.host) (g.H.Host.world c.look_again.new.host)
            (g.R.Readings.answers c.look_again.new.readings) (g.R.Readings.readers c.look_again.new.readings))
            made.2 (sym c.has_live.ensures ∙ c.if-has_live.true) c.in_ok-store.ensures.1 c.in_ok-store.ensures.2,
      );
    }
