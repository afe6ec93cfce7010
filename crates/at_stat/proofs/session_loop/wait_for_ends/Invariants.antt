use Rattle.std.proofs.Common.{◌≡◌, ◌≤◌, ◌+◌, ◌-◌, ℕ}
use Rattle.host_calls.specs.Session.{IsOutside}
use Rattle.at_stat.specs.WaitSessions.{Waits, wait_at, wait_telling}
use Rattle.at_stat.proofs.session_loop.wait_for_ends.Given as goal

abbrev pub invariant-loop-looks : goal.invariant-loop-looks
invariant-loop-looks g l = record {
  outside : IsOutside (g.H.Host.session l.host);
  most : l.looks ≤ l.turns;
  made : (count : ℕ) × (l.looks ≡ count + 1)
      × Waits (wait_telling g.H.Host.tells g.H.Host.alone g.R.Readings.tells) l.user l.which l.awaited
      (wait_at (g.H.Host.session l.fn.host) (g.H.Host.world l.fn.host) (g.R.Readings.answers l.fn.readings)
      (g.R.Readings.readers l.fn.readings)) l.fn.store
      count l.store
      (wait_at (g.H.Host.session l.host) (g.H.Host.world l.host) (g.R.Readings.answers l.readings) (g.R.Readings.readers l.readings));
}

abbrev pub decreases-loop-looks : goal.decreases-loop-looks
decreases-loop-looks g l = l.turns - l.looks
