use Rattle.host_calls.specs.Session.{IsOutside}
use Rattle.real_tests.proofs.sessions.rounds_beside.Given as goal

-- no session is on
abbrev pub invariant-loop-round : goal.invariant-loop-round
invariant-loop-round g l = IsOutside (g.H.Host.session l.host)
