use Rattle.host_calls.specs.Session.{IsOutside}
use Rattle.unix_tests.proofs.calls.sessions.Given as goal

-- each session is over
abbrev pub invariant-loop-calls : goal.invariant-loop-calls
invariant-loop-calls g l = IsOutside (g.H.Host.session l.host)
