use Rattle.host_calls.specs.Session.{StaysInside}
use Rattle.unix_tests.proofs.calls.awaited.Given as goal

-- a question starts no child and ends no session
abbrev pub invariant-loop : goal.invariant-loop
invariant-loop g l = StaysInside (g.H.Host.session l.fn.host) (g.H.Host.session l.host)
