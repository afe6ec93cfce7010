use Rattle.host_calls.specs.Session.{IsInside}
use Rattle.unix_tests.proofs.calls.answers.Given as goal

-- the session goes on
abbrev pub invariant-loop-call : goal.invariant-loop-call
invariant-loop-call g l = IsInside (g.H.Host.session l.host)
