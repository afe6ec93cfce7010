use Rattle.host_calls.specs.Session.{IsOutside}
use Rattle.real_tests.proofs.beside.phases.Given as goal

-- no session is on
abbrev pub invariant-loop-one : goal.invariant-loop-one
invariant-loop-one g l = IsOutside (g.H.Host.session l.directory)
