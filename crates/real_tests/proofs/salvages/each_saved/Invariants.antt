use Rattle.host_calls.specs.Session.{IsOutside}
use Rattle.real_tests.proofs.salvages.each_saved.Given as goal

-- no session is on
abbrev pub invariant-loop-text : goal.invariant-loop-text
invariant-loop-text g l = IsOutside (g.H.Host.session l.from)
