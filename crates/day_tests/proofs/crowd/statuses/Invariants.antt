use Rattle.host_calls.specs.Session.{IsOutside}
use Rattle.memory_host.specs.Host.{memory_session}
use Rattle.day_tests.proofs.crowd.statuses.Given as goal

-- no session is on
abbrev pub invariant-loop-words : goal.invariant-loop-words
invariant-loop-words l = IsOutside (memory_session l.host)
