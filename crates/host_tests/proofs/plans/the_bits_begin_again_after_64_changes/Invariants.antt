use Rattle.host_calls.specs.Session.{IsInside}
use Rattle.memory_host.specs.Host.{memory_session}
use Rattle.host_tests.proofs.plans.the_bits_begin_again_after_64_changes.Given as goal

abbrev pub invariant-loop : goal.invariant-loop
invariant-loop g l = IsInside (memory_session l.host)
