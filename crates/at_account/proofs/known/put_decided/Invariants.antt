use Rattle.std.proofs.Common.{map, take}
use Rattle.at_account.specs.inside.KnownJobs.{ArePut, decided_known}
use Rattle.at_account.proofs.known.put_decided.Given as goal

abbrev pub invariant-loop-one : goal.invariant-loop-one
invariant-loop-one l = ArePut (map decided_known (take l.one-index l.decided)) l.fn.jobs l.jobs
