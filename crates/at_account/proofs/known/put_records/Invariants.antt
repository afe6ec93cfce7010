use Rattle.std.proofs.Common.{map, take}
use Rattle.at_account.specs.inside.KnownJobs.{ArePut, record_known}
use Rattle.at_account.proofs.known.put_records.Given as goal

abbrev pub invariant-loop-one : goal.invariant-loop-one
invariant-loop-one l = ArePut (map record_known (take l.one-index l.records)) l.fn.jobs l.jobs
