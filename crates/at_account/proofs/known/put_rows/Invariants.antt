use Rattle.std.proofs.Common.{map, take}
use Rattle.at_account.specs.inside.KnownJobs.{ArePut, row_known}
use Rattle.at_account.proofs.known.put_rows.Given as goal

abbrev pub invariant-loop-row : goal.invariant-loop-row
invariant-loop-row l = ArePut (map row_known (take l.row-index l.rows)) l.fn.jobs l.jobs
