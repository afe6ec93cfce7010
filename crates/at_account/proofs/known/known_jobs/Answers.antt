use Rattle.std.proofs.Common.{ap}
use Rattle.std.specs.BTreeMap.{is_at}
use Rattle.std.specs.Map.{lookup}
use Rattle.std.specs.Ordering.{nat_cmp}
use Rattle.at_account.proofs.KnowingLemmas.{knows}
use Rattle.at_account.proofs.known.known_jobs.Goals as goal

pub returns : goal.returns
returns c table live done =
    knows c.args.records.now c.args.rows.now c.args.decided.now table live done c.new-jobs.result c.put_records.new.jobs
    c.put_rows.new.jobs c.put_decided.new.jobs
    (λ number. ap (lookup (is_at (nat_cmp number))) c.new-jobs.ensures.empty) c.in_ok-put_records.ensures c.in_ok-put_rows.ensures
    c.in_ok-put_decided.ensures
