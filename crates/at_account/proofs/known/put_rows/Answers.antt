use Rattle.std.proofs.Common.{ap, sym}
use Rattle.at_account.specs.inside.KnownJobs.{row_known}
use Rattle.at_account.proofs.KnowingLemmas.{put_all, put_more}
use Rattle.at_account.proofs.known.put_rows.Goals as goal

pub loop-row-preserved : goal.loop-row-preserved
loop-row-preserved c =
    put_more row_known c.args.rows.now c.loop-row.row-index c.row-item.result c.row-item.result.number _ c.args.jobs.now
    c.loop-row.jobs c.put_known.new.jobs
    c.loop-row-test.true c.row-item.is (ap (λ value. (c.row-item.result.number, value)) (sym c.live_job.ensures)) c.loop-row.invariant
    c.in_ok-put_known.ensures.0

pub returns : goal.returns
returns c =
    put_all row_known c.args.rows.now c.loop-row.row-index c.args.jobs.now c.loop-row.jobs c.loop-row-test.false c.loop-row.invariant
