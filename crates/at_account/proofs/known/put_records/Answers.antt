use Rattle.std.proofs.Common.{refl}
use Rattle.at_account.specs.inside.KnownJobs.{record_known}
use Rattle.at_account.proofs.KnowingLemmas.{put_all, put_more}
use Rattle.at_account.proofs.known.put_records.Goals as goal

pub loop-one-preserved : goal.loop-one-preserved
loop-one-preserved c =
    put_more record_known c.args.records.now c.loop-one.one-index c.one-item.result c.one-item.result.number _ c.args.jobs.now
    c.loop-one.jobs c.put_known.new.jobs
    c.loop-one-test.true c.one-item.is (refl) c.loop-one.invariant c.in_ok-put_known.ensures.0

pub returns : goal.returns
returns c =
    put_all record_known c.args.records.now c.loop-one.one-index c.args.jobs.now c.loop-one.jobs c.loop-one-test.false c.loop-one.invariant
