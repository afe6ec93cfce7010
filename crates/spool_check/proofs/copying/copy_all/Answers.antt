use Rattle.std.proofs.Common.{arith, length, rules, ◌≤◌, ap}
use Rattle.host_calls.specs.World.{reading}
use Rattle.spool_check.proofs.CopyLemmas.{all_copies, copied_at, copying_one, named_at}
use Rattle.spool_check.proofs.copying.copy_all.Goals as goal

pub returns-in_err-copy_job-clause-files : goal.returns-in_err-copy_job-clause-files
returns-in_err-copy_job-clause-files g c = λ tells.
    copying_one (g.G.Host.world c.args.to.now) (g.G.Host.world c.loop-name.to) (g.G.Host.world c.copy_job.new.to) c.name-item.result
    (c.loop-name.invariant.files tells) (c.in_err-copy_job.ensures.files tells)

pub loop-name-preserved : goal.loop-name-preserved
loop-name-preserved g c = record {
  inside_from = search rules;
  inside_to = search rules;
  looks = search rules;
  no_temp = search rules;
  files = λ tells.
      copying_one (g.G.Host.world c.args.to.now) (g.G.Host.world c.loop-name.to) (g.G.Host.world c.copy_job.new.to) c.name-item.result
      (c.loop-name.invariant.files tells) (c.in_ok-copy_job.ensures.files tells);
  copies = λ tells told start. copied_at (reading (g.H.Host.world c.args.from.now)) (reading (g.H.Host.world c.loop-name.from))
      c.args.names.now c.loop-name.name-index c.name-item.result
      (g.G.Host.world c.loop-name.to) (g.G.Host.world c.copy_job.new.to)
      (ap reading (c.loop-name.invariant.looks tells)) c.loop-name-test.true c.name-item.is
      (c.loop-name.invariant.copies tells told start) (c.in_ok-copy_job.ensures.files told)
      (c.in_ok-copy_job.ensures.copied tells told
      (named_at c.args.names.now c.loop-name.name-index c.name-item.result c.loop-name-test.true c.name-item.is (c.requires.named tells)));
}

pub returns-clause-copies : goal.returns-clause-copies
returns-clause-copies g c = λ tells told start.
    let past : length c.args.names.now ≤ c.loop-name.name-index = omega arith in
    all_copies (reading (g.H.Host.world c.args.from.now)) c.args.names.now c.loop-name.name-index
    (g.G.Host.world c.loop-name.to).now.directory past (c.loop-name.invariant.copies tells told start)
