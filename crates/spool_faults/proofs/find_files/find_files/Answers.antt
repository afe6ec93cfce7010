use Rattle.std.proofs.Common.{rules, ap, ◌∙◌, arith}
use Rattle.host_calls.specs.World.{reading}
use Rattle.spool_shows.proofs.FilesSoFar.{found_all, found_more, held_at}
use Rattle.spool_faults.proofs.find_files.find_files.Goals as goal

pub find_file-requires-clause-held : goal.find_file-requires-clause-held
find_file-requires-clause-held g c = λ tells.
    held_at (reading (g.H.Host.world c.args.host.now)) _ c.args.names.now c.loop-name.name-index c.name-item.result
    (c.requires.listed tells)
    (ap reading (c.loop-name.invariant.looks tells)) c.loop-name-test.true c.name-item.is

pub loop-name-preserved : goal.loop-name-preserved
loop-name-preserved g c = record {
  inside = search rules;
  looks = λ tells. c.in_ok-find_file.ensures.looks tells ∙ c.loop-name.invariant.looks tells;
  found = λ tells marks tell.
      found_more marks (reading (g.H.Host.world c.args.host.now)) _ c.args.names.now c.loop-name.name-index c.name-item.result _ _
      (c.requires.listed tells)
      (ap reading (c.loop-name.invariant.looks tells)) c.loop-name-test.true c.name-item.is
      (c.loop-name.invariant.found tells marks tell)
      (λ bytes held. c.in_ok-find_file.ensures.found tells marks bytes tell held);
}

pub returns-clause-found : goal.returns-clause-found
returns-clause-found g c = λ tells marks tell.
    found_all marks (reading (g.H.Host.world c.args.host.now)) c.args.names.now c.loop-name.name-index _
    (c.requires.listed tells) (omega arith) (c.loop-name.invariant.found tells marks tell)
