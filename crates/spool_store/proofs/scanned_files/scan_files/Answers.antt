use Rattle.std.proofs.Common.{rules, ap, ◌∙◌, arith}
use Rattle.host_calls.specs.World.{reading}
use Rattle.spool_shows.proofs.FilesSoFar.{held_at}
use Rattle.spool_store.proofs.ScannedFileLemmas.{prefixes_all, prefixes_more}
use Rattle.spool_store.proofs.scanned_files.scan_files.Goals as goal

pub scan_file-requires-clause-held : goal.scan_file-requires-clause-held
scan_file-requires-clause-held g c = λ tells.
    held_at (reading (g.H.Host.world c.args.host.now)) _ c.deref-name-items.result.now c.loop-name.name-index c.name-item.result
    (c.deref-name-items.ensures.value ∙ c.in_ok-names.ensures.listed tells)
    (ap reading (c.loop-name.invariant.looks tells)) c.loop-name-test.true c.name-item.is

pub loop-name-preserved : goal.loop-name-preserved
loop-name-preserved g c = record {
  inside = search rules;
  looks = λ tells. c.in_ok-scan_file.ensures.looks tells ∙ c.loop-name.invariant.looks tells;
  undecided = λ marks tell. c.in_ok-scan_file.ensures.undecided marks tell (c.loop-name.invariant.undecided marks tell);
  scanned_files = λ tells marks tell.
      prefixes_more marks (reading (g.H.Host.world c.args.host.now)) _ c.deref-name-items.result.now
      c.loop-name.name-index c.name-item.result _ _
      (c.deref-name-items.ensures.value ∙ c.in_ok-names.ensures.listed tells)
      (ap reading (c.loop-name.invariant.looks tells)) c.loop-name-test.true c.name-item.is
      (c.loop-name.invariant.scanned_files tells marks tell)
      (λ bytes held. c.in_ok-scan_file.ensures.scanned tells marks bytes tell held)
      (c.in_ok-scan_file.ensures.leftover marks tell);
}

pub returns-clause-scanned_files : goal.returns-clause-scanned_files
returns-clause-scanned_files g c = λ tells marks tell.
    prefixes_all marks (reading (g.H.Host.world c.args.host.now)) c.deref-name-items.result.now c.loop-name.name-index _
    (c.deref-name-items.ensures.value ∙ c.in_ok-names.ensures.listed tells) (omega arith)
    (c.loop-name.invariant.scanned_files tells marks tell)
