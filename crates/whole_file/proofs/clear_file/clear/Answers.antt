use Rattle.std.proofs.Common.{◌≡◌, arith, length, rules}
use Rattle.whole_file.proofs.ClearLemmas.{at_place, cleared, none_removed, one_more, remove_files, still_held, sync_files}
use Rattle.whole_file.proofs.OthersLemmas.{changes_none}
use Rattle.whole_file.proofs.clear_file.clear.Goals as goal

pub loop-name-init : goal.loop-name-init
loop-name-init g c = record {
  inside = search rules;
  files = λ tells. changes_none _ _;
  removed = λ tells. none_removed c.args.names.now _;
}

pub remove-requires-clause-held : goal.remove-requires-clause-held
remove-requires-clause-held g c = λ tells. still_held c.args.names.now c.loop-name.name-index c.name-item.result _ _ c.loop-name-test.true
    (at_place c.args.names.now c.loop-name.name-index c.name-item.result c.loop-name-test.true c.name-item.is) (c.requires.held tells)
    (c.loop-name.invariant.removed tells)

pub returns-in_err-remove-clause-files : goal.returns-in_err-remove-clause-files
returns-in_err-remove-clause-files g c =
    λ tells. remove_files c.args.names.now c.loop-name.name-index c.name-item.result (g.H.Host.world c.args.host.now) _ _ c.remove.result
    c.loop-name-test.true (at_place c.args.names.now c.loop-name.name-index c.name-item.result c.loop-name-test.true c.name-item.is)
    (c.loop-name.invariant.files tells) (c.loop-name.invariant.removed tells) (c.remove.ensures.files tells)

pub loop-name-preserved : goal.loop-name-preserved
loop-name-preserved g c = record {
  inside = search rules;
  files = λ tells. remove_files c.args.names.now c.loop-name.name-index c.name-item.result (g.H.Host.world c.args.host.now) _ _
      c.remove.result c.loop-name-test.true (at_place c.args.names.now c.loop-name.name-index c.name-item.result c.loop-name-test.true
      c.name-item.is) (c.loop-name.invariant.files tells) (c.loop-name.invariant.removed tells) (c.remove.ensures.files tells);
  removed = λ tells. one_more c.args.names.now c.loop-name.name-index c.name-item.result _ _ _ c.loop-name-test.true
      (at_place c.args.names.now c.loop-name.name-index c.name-item.result c.loop-name-test.true c.name-item.is)
      (c.loop-name.invariant.removed tells) (c.in_ok-remove.ensures.files tells).outcome;
}

pub returns-clause-files : goal.returns-clause-files
returns-clause-files g c = λ tells. sync_files c.args.names.now c.loop-name.name-index (g.H.Host.world c.args.host.now) _ _
    c.sync_names.result (c.loop-name.invariant.files tells) (c.loop-name.invariant.removed tells) (c.sync_names.ensures.files tells)

pub returns-clause-cleared : goal.returns-clause-cleared
returns-clause-cleared g c = λ tells some.
    let ended : c.loop-name.name-index ≡ length c.args.names.now = omega arith in
    cleared c.args.names.now c.loop-name.name-index (g.H.Host.world c.args.host.now).now.directory _ _ c.sync_names.result ended
    (c.loop-name.invariant.removed tells) (c.sync_names.ensures.files tells)
