use Rattle.host_calls.specs.World.{reading}
use Rattle.spool_check.specs.declared.fault.SalvageFault.TheVariants.{FromFailed, NotEmpty}
use Rattle.spool_check.specs.Faults.{IsTargetFault}
use Rattle.start_journal.specs.Journals.{journal_file}
use Rattle.spool_check.proofs.BareDirectories.{bare_temp}
use Rattle.spool_check.proofs.FaultLemmas.{calls_unless, no_fault, no_other, target_not_empty, target_not_source, unmoved}
use Rattle.spool_check.proofs.FillLemmas.{copying_leaves, has_put, is_filled, journal_leaves, sequence_leaves, sequence_holds}
use Rattle.spool_check.proofs.PlanLemmas.{plan_held, plan_named}
use Rattle.spool_check.proofs.filling.write_target.Goals as goal

pub place_whole-requires-clause-no_temp : goal.place_whole-requires-clause-no_temp
place_whole-requires-clause-no_temp g c = λ tells. bare_temp (g.G.Host.world c.args.to.now).now.directory (c.requires.bare tells)

pub returns-in_err-place_whole-clause-from : goal.returns-in_err-place_whole-clause-from
returns-in_err-place_whole-clause-from g c =
    unmoved FromFailed (g.H.Host.session c.args.from.now) c.from_residual.result c.requires.inside_from
    (no_other c.in_err-place_whole.field-0.0 FromFailed c.from_residual.result
    (target_not_source c.in_err-place_whole.field-0.0 c.in_err-place_whole.ensures.of) c.from_residual.ensures.1)

pub returns-in_err-place_whole-clause-files : goal.returns-in_err-place_whole-clause-files
returns-in_err-place_whole-clause-files g c = λ tells told.
    journal_leaves (reading (g.H.Host.world c.args.from.now)) c.journal_name.result c.args.journal.now (g.G.Host.world c.args.to.now)
    (g.G.Host.world c.place_whole.new.to) c.journal_name.ensures (c.requires.bare told) (c.in_err-place_whole.ensures.files told)

pub copy_all-requires-clause-named : goal.copy_all-requires-clause-named
copy_all-requires-clause-named g c = λ tells.
    plan_named (reading (g.H.Host.world c.args.from.now)) c.args.names.now c.args.journal.now c.args.sequence.now (c.requires.plan tells)

pub copy_all-requires-clause-held : goal.copy_all-requires-clause-held
copy_all-requires-clause-held g c = λ tells.
    plan_held (reading (g.H.Host.world c.args.from.now)) c.args.names.now c.args.journal.now c.args.sequence.now (c.requires.plan tells)

pub returns-in_err-copy_all-clause-files : goal.returns-in_err-copy_all-clause-files
returns-in_err-copy_all-clause-files g c = λ tells told.
    copying_leaves (reading (g.H.Host.world c.args.from.now)) c.args.journal.now (g.G.Host.world c.args.to.now)
    (g.G.Host.world c.place_whole.new.to) (g.G.Host.world c.copy_all.new.to) (c.requires.bare told)
    (has_put c.journal_name.result journal_file c.args.journal.now (g.G.Host.world c.args.to.now) (g.G.Host.world c.place_whole.new.to)
    c.journal_name.ensures (c.in_ok-place_whole.ensures.files told) (c.in_ok-place_whole.ensures.placed told))
    (c.in_err-copy_all.ensures.files told)

pub returns-clause-from : goal.returns-clause-from
returns-clause-from g c =
    calls_unless FromFailed (g.H.Host.session c.args.from.now) (g.H.Host.session c.copy_all.new.from)
    c.copy_all.result c.place_whole-2.result
    c.copy_all.ensures.from (no_fault FromFailed IsTargetFault c.place_whole-2.result target_not_source c.place_whole-2.ensures.of)

pub returns-clause-other : goal.returns-clause-other
returns-clause-other g c = no_fault NotEmpty IsTargetFault c.place_whole-2.result target_not_empty c.place_whole-2.ensures.of

pub returns-clause-files : goal.returns-clause-files
returns-clause-files g c = λ tells told.
    let files = reading (g.H.Host.world c.args.from.now) in
    let start = g.G.Host.world c.args.to.now in
    let first = g.G.Host.world c.place_whole.new.to in
    let second = g.G.Host.world c.copy_all.new.to in
    sequence_leaves files c.args.names.now c.args.journal.now c.args.sequence.now c.sequence_name.result start second
    (g.G.Host.world c.place_whole-2.new.to) c.sequence_name.ensures (c.requires.plan tells)
    (is_filled files c.args.names.now c.args.journal.now start first second (c.requires.bare told)
    (has_put c.journal_name.result journal_file c.args.journal.now start first c.journal_name.ensures
    (c.in_ok-place_whole.ensures.files told) (c.in_ok-place_whole.ensures.placed told))
    (c.in_ok-copy_all.ensures.files told) (c.in_ok-copy_all.ensures.copies tells told))
    (c.place_whole-2.ensures.files told)

pub returns-clause-salvaged : goal.returns-clause-salvaged
returns-clause-salvaged g c = λ tells told.
    let files = reading (g.H.Host.world c.args.from.now) in
    let start = g.G.Host.world c.args.to.now in
    let first = g.G.Host.world c.place_whole.new.to in
    let second = g.G.Host.world c.copy_all.new.to in
    sequence_holds files c.args.names.now c.args.journal.now c.args.sequence.now c.sequence_name.result start second
    (g.G.Host.world c.place_whole-2.new.to) c.place_whole-2.result c.sequence_name.ensures (c.requires.bare told) (c.requires.plan tells)
    (is_filled files c.args.names.now c.args.journal.now start first second (c.requires.bare told)
    (has_put c.journal_name.result journal_file c.args.journal.now start first c.journal_name.ensures
    (c.in_ok-place_whole.ensures.files told) (c.in_ok-place_whole.ensures.placed told))
    (c.in_ok-copy_all.ensures.files told) (c.in_ok-copy_all.ensures.copies tells told))
    (c.place_whole-2.ensures.files told) (c.place_whole-2.ensures.placed told)
