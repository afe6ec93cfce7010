use Rattle.start_journal.proofs.OverwriteLemmas.{all_overwritten, held_to_sync, sync_files, write_files}
use Rattle.start_journal.proofs.overwrite.overwrite.Goals as goal

pub returns-in_err-write-clause-files : goal.returns-in_err-write-clause-files
returns-in_err-write-clause-files g c = λ tells.
    write_files c.args.name.now c.args.offset c.args.bytes.now (g.H.Host.world c.args.host.now) _ c.write.result (c.requires.durable tells)
    (c.requires.range tells) (c.write.ensures.files tells)

pub sync-requires-clause-held : goal.sync-requires-clause-held
sync-requires-clause-held g c = λ tells.
    held_to_sync c.args.name.now c.args.offset c.args.bytes.now (g.H.Host.world c.args.host.now) _ (g.H.Host.world c.write.new.self)
    c.in_ok-write.field-0 c.write.result (c.requires.durable tells) (c.requires.range tells) (c.in_ok-write.ensures.files tells)

pub returns-clause-files : goal.returns-clause-files
returns-clause-files g c = λ tells.
    sync_files c.args.name.now c.args.offset c.args.bytes.now (g.H.Host.world c.args.host.now) _ _ c.in_ok-write.field-0 c.sync.result
    (c.requires.durable tells) (c.requires.range tells) (c.in_ok-write.ensures.files tells) (c.sync.ensures.files tells)

pub returns-clause-overwritten : goal.returns-clause-overwritten
returns-clause-overwritten g c = λ tells.
    all_overwritten c.args.name.now c.args.offset c.args.bytes.now (g.H.Host.world c.args.host.now) _ _ c.in_ok-write.field-0 c.sync.result
    (c.requires.durable tells) (c.requires.range tells) (c.in_ok-write.ensures.files tells) (c.sync.ensures.files tells)
