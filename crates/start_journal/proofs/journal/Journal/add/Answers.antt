use Rattle.start_journal.proofs.MarkWrites.{gate_files, gate_within, half_files, is_added, rest_within}
use Rattle.start_journal.proofs.journal.Journal.add.Goals as goal

pub overwrite-requires-clause-range : goal.overwrite-requires-clause-range
overwrite-requires-clause-range g c = λ tells.
    rest_within c.journal_name-name.result c.args.self c.args.mark c.mark_text-slot.result c.first_free-offset.result
    (g.H.Host.world c.args.host.now).now.directory c.journal_name-name.ensures c.requires.free c.requires.legal c.mark_text-slot.ensures
    c.first_free-offset.ensures.offset (c.requires.holds tells)

pub returns-in_err-overwrite-clause-files : goal.returns-in_err-overwrite-clause-files
returns-in_err-overwrite-clause-files g c = λ tells.
    half_files c.journal_name-name.result c.args.self c.args.mark c.mark_text-slot.result c.first_free-offset.result
    (g.H.Host.world c.args.host.now).now.directory c.journal_name-name.ensures c.requires.free c.requires.legal c.mark_text-slot.ensures
    c.first_free-offset.ensures.offset (c.requires.holds tells) (g.H.Host.world c.args.host.now) (g.H.Host.world c.overwrite.new.host)
    (c.overwrite.ensures.files tells)

pub overwrite-requires-2-clause-range : goal.overwrite-requires-2-clause-range
overwrite-requires-2-clause-range g c = λ tells.
    gate_within c.journal_name-name.result c.args.self c.args.mark c.mark_text-slot.result c.first_free-offset.result
    (g.H.Host.world c.args.host.now).now.directory c.journal_name-name.ensures c.requires.free c.requires.legal c.mark_text-slot.ensures
    c.first_free-offset.ensures.offset (c.requires.holds tells) (g.H.Host.world c.overwrite.new.host).now.directory
    (c.in_ok-overwrite.ensures.overwritten tells)

pub returns-in_err-overwrite-2-clause-files : goal.returns-in_err-overwrite-2-clause-files
returns-in_err-overwrite-2-clause-files g c = λ tells.
    gate_files c.journal_name-name.result c.args.self c.args.mark c.mark_text-slot.result c.first_free-offset.result
    (g.H.Host.world c.args.host.now).now.directory c.journal_name-name.ensures c.requires.free c.requires.legal c.mark_text-slot.ensures
    c.first_free-offset.ensures.offset (c.requires.holds tells) (g.H.Host.world c.overwrite.new.host).now.directory
    (c.in_ok-overwrite.ensures.overwritten tells) (g.H.Host.world c.args.host.now) (g.H.Host.world c.overwrite.new.host)
    (g.H.Host.world c.overwrite-2.new.host) (c.overwrite.ensures.files tells) (c.overwrite-2.ensures.files tells)

pub returns-clause-files : goal.returns-clause-files
returns-clause-files g c = λ tells.
    gate_files c.journal_name-name.result c.args.self c.args.mark c.mark_text-slot.result c.first_free-offset.result
    (g.H.Host.world c.args.host.now).now.directory c.journal_name-name.ensures c.requires.free c.requires.legal c.mark_text-slot.ensures
    c.first_free-offset.ensures.offset (c.requires.holds tells) (g.H.Host.world c.overwrite.new.host).now.directory
    (c.in_ok-overwrite.ensures.overwritten tells) (g.H.Host.world c.args.host.now) (g.H.Host.world c.overwrite.new.host)
    (g.H.Host.world c.overwrite-2.new.host) (c.overwrite.ensures.files tells) (c.overwrite-2.ensures.files tells)

pub returns-clause-added : goal.returns-clause-added
returns-clause-added g c = λ tells.
    is_added c.journal_name-name.result c.args.self c.args.mark c.mark_text-slot.result c.first_free-offset.result
    (g.H.Host.world c.args.host.now).now.directory c.journal_name-name.ensures c.requires.free c.requires.legal c.mark_text-slot.ensures
    c.first_free-offset.ensures.offset (c.requires.holds tells) (g.H.Host.world c.overwrite.new.host).now.directory
    (c.in_ok-overwrite.ensures.overwritten tells) (g.H.Host.world c.overwrite-2.new.host).now.directory
    (c.in_ok-overwrite-2.ensures.overwritten tells)
