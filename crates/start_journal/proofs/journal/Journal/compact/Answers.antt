use Rattle.start_journal.specs.JournalChange.{compacted}
use Rattle.start_journal.proofs.ChangeLemmas.{changing}
use Rattle.start_journal.proofs.journal.Journal.compact.Goals as goal

pub returns-in_err-replace-clause-files : goal.returns-in_err-replace-clause-files
returns-in_err-replace-clause-files g c = λ tells.
    changing c.args.self (compacted c.args.self) _ (g.H.Host.world c.args.host.now) _ c.in_ok-journal.ensures (c.requires.holds tells)
    (c.replace.ensures.files tells)

pub returns-clause-files : goal.returns-clause-files
returns-clause-files g c = λ tells.
    changing c.args.self (compacted c.args.self) _ (g.H.Host.world c.args.host.now) _ c.in_ok-journal.ensures (c.requires.holds tells)
    (c.replace.ensures.files tells)
