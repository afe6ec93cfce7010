use Rattle.std.proofs.Common.{sym, ◌∙◌}
use Rattle.spool_tests.proofs.SettledLemmas.{holds_journal}
use Rattle.spool_tests.proofs.journal_calls.compact.Goals as goal

pub compact-requires-clause-holds : goal.compact-requires-clause-holds
compact-requires-clause-holds g c = λ tells.
    holds_journal _ (g.H.Host.world c.settle.new.self) _ 1 c.in_ok-journal-in-None.journal (c.in_ok-settle.ensures.files tells)
    (c.in_ok-journal-in-None.ensures.looks tells ∙ c.in_ok-content.ensures.looks tells)
    (rw c.temporary_name.ensures at (sym c.in-None.is ∙ c.in_ok-content.ensures.content tells))
    (rw (c.in_ok-content.ensures.looks tells) at (c.in_ok-journal-in-None.ensures.journal tells))
