use Rattle.std.proofs.Common.{sym, ◌∙◌}
use Rattle.std.specs.Prelude.{codes}
use Rattle.spool_tests.proofs.SettledLemmas.{absent}
use Rattle.spool_tests.proofs.replaced_files.replace.Goals as goal

pub place-requires-clause-no_temp : goal.place-requires-clause-no_temp
place-requires-clause-no_temp g c = λ tells.
    rw c.temporary_name-in-None.ensures
    (absent _ (g.H.Host.world c.settle.new.self) _ (codes ".TMP") (c.in_ok-settle.ensures.files tells) (c.in_ok-content.ensures.looks tells)
    (rw c.temporary_name.ensures at (sym c.in-None.is ∙ c.in_ok-content.ensures.content tells)))
