use Rattle.std.proofs.Common.{sym, ◌∙◌}
use Rattle.std.specs.Prelude.{codes}
use Rattle.spool_tests.proofs.SettledLemmas.{absent, each_gives}
use Rattle.spool_tests.proofs.calls.draw_next.Goals as goal

pub draw-requires-clause-last : goal.draw-requires-clause-last
draw-requires-clause-last g c = λ tells.
    each_gives _ (g.H.Host.world c.settle.new.self) _ c.in_ok-number-in-None.number (c.in_ok-settle.ensures.files tells)
    (c.in_ok-number-in-None.ensures.looks tells ∙ c.in_ok-content.ensures.looks tells)
    (rw (c.in_ok-content.ensures.looks tells) at (c.in_ok-number-in-None.ensures.number tells))

pub draw-requires-clause-no_temp : goal.draw-requires-clause-no_temp
draw-requires-clause-no_temp g c = λ tells.
    absent _ (g.H.Host.world c.settle.new.self) _ (codes ".TMP") (c.in_ok-settle.ensures.files tells)
    (c.in_ok-number-in-None.ensures.looks tells ∙ c.in_ok-content.ensures.looks tells)
    (rw c.temporary_name.ensures at (sym c.in-None.is ∙ c.in_ok-content.ensures.content tells))
