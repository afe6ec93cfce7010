use Rattle.std.proofs.Common.{List, ℕ, sym, subst, take, ◌+◌}
use Rattle.start_journal.specs.Journals.{SpellsJournal}
use Rattle.start_journal.proofs.TextLemmas.{next_spelled}
use Rattle.start_journal.proofs.text.slots_of.Goals as goal

pub loop-mark-preserved : goal.loop-mark-preserved
loop-mark-preserved c =
    let spelled : List ℕ → Type 0 = λ text. SpellsJournal text (take (c.loop-mark.mark-index + 1) c.args.marks.now) 0 in
    subst spelled (sym c.in_ok-extend_from_slice.ensures.items) (next_spelled c.loop-mark.text.items c.mark_text.result c.args.marks.now
    c.loop-mark.mark-index _ c.loop-mark.invariant c.loop-mark-test.true c.mark_text.ensures)
