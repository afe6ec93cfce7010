use Rattle.std.proofs.Common.{List, ℕ, sym, subst, ◌+◌}
use Rattle.start_journal.specs.Journals.{SpellsJournal}
use Rattle.start_journal.proofs.TextLemmas.{free_spelled}
use Rattle.start_journal.proofs.text.journal_text.Goals as goal

pub loop-count-preserved : goal.loop-count-preserved
loop-count-preserved c =
    let spelled : List ℕ → Type 0 = λ text. SpellsJournal text c.args.marks.now (c.loop-count.count + 1) in
    subst spelled (sym c.in_ok-extend_from_slice.ensures.items)
    (free_spelled c.loop-count.text.items c.free_slot.result c.args.marks.now c.loop-count.count c.free_slot.ensures c.loop-count.invariant)
