use Rattle.std.proofs.Common.{◌∙◌, sym, ap}
use Rattle.std.specs.Prelude.{◌&&◌}
use Rattle.start_journal.specs.Journals.{is_drawn, is_legal_after}
use Rattle.start_journal.proofs.JournalLemmas.{legal_is}
use Rattle.start_journal.proofs.MarkLemmas.{and_false}
use Rattle.start_journal.proofs.ReadLemmas.{none_read, refused, taken}
use Rattle.start_journal.proofs.recall.next.Goals as goal
use Rattle.start_journal.proofs.recall.next.Goals.{else-allow-via-else-allow, else-allow-via-then-allow+else-is_drawn}

pub returns-in-None-clause-slot : goal.returns-in-None-clause-slot
returns-in-None-clause-slot c = λ marks tell.
    none_read c.args.last c.right_prefix.result (record { marks = marks; free = c.args.free }) c.args.slot.now c.if-slot-ne43.false
    c.if-free-ne0.false c.in-None.ensures.none c.right_prefix.ensures.prefix

pub returns-then-is_drawn-clause-legal : goal.returns-then-is_drawn-clause-legal
returns-then-is_drawn-clause-legal c = λ marks tell. legal_is marks c.in-Some.mark (sym (c.if-allow.ensures marks tell))

pub returns-then-is_drawn-clause-slot : goal.returns-then-is_drawn-clause-slot
returns-then-is_drawn-clause-slot c = λ marks tell.
    taken c.args.last (record { marks = marks; free = c.args.free }) c.args.slot.now c.in-Some.mark c.if-slot-ne43.false c.if-free-ne0.false
    c.in-Some.ensures.mark (c.if-allow.ensures marks tell) c.if-is_drawn.ensures

pub returns-else-allow-clause-slot : goal.returns-else-allow-clause-slot
returns-else-allow-clause-slot c = λ marks tell.
    refused c.args.last (record { marks = marks; free = c.args.free }) c.args.slot.now c.in-Some.mark c.if-slot-ne43.false
    c.if-free-ne0.false c.in-Some.ensures.mark (elim c.else-allow.branch [
      | else-allow-via-then-allow+else-is_drawn w ↦ ap (λ b. is_legal_after marks c.in-Some.mark && b) (sym w.if-is_drawn.ensures)
          ∙ and_false (is_legal_after marks c.in-Some.mark)
      | else-allow-via-else-allow w ↦ ap (λ b. b && is_drawn c.args.last c.in-Some.mark) (sym (w.if-allow.ensures marks tell))
    ])
