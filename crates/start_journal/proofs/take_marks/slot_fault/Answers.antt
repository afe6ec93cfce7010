use Rattle.std.proofs.Common.{◌∙◌, sym}
use Rattle.start_journal.proofs.TakenLemmas.{place_found}
use Rattle.start_journal.proofs.take_marks.slot_fault.Goals as goal

pub returns-clause-fault : goal.returns-clause-fault
returns-clause-fault c = λ marks tell.
    place_found c.next.result _ (record { marks = marks; free = c.args.free }) (c.next.ensures.slot marks tell) ∙ sym c.err.ensures.value
