use Rattle.start_journal.specs.Slots.{fields_of}
use Rattle.start_journal.proofs.SlotLemmas.{no_mark}
use Rattle.start_journal.proofs.slot.read_mark.Goals as goal

pub returns-in_err-read-clause-none : goal.returns-in_err-read-clause-none
returns-in_err-read-clause-none c = rw c.from_residual.ensures (λ mark spelled. c.in_err-read.ensures.none (fields_of mark) spelled.fields)

pub returns-clause-none : goal.returns-clause-none
returns-clause-none c = no_mark c.args.slot.now c.in_ok-read.field-0 c.mark.result c.in_ok-read.ensures.fields c.mark.ensures.none
