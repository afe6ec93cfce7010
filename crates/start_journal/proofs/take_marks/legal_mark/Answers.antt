use Rattle.start_journal.proofs.TakenLemmas.{legal_none, legal_some, unspelled_none}
use Rattle.start_journal.proofs.take_marks.legal_mark.Goals as goal

pub returns-in-Some : goal.returns-in-Some
returns-in-Some c = λ marks tell. legal_some marks c.args.slot.now c.in-Some.mark c.in-Some.ensures.mark (c.if-allow.ensures marks tell)

pub returns-in_default : goal.returns-in_default
returns-in_default c = λ marks tell. legal_none marks c.args.slot.now c.in-Some.mark c.in-Some.ensures.mark (c.if-allow.ensures marks tell)

pub returns-in_default-2 : goal.returns-in_default-2
returns-in_default-2 c = λ marks tell. unspelled_none marks c.args.slot.now c.in_default.ensures.none
