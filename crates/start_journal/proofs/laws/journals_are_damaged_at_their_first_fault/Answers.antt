use Rattle.start_journal.proofs.FirstFaults.{journals_are_damaged, journals_are_given, whole_journals_are_given}
use Rattle.start_journal.proofs.laws.journals_are_damaged_at_their_first_fault.Goals as goal

pub returns-clause-damaged : goal.returns-clause-damaged
returns-clause-damaged c = journals_are_damaged

pub returns-clause-given : goal.returns-clause-given
returns-clause-given c = journals_are_given

pub returns-clause-whole : goal.returns-clause-whole
returns-clause-whole c = whole_journals_are_given
