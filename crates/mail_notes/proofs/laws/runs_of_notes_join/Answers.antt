use Rattle.mail_notes.proofs.RunLemmas.{no_notes_are_made, notes_are_made_after, notes_are_stopped_after}
use Rattle.mail_notes.proofs.laws.runs_of_notes_join.Goals as goal

pub returns-clause-none : goal.returns-clause-none
returns-clause-none c = no_notes_are_made

pub returns-clause-made : goal.returns-clause-made
returns-clause-made c = notes_are_made_after

pub returns-clause-stopped : goal.returns-clause-stopped
returns-clause-stopped c = notes_are_stopped_after
