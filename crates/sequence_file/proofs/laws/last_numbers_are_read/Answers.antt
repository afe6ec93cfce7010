use Rattle.sequence_file.proofs.LastNumbers as numbers
use Rattle.sequence_file.proofs.laws.last_numbers_are_read.Goals as goal

pub returns-clause-given : goal.returns-clause-given
returns-clause-given c = numbers.last_numbers_are_given

pub returns-clause-damaged : goal.returns-clause-damaged
returns-clause-damaged c = numbers.last_numbers_are_damaged
