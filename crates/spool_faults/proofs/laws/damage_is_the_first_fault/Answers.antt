use Rattle.spool_faults.proofs.FirstFault.{damage_is_the_first_fault as first, faultless_directories_are_saved_whole as whole}
use Rattle.spool_faults.proofs.laws.damage_is_the_first_fault.Goals as goal

pub returns-clause-first : goal.returns-clause-first
returns-clause-first c = first

pub returns-clause-whole : goal.returns-clause-whole
returns-clause-whole c = whole
