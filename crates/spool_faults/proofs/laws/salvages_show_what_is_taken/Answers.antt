use Rattle.spool_faults.proofs.SalvageShown.{salvages_are_saved_alike as alike, salvages_have_no_fault as none, salvages_show_what_is_taken as show}
use Rattle.spool_faults.proofs.laws.salvages_show_what_is_taken.Goals as goal

pub returns-clause-shown : goal.returns-clause-shown
returns-clause-shown c = show

pub returns-clause-faultless : goal.returns-clause-faultless
returns-clause-faultless c = none

pub returns-clause-again : goal.returns-clause-again
returns-clause-again c = alike
