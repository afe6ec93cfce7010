use Rattle.daemon_turn.proofs.LawLemmas.{good_directories_stay_good, readings_stay_good, turns_are_done}
use Rattle.daemon_turn.proofs.laws.turns_end_well.Goals as goal

pub returns-clause-done : goal.returns-clause-done
returns-clause-done c = turns_are_done

pub returns-clause-good : goal.returns-clause-good
returns-clause-good c = good_directories_stay_good

pub returns-clause-shown : goal.returns-clause-shown
returns-clause-shown c = readings_stay_good
