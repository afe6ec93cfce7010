use Rattle.step_runs.proofs.CutOffLemmas.{calls_are_cut_off, steps_are_cut_off_after}
use Rattle.step_runs.proofs.made.calls_are_cut_off.Goals as goal

pub returns-clause-cut_off : goal.returns-clause-cut_off
returns-clause-cut_off c = calls_are_cut_off

pub returns-clause-later : goal.returns-clause-later
returns-clause-later c = steps_are_cut_off_after
