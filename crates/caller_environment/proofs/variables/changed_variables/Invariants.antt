use Rattle.std.proofs.Common.{◌≡◌, take}
use Rattle.caller_environment.specs.Variables.{changed_variables}
use Rattle.caller_environment.proofs.variables.changed_variables.Given as goal

abbrev pub invariant-loop-variable : goal.invariant-loop-variable
invariant-loop-variable l = l.made ≡ changed_variables l.settings (take l.variable-index l.variables)
