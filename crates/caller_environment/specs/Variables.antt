-- The variables of a job (own): PWD and LOGNAME are set, and each other one is that of the process.
use Rattle.std.specs.Prelude.{[], ◌∷◌, ◌++◌, ℕ, Bool, List, Option, Some, None, codes, map, unwrap_or, if◌then◌else◌}
use Rattle.std.specs.List.{list_any}
use Rattle.std.specs.Str.{bytes_eq}
use Rattle.caller_environment.specs.declared.variables.CallerSettings.{CallerSettings}

-- the value that a variable of this name has, where it is one of the two that are set
abbrev pub value_for : CallerSettings → List ℕ → Option (List ℕ)
value_for settings name =
    if bytes_eq name (codes "PWD") then Some settings.directory
    else (if bytes_eq name (codes "LOGNAME") then Some settings.user else None)

-- a variable with the value that is set for its name, or with its own
abbrev pub changed_variable : CallerSettings → List ℕ × List ℕ → List ℕ × List ℕ
changed_variable settings variable = (variable.0, unwrap_or (value_for settings variable.0) variable.1)

-- the variables, each in its place
abbrev pub changed_variables : CallerSettings → List (List ℕ × List ℕ) → List (List ℕ × List ℕ)
changed_variables settings variables = map (changed_variable settings) variables

-- one of the variables has the name
abbrev pub has_variable : List (List ℕ × List ℕ) → List ℕ → Bool
has_variable variables name = list_any (λ variable. bytes_eq variable.0 name) variables

-- the variable of a name, where it has a value
abbrev pub with_name : List ℕ → Option (List ℕ) → List (List ℕ × List ℕ)
with_name name (Some value) = (name, value) ∷ []
with_name name None = []

-- the variable of a name that is set, where the process has none of that name
abbrev pub absent_variable : CallerSettings → List (List ℕ × List ℕ) → List ℕ → List (List ℕ × List ℕ)
absent_variable settings variables name =
    if has_variable variables name then [] else with_name name (value_for settings name)

-- The variables of a job: those of the process in order, with the two values in place, and then each of the two that the
-- process has not.
abbrev pub job_variables : CallerSettings → List (List ℕ × List ℕ) → List (List ℕ × List ℕ)
job_variables settings variables =
    changed_variables settings variables
    ++ absent_variable settings variables (codes "PWD")
    ++ absent_variable settings variables (codes "LOGNAME")
