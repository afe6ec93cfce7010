-- The simple command of each tool, as `clap` reads it.
use Rattle.std.specs.Prelude.{[], ◌∷◌, ℕ, true, List, Some, codes, fold}
use Rattle.clap.specs.Walk.{Rule, Text}
use Rattle.clap.specs.Simple.{App, new_rule, new_shape, with_rule}
use Rattle.clap.specs.declared.builder.action.ArgAction.TheVariants.{Append, Set, SetTrue}

-- a command without arguments, and without a flag that requests help
unfoldable pub bare_app : Text → App
bare_app name = record { top = record (new_shape name) { disable_help_flag = true }; subs = [] }

-- a flag of one letter
abbrev pub flag_rule : Text → ℕ → Rule
flag_rule id letter = record (new_rule id) { short = Some letter; action = Some SetTrue }

-- an option of one letter with a value
abbrev pub value_rule : Text → ℕ → Rule
value_rule id letter = record (new_rule id) { short = Some letter; action = Some Set }

-- an option of a long name with a value
abbrev pub long_rule : Text → Rule
long_rule id = record (new_rule id) { long = Some id; action = Some Set }

-- a flag of a long name
abbrev pub long_flag_rule : Text → Rule
long_flag_rule id = record (new_rule id) { long = Some id; action = Some SetTrue }

-- any number of operands
abbrev pub operands_rule : Rule
operands_rule = record (new_rule (codes "operands")) { action = Some Append }

-- the command with these arguments
abbrev pub app_with : Text → List Rule → App
app_with name rules = fold with_rule (bare_app name) rules

-- `at`: the flags -m, -l, -r and -c, the options -f, -q and -t, and operands
unfoldable pub at_app : App
at_app =
    app_with (codes "at") (
    flag_rule (codes "mail") 109
    ∷ flag_rule (codes "list") 108
    ∷ flag_rule (codes "remove") 114
    ∷ flag_rule (codes "show") 99
    ∷ value_rule (codes "file") 102
    ∷ value_rule (codes "queue") 113
    ∷ value_rule (codes "time") 116
    ∷ operands_rule
    ∷ []
    )

-- `batch`: the option -f
unfoldable pub batch_app : App
batch_app = app_with (codes "batch") (value_rule (codes "file") 102 ∷ [])

-- `atq`: the option -q
unfoldable pub atq_app : App
atq_app = app_with (codes "atq") (value_rule (codes "queue") 113 ∷ [])

-- `atrm`: operands
unfoldable pub atrm_app : App
atrm_app = app_with (codes "atrm") (operands_rule ∷ [])

-- `atd`: the flag -s, and the options -l, -b and --turns
unfoldable pub atd_app : App
atd_app =
    app_with (codes "atd") (
    flag_rule (codes "once") 115
    ∷ value_rule (codes "limit") 108
    ∷ value_rule (codes "interval") 98
    ∷ long_rule (codes "turns")
    ∷ []
    )

-- `atday`: the option --make
unfoldable pub atday_app : App
atday_app = app_with (codes "atday") (long_rule (codes "make") ∷ [])
