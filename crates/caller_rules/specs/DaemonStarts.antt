-- Whether a tool may begin beside the daemons of its spool (own).
use Rattle.std.specs.Prelude.{◌≡◌, [], ◌∷◌, ◌&&◌, ◌||◌, ℕ, Bool, true, false, not, nat_eq, List, Option, Some, None, codes}
use Rattle.std.specs.List.{starts_with}
use Rattle.std.specs.Str.{bytes_eq}
use Rattle.caller_environment.specs.declared.tool_name.ToolName.{ToolName}
use Rattle.caller_environment.specs.declared.tool_name.ToolName.TheVariants.{Atd, Atpost, Atcron}
use Rattle.system_calls.specs.SystemCall.{SystemCall}
use Rattle.caller_rules.specs.DaemonLocks.{IsAtdLock, IsDaemonLock, lock_name}
use Rattle.caller_rules.specs.SpoolPaths.{path_within}
use Rattle.caller_rules.specs.declared.spool_paths.SpoolPaths.{SpoolPaths}

-- a word begins with the option
abbrev pub has_option : List ℕ → List (List ℕ) → Bool
has_option option [] = false
has_option option (word ∷ later) = starts_with nat_eq word option || has_option option later

-- the words of atpost request a trim, by the one after its name
abbrev pub begins_trim : List (List ℕ) → Bool
begins_trim (name ∷ word ∷ later) = bytes_eq word (codes "--trim")
begins_trim _ = false

-- the words run a daemon: atd always, and another one with the option without which it works once
abbrev pub is_daemon_run : ToolName → List (List ℕ) → Bool
is_daemon_run Atd words = true
is_daemon_run Atpost words = has_option (codes "--send") words && not (begins_trim words)
is_daemon_run Atcron words = has_option (codes "-f") words
is_daemon_run _ words = false

-- the daemon took the lock of the file of this name, or may not begin; one without such a file takes none
abbrev pub IsLockedByName : Option (List ℕ) → SpoolPaths → List SystemCall → List SystemCall → Bool → Type 0
IsLockedByName (Some name) paths old new may = IsDaemonLock (path_within paths.spool name) paths old new may
IsLockedByName None paths old new may = (new ≡ old) × (may ≡ true)

-- the daemon took its locks, or may not begin
abbrev pub IsToolBegunBy : ToolName → SpoolPaths → List SystemCall → List SystemCall → Bool → Type 0
IsToolBegunBy Atd paths old new may = IsAtdLock paths old new may
IsToolBegunBy tool paths old new may = IsLockedByName (lock_name tool) paths old new may

-- a daemon takes its locks; nothing else is asked of a tool that is none
abbrev pub IsToolBegunWhere : Bool → ToolName → SpoolPaths → List SystemCall → List SystemCall → Bool → Type 0
IsToolBegunWhere true tool paths old new may = IsToolBegunBy tool paths old new may
IsToolBegunWhere false tool paths old new may = (new ≡ old) × (may ≡ true)

-- the same, where the spool was found; without it nothing is locked
abbrev pub IsToolBegun : ToolName → List (List ℕ) → Option SpoolPaths → List SystemCall → List SystemCall → Bool → Type 0
IsToolBegun tool words (Some paths) old new may = IsToolBegunWhere (is_daemon_run tool words) tool paths old new may
IsToolBegun tool words None old new may = (new ≡ old) × (may ≡ true)
