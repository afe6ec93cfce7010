-- Which sessions of mail have no end (own).
use Rattle.std.specs.Prelude.{◌&&◌, ℕ, Bool, not, List, codes}
use Rattle.caller_rules.specs.DaemonStarts.{has_option}

-- the words request sessions without an end
abbrev pub is_endless : List (List ℕ) → Bool
is_endless words = has_option (codes "--send") words && not (has_option (codes "--turns") words)
