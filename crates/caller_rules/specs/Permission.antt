-- Whose a spool is, and what lies next to it (own).
use Rattle.std.specs.Prelude.{◌≡◌, ◌++◌, ◌∷◌, [], ◌&&◌, ◌==◌, ℕ, Bool, true, not, List, Option, Some, None, if◌then◌else◌}
use Rattle.system_calls.specs.SystemCall.{SystemCall}
use Rattle.system_calls.specs.Calls.{link_status_call, status_call}
use Rattle.system_calls.specs.declared.call.FileStatus.{FileStatus}
use Rattle.caller_rules.specs.FileStatuses.{is_link, is_theirs}
use Rattle.caller_rules.specs.SpoolPaths.{AreSpoolPaths}
use Rattle.caller_rules.specs.declared.spool_paths.SpoolPaths.{SpoolPaths}
use Rattle.caller_rules.specs.declared.permission.SpoolStatuses.{SpoolStatuses}

-- no link lies next to the spool, and all of it is the user's
abbrev pub may_work : Option ℕ → SpoolStatuses → Bool
may_work user found =
    not (is_link found.outputs_itself) && not (is_link found.lock_itself)
    && is_theirs user found.spool && is_theirs user found.outputs && is_theirs user found.lock

-- the five questions with these answers
abbrev pub status_calls : SpoolPaths → SpoolStatuses → List SystemCall
status_calls paths found =
    status_call paths.spool found.spool ∷ status_call paths.outputs found.outputs ∷ status_call paths.lock found.lock
    ∷ link_status_call paths.outputs found.outputs_itself ∷ link_status_call paths.lock found.lock_itself ∷ []

-- these questions were asked and no others, and the answers decide
pub record IsJudged (user : Option ℕ) (paths : SpoolPaths) (old new : List SystemCall) (may : Bool) : Type 0 where
  pub found : SpoolStatuses
  pub asked : new ≡ old ++ status_calls paths found
  pub is : may ≡ may_work user found

-- a spool of which the paths were found is judged; one that has none is for who works on it to find
abbrev pub IsJudgedWhere : Option SpoolPaths → Option ℕ → List SystemCall → List SystemCall → Bool → Type 0
IsJudgedWhere (Some paths) user old new may = IsJudged user paths old new may
IsJudgedWhere None user old new may = (new ≡ old) × (may ≡ true)

-- the directory that a path names was judged as a spool is
pub record IsPathJudged (path : List ℕ) (user : Option ℕ) (old new : List SystemCall) (may : Bool) : Type 0 where
  pub paths : Option SpoolPaths
  pub found : List SystemCall
  pub looked_up : AreSpoolPaths path old found paths
  pub judged : IsJudgedWhere paths user found new may

-- the directory that a word names, which does not begin with -
abbrev pub directory_in : List ℕ → Option (List ℕ)
directory_in [] = Some []
directory_in (byte ∷ bytes) = if byte == 45 then None else Some (byte ∷ bytes)

-- the directory that the words name after that of the spool
abbrev pub saved_into : List (List ℕ) → Option (List ℕ)
saved_into (name ∷ word ∷ others) = directory_in word
saved_into _ = None

-- that directory was judged as a spool is, where the words name one
abbrev pub IsSaveJudged : Option (List ℕ) → Option ℕ → List SystemCall → List SystemCall → Bool → Type 0
IsSaveJudged (Some path) user old new may = IsPathJudged path user old new may
IsSaveJudged None user old new may = (new ≡ old) × (may ≡ true)
