-- The paths of a spool and of what lies next to it (own).
use Rattle.std.specs.Prelude.{◌≡◌, ◌++◌, [], ◌∷◌, ℕ, List, Option, Some, None, codes, option_and_then, option_map, if◌then◌else◌}
use Rattle.std.specs.Path.{path_file_name, path_parent}
use Rattle.std.specs.Str.{bytes_eq}
use Rattle.system_calls.specs.SystemCall.{SystemCall}
use Rattle.system_calls.specs.Calls.{AddsCall, canonical_path_call}
use Rattle.caller_rules.specs.declared.spool_paths.SpoolPaths.{SpoolPaths}

-- the path of a name in a directory
abbrev pub path_within : List ℕ → List ℕ → List ℕ
path_within directory name =
    if bytes_eq directory (codes "/") then directory ++ name else directory ++ codes "/" ++ name

-- the directory, or the present one where it has no name
abbrev pub place_or_here : Option (List ℕ) → List ℕ
place_or_here (Some (byte ∷ bytes)) = byte ∷ bytes
place_or_here (Some []) = codes "."
place_or_here None = codes "."

-- the directory in which a path lies
abbrev pub place_of : List ℕ → List ℕ
place_of path = place_or_here (path_parent path)

-- the path without links of a name in a directory: that of the directory, and the name
abbrev pub IsPathOfName : Option (List ℕ) → List ℕ → List SystemCall → List SystemCall → Option (List ℕ) → Type 0
IsPathOfName (Some name) path old new whole =
    (place : Option (List ℕ)) × AddsCall (canonical_path_call (place_of path) place) old new
    × (whole ≡ option_map (λ directory. path_within directory name) place)
IsPathOfName None path old new whole = (new ≡ old) × (whole ≡ None)

-- the path without links: its own, or where it is absent by that of the directory in which it is to lie
abbrev pub IsWholeBy : Option (List ℕ) → List ℕ → List SystemCall → List SystemCall → Option (List ℕ) → Type 0
IsWholeBy (Some own) path old new whole = (new ≡ old) × (whole ≡ Some own)
IsWholeBy None path old new whole = IsPathOfName (path_file_name path) path old new whole

-- the path without links was asked
pub record IsWholePath (path : List ℕ) (old new : List SystemCall) (whole : Option (List ℕ)) : Type 0 where
  pub own : Option (List ℕ)
  pub after : List SystemCall
  pub asked : AddsCall (canonical_path_call path own) old after
  pub by : IsWholeBy own path after new whole

-- the paths next to a spool of this path in this directory
abbrev pub paths_in : List ℕ → List ℕ → SpoolPaths
paths_in spool parent =
    record { spool = spool; outputs = spool ++ codes ".out"; lock = spool ++ codes ".lock"; parent = parent }

-- those of a spool, which lies in a directory
abbrev pub paths_by : List ℕ → Option SpoolPaths
paths_by spool = option_map (paths_in spool) (path_parent spool)

-- the paths of the spool that a path names
pub record AreSpoolPaths (path : List ℕ) (old new : List SystemCall) (paths : Option SpoolPaths) : Type 0 where
  pub whole : Option (List ℕ)
  pub asked : IsWholePath path old new whole
  pub are : paths ≡ option_and_then paths_by whole
