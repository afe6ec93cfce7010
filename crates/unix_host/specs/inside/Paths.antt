-- The paths of a spool directory and of what lies next to it (own).
use Rattle.std.specs.Prelude.{◌++◌, ◌∷◌, ℕ, List, codes}
use Rattle.std.specs.Path.{slash}

-- the directory of the jobs' outputs
abbrev pub outputs_of : List ℕ → List ℕ
outputs_of directory = directory ++ codes ".out"

-- the lock file
abbrev pub lock_of : List ℕ → List ℕ
lock_of directory = directory ++ codes ".lock"

-- the file of this name in the directory
abbrev pub file_in : List ℕ → List ℕ → List ℕ
file_in directory name = directory ++ slash ∷ name
