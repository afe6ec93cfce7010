-- Files that are removed.
use Rattle.std.specs.Prelude.{◌≡◌, ◌≢◌, ◌⊎◌, List, [], ℕ, None, AllPairs, Contains, IsSome}
use Rattle.std.specs.FinMap as map
use Rattle.host_calls.specs.Directory.{Files, Directory, IsInNoImage, reading_of}
use Rattle.whole_file.specs.Others.{LeavesOthers}

-- each of the names is a file, and none occurs twice
pub record AreFiles (names : List (List ℕ)) (files : Files) : Type 0 where
  pub held : (name : List ℕ) → Contains names name → IsSome (map.get files name)
  pub different : AllPairs (λ first second. first ≢ second) names

-- The image is one of the start, of which files with these names may be gone: none of them reads as it never did.
pub record IsClearing (names : List (List ℕ)) (start : Directory) (image : Files) : Type 0 where
  pub alone : LeavesOthers (Contains names) start image
  pub less : (name : List ℕ) → (map.get image name ≡ map.get alone.from name) ⊎ (map.get image name ≡ None)

-- None of the names is in any image, no change of names is pending, and every other name reads as before.
pub record AreCleared (names : List (List ℕ)) (old new : Directory) : Type 0 where
  pub gone : (name : List ℕ) → Contains names name → IsInNoImage new name
  pub durable : new.pending ≡ []
  pub others : (name : List ℕ) → ¬ (Contains names name) → map.get (reading_of new) name ≡ map.get (reading_of old) name
