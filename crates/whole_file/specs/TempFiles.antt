-- What is left under a temporary name by a call that was cut off.
use Rattle.std.specs.Prelude.{◌≡◌, ◌≢◌, List, ℕ}
use Rattle.std.specs.FinMap as map
use Rattle.host_calls.specs.Directory.{Files, Directory, IsImage, IsInNoImage, reading_of}

-- each image has what the reading has under the name
abbrev pub IsDurableAt : List ℕ → Directory → Type 0
IsDurableAt name directory = (image : Files) → IsImage directory image → map.get image name ≡ map.get (reading_of directory) name

-- no image has a file of this name, and every other name reads as before
pub record IsWithout (name : List ℕ) (old new : Directory) : Type 0 where
  pub gone : IsInNoImage new name
  pub others : (other : List ℕ) → other ≢ name → map.get (reading_of new) other ≡ map.get (reading_of old) other
