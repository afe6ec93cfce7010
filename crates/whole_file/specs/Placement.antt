-- A file that is replaced whole, by way of a temporary name.
use Rattle.std.specs.Prelude.{◌≡◌, ◌⊎◌, List, [], ℕ, Some}
use Rattle.std.specs.FinMap as map
use Rattle.host_calls.specs.Directory.{Files, Directory, IsHeldAt, IsImage, IsInNoImage, names_of, reading_of}
use Rattle.whole_file.specs.Others.{IsEither, LeavesOthers}

-- The image is one of the start at all names but two, and has the new bytes at the target, or what that one has there.
pub record IsPlacing (temp target bytes : List ℕ) (start : Directory) (image : Files) : Type 0 where
  pub alone : LeavesOthers (IsEither temp target) start image
  pub placed : (map.get image target ≡ map.get alone.from target) ⊎ (map.get image target ≡ Some bytes)

-- The target has the bytes in every image and holds its file alone, the temporary name is gone,
-- no change of names is pending, and every other name reads as before.
pub record IsPlaced (temp target bytes : List ℕ) (old new : Directory) : Type 0 where
  pub placed : (image : Files) → IsImage new image → map.get image target ≡ Some bytes
  pub no_temp : IsInNoImage new temp
  pub durable : new.pending ≡ []
  pub others : (name : List ℕ) → ¬ (IsEither temp target name) → map.get (reading_of new) name ≡ map.get (reading_of old) name
  pub alone : (number : ℕ) × IsHeldAt (names_of new) target number
