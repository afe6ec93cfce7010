-- A range of a file that is written over in place (own).
use Rattle.std.specs.Prelude.{◌≡◌, List, [], ℕ, length, option_map}
use Rattle.std.specs.FinMap as map
use Rattle.host_calls.specs.Directory.{Files, Directory, IsImage, overwritten, reading_of}
use Rattle.whole_file.specs.Others.{LeavesOthers}

-- no change of names is pending, and the file has the same bytes in every image
pub record IsDurableFile (name : List ℕ) (directory : Directory) : Type 0 where
  pub durable : directory.pending ≡ []
  pub same : (image : Files) → IsImage directory image → map.get image name ≡ map.get (reading_of directory) name

-- other files are left alone, and the file has some bytes in the range, and at all other places what it had at the start
pub record IsOverwriting (name : List ℕ) (offset count : ℕ) (start : Directory) (image : Files) : Type 0 where
  pub alone : LeavesOthers (λ other. other ≡ name) start image
  pub part : List ℕ
  pub as_long : length part ≡ count
  pub written : map.get image name ≡ option_map (λ bytes. overwritten bytes offset part) (map.get (reading_of start) name)

-- the range has these bytes in every image, no change of names is pending, and other files are left alone
pub record IsOverwritten (name : List ℕ) (offset : ℕ) (part : List ℕ) (old new : Directory) : Type 0 where
  pub durable : IsDurableFile name new
  pub written : map.get (reading_of new) name ≡ option_map (λ bytes. overwritten bytes offset part) (map.get (reading_of old) name)
  pub alone : (image : Files) → IsImage new image → LeavesOthers (λ other. other ≡ name) old image
  pub others : (other : List ℕ) → ¬ (other ≡ name) → map.get (reading_of new) other ≡ map.get (reading_of old) other
