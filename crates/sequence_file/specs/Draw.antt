-- A number that is drawn.
use Rattle.std.specs.Prelude.{◌⊎◌, ◌+◌, ℕ, true, List}
use Rattle.std.specs.FinMap as map
use Rattle.host_calls.specs.Directory.{Files, Directory, IsImage}
use Rattle.whole_file.specs.Others.{IsEither, LeavesOthers}
use Rattle.whole_file.specs.Placement.{IsPlaced}
use Rattle.sequence_file.specs.Sequence.{GivesNumber, SpellsIn, sequence_file}
use Rattle.whole_file.specs.Temporary.{temporary_file}

-- the sequence file gives the number in every image
abbrev pub EachGivesNumber : ℕ → Directory → Type 0
EachGivesNumber number directory = (image : Files) → IsImage directory image → GivesNumber (map.get image sequence_file) number

-- the image gives the last number or the next one, and other files are left alone
pub record IsDrawing (last : ℕ) (start : Directory) (image : Files) : Type 0 where
  pub alone : LeavesOthers (IsEither temporary_file sequence_file) start image
  pub gives : GivesNumber (map.get image sequence_file) last ⊎ GivesNumber (map.get image sequence_file) (last + 1)

-- the sequence file gives the number in every image, with the same bytes in the new form, and all else reads as before
pub record IsNumberDrawn (number : ℕ) (old new : Directory) : Type 0 where
  pub text : List ℕ
  pub spelled : SpellsIn true text number
  pub placed : IsPlaced temporary_file sequence_file text old new
