-- What a call leaves alone that only changes files.
use Rattle.std.specs.Prelude.{◌≡◌, ◌⊎◌, List, ℕ}
use Rattle.std.specs.FinMap as map
use Rattle.host_calls.specs.Directory.{Files, Directory, IsImage}
use Rattle.host_calls.specs.World.{LeavesOnly, World}

-- one of two names
abbrev pub IsEither : List ℕ → List ℕ → List ℕ → Type 0
IsEither first second name = (name ≡ first) ⊎ (name ≡ second)

-- Other files are left alone: at all names but those that may change, the image has what one image of the start has.
pub record LeavesOthers (may_change : List ℕ → Type 0) (start : Directory) (image : Files) : Type 0 where
  pub from : Files
  pub was : IsImage start from
  pub others : (name : List ℕ) → ¬ (may_change name) → map.get image name ≡ map.get from name

-- The call starts nothing and polls no child, and a crash at each of its moments leaves an image that has P.
pub record ChangesFiles (P : Files → Type 0) (old new : World) : Type 0 where
  pub handed : new.now.handed ≡ old.now.handed
  pub asked : new.asked ≡ old.asked
  pub leaves : LeavesOnly (λ image handed. P image × (handed ≡ old.now.handed)) old new
