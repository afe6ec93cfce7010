-- What listing the faults of a directory leaves.
use Rattle.std.specs.Prelude.{◌≡◌}
use Rattle.host_calls.specs.Directory.{IsImage}
use Rattle.host_calls.specs.World.{World, reading}
use Rattle.whole_file.specs.Others.{ChangesFiles}

-- The directory reads as before, and at each moment an image is one that it had at the start.
pub record LeavesDirectory (old new : World) : Type 0 where
  pub same : reading new ≡ reading old
  pub files : ChangesFiles (IsImage old.now.directory) old new
