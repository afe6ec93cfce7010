-- Files next to the store's (own): what a change of such files alone leaves of what a directory shows, and of a store
-- that is current with it.
use Rattle.std.specs.Prelude.{◌≡◌, ℕ, List, Contains}
use Rattle.host_calls.specs.Directory.{Files, Directory}
use Rattle.host_calls.specs.World.{World}
use Rattle.spool_model.specs.JobTable.{JobTable}
use Rattle.spool_shows.specs.Shown.{shown_by}
use Rattle.whole_file.specs.Removal.{AreCleared, IsClearing}
use Rattle.whole_file.specs.Others.{ChangesFiles}
use Rattle.whole_file.specs.Placement.{IsPlaced, IsPlacing}
use Rattle.step_runs.specs.Current.{IsCurrent, IsSpoolName, Kept}

-- a file of this name is none of the store's
abbrev pub IsNoSpoolName : List ℕ → Type 0
IsNoSpoolName name = ¬ (IsSpoolName name)

-- a file next to the store's is placed: each image shows what the one of the start shows that it comes of
abbrev pub PlacingsBesideShowTheSame : Type 0
PlacingsBesideShowTheSame = (temp target bytes : List ℕ) (start : Directory) (image : Files) → IsNoSpoolName temp →
    IsNoSpoolName target →
    (is : IsPlacing temp target bytes start image) → shown_by image ≡ shown_by is.alone.from

-- files next to the store's are removed: so it does
abbrev pub ClearingsBesideShowTheSame : Type 0
ClearingsBesideShowTheSame = (names : List (List ℕ)) (start : Directory) (image : Files) →
    ((name : List ℕ) → Contains names name → IsNoSpoolName name) →
    (is : IsClearing names start image) → shown_by image ≡ shown_by is.alone.from

-- a store that is current stays so where a file next to its own was placed
abbrev pub StoresStayCurrentAfterPlacings : Type 0
StoresStayCurrentAfterPlacings = (kept : Kept) (table : JobTable) (temp target bytes : List ℕ) (old new : World) →
    IsNoSpoolName temp → IsNoSpoolName target → IsCurrent kept old.now.directory table →
    ChangesFiles (IsPlacing temp target bytes old.now.directory) old new →
    IsPlaced temp target bytes old.now.directory new.now.directory → IsCurrent kept new.now.directory table

-- and where files next to its own were removed
abbrev pub StoresStayCurrentAfterClearings : Type 0
StoresStayCurrentAfterClearings = (kept : Kept) (table : JobTable) (names : List (List ℕ)) (old new : World) →
    ((name : List ℕ) → Contains names name → IsNoSpoolName name) → IsCurrent kept old.now.directory table →
    ChangesFiles (IsClearing names old.now.directory) old new →
    AreCleared names old.now.directory new.now.directory → IsCurrent kept new.now.directory table
