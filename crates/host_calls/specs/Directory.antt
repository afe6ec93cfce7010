-- The spool directory: what its files read as, and what a crash may leave of them.
--
-- A change of names (a file made, renamed or removed) is pending until the names are synced, and bytes
-- that are written are not synced until their file is synced. So POSIX has it: without fsync nothing is
-- promised of either (IEEE Std 1003.1-2017, XSH fsync and rename).
use Rattle.std.specs.Prelude.{◌≡◌, ◌⊎◌, ◌+◌, ◌≤◌, ◌==◌, ◌||◌, ◌&&◌, ◌++◌, [], ◌∷◌, ℕ, Bool, true, false, List, Option, Some, None, MatchBool, length, map, slice_index, take, drop, nat_le, nat_lt, if◌then◌else◌}
use Rattle.std.specs.Ordering.{nat_cmp}
use Rattle.std.specs.Cmp.Lexicographic.{slice_cmp}
use Rattle.std.specs.declared.cmp.Ordering.{Ordering}
use Rattle.std.specs.FinMap as map
use Rattle.std.specs.FinMap.{FinMap, entries, from_entries}

-- the order of names, byte by byte
abbrev pub name_cmp : List ℕ → List ℕ → Ordering
name_cmp = slice_cmp nat_cmp

-- the bytes of files, by their names
abbrev pub Files : Type 0
Files = FinMap name_cmp (List ℕ)

-- the number of a body, by the name that holds it
abbrev pub Names : Type 0
Names = FinMap name_cmp ℕ

-- the body of a file: its bytes, whether it was synced since it was made, and its unsynced places
pub record Body : Type 0 where
  pub bytes : List ℕ
  pub is_synced : Bool
  pub is_unsynced_at : ℕ → Bool

-- a change of names
pub data Change : Type 0 where
  Made : (name : List ℕ) (body : ℕ) → Change
  Renamed : (from to : List ℕ) → Change
  Removed : (name : List ℕ) → Change

-- the names that are durable, the changes that are pending, the newest first, and the bodies by their numbers
pub record Directory : Type 0 where
  pub durable : Names
  pub pending : List Change
  pub body : ℕ → Body

-- the names after one of them has moved, if it was there
abbrev pub moved : Option ℕ → List ℕ → List ℕ → Names → Names
moved None from to names = names
moved (Some body) from to names = map.insert (map.remove names from) to body

-- the names after a change, which does nothing where its source is missing
abbrev pub changed_names : Change → Names → Names
changed_names (Made name body) names = map.insert names name body
changed_names (Renamed from to) names = moved (map.get names from) from to names
changed_names (Removed name) names = map.remove names name

-- the names after all of the changes
abbrev pub names_after : List Change → Names → Names
names_after [] durable = durable
names_after (change ∷ older) durable = changed_names change (names_after older durable)

-- these are the names after some of the changes, taken in their order
abbrev pub AreAfterSome : List Change → Names → Names → Type 0
AreAfterSome [] durable names = names ≡ durable
AreAfterSome (change ∷ older) durable names =
    (before : Names) × AreAfterSome older durable before × ((names ≡ before) ⊎ (names ≡ changed_names change before))

-- as many bytes as the body has, the same at each place that is durable
pub record IsSameElsewhere (body : Body) (bytes : List ℕ) : Type 0 where
  pub counted : length bytes ≡ length body.bytes
  pub durable : (place : ℕ) → body.is_unsynced_at place ≡ false → slice_index bytes place ≡ slice_index body.bytes place

-- What a crash may leave of a body. One that was never synced may have any length up to its own.
abbrev pub MayHold : Body → List ℕ → Type 0
MayHold body bytes = MatchBool body.is_synced (IsSameElsewhere body bytes) (length bytes ≤ length body.bytes)

-- what a crash may leave at a name that holds this body, or none
abbrev pub MayHoldAt : (ℕ → Body) → Option ℕ → Option (List ℕ) → Type 0
MayHoldAt body None None = Unit {0}
MayHoldAt body (Some number) (Some bytes) = MayHold (body number) bytes
MayHoldAt body _ _ = ⊥

-- The files are an image of the directory: a crash may leave them.
pub record IsImage (directory : Directory) (image : Files) : Type 0 where
  pub names : Names
  pub chosen : AreAfterSome directory.pending directory.durable names
  pub each : (name : List ℕ) → MayHoldAt directory.body (map.get names name) (map.get image name)

-- the names as they read now
abbrev pub names_of : Directory → Names
names_of directory = names_after directory.pending directory.durable

-- the files of these names and bodies
unfoldable pub files_of : (ℕ → Body) → Names → Files
files_of body names = from_entries (map (λ entry. (entry.0, (body entry.1).bytes)) (entries names))

-- the reading: the files as they read now
abbrev pub reading_of : Directory → Files
reading_of directory = files_of directory.body (names_of directory)

-- no image has the name
abbrev pub IsInNoImage : Directory → List ℕ → Type 0
IsInNoImage directory name = (image : Files) → IsImage directory image → map.get image name ≡ None

-- each image of the one directory is an image of the other
abbrev pub HasImagesOf : Directory → Directory → Type 0
HasImagesOf old new = (image : Files) → IsImage new image → IsImage old image

-- What a call on one file or on the names does.

-- the bodies with one of them changed
abbrev pub with_body : (ℕ → Body) → ℕ → Body → ℕ → Body
with_body bodies number body other = if other == number then body else bodies other

-- no choice of the pending changes gives a name this number
abbrev pub IsFresh : Directory → ℕ → Type 0
IsFresh directory number =
    (names : Names) → AreAfterSome directory.pending directory.durable names → (name : List ℕ) → ¬ (map.get names name ≡ Some number)

-- a file that was just made
abbrev pub made_body : List ℕ → Body
made_body bytes = record { bytes = bytes; is_synced = false; is_unsynced_at = λ _. true }

-- the directory with one more file
abbrev pub with_file : List ℕ → ℕ → List ℕ → Directory → Directory
with_file name number bytes directory =
    record {
      durable = directory.durable;
      pending = Made name number ∷ directory.pending;
      body = with_body directory.body number
          (made_body bytes);
    }

-- the file was made, under a number that no other has
pub record IsMade (name bytes : List ℕ) (old new : Directory) : Type 0 where
  pub number : ℕ
  pub fresh : IsFresh old number
  pub made : new ≡ with_file name number bytes old

-- a part of the file was made: fewer bytes, or others
pub record IsMadeInPart (name bytes : List ℕ) (old new : Directory) : Type 0 where
  pub part : List ℕ
  pub shorter : length part ≤ length bytes
  pub made : IsMade name part old new

-- the place lies in the range
abbrev pub is_within : ℕ → ℕ → ℕ → Bool
is_within offset count place = nat_le offset place && nat_lt place (offset + count)

-- the bytes with others from the offset on
abbrev pub overwritten : List ℕ → ℕ → List ℕ → List ℕ
overwritten old offset bytes = take offset old ++ bytes ++ drop (offset + length bytes) old

-- the body after a write
abbrev pub written_body : ℕ → List ℕ → Body → Body
written_body offset bytes body =
    record {
      bytes = overwritten body.bytes offset bytes;
      is_synced = body.is_synced;
      is_unsynced_at = λ place. body.is_unsynced_at place || is_within offset (length bytes) place;
    }

-- the name alone holds the body of this number
pub record IsHeldAt (names : Names) (name : List ℕ) (number : ℕ) : Type 0 where
  pub held : map.get names name ≡ Some number
  pub alone : (other : List ℕ) → map.get names other ≡ Some number → other ≡ name

-- the directory with one body changed
abbrev pub with_changed : ℕ → (Body → Body) → Directory → Directory
with_changed number change directory =
    record {
      durable = directory.durable;
      pending = directory.pending;
      body = with_body directory.body number
          (change (directory.body number));
    }

-- the range of the file was written
pub record IsWritten (name : List ℕ) (offset : ℕ) (bytes : List ℕ) (old new : Directory) : Type 0 where
  pub number : ℕ
  pub held : IsHeldAt (names_of old) name number
  pub written : new ≡ with_changed number (written_body offset bytes) old

-- the range of the file was written in part, or with other bytes
pub record IsWrittenInPart (name : List ℕ) (offset : ℕ) (bytes : List ℕ) (old new : Directory) : Type 0 where
  pub part : List ℕ
  pub as_long : length part ≡ length bytes
  pub written : IsWritten name offset part old new

-- the body after a sync
abbrev pub durable_body : Body → Body
durable_body body = record { bytes = body.bytes; is_synced = true; is_unsynced_at = λ _. false }

-- the directory after all of it was synced: the reading is its only image
abbrev pub settled : Directory → Directory
settled directory = record { durable = names_of directory; pending = []; body = λ number. durable_body (directory.body number) }

-- the file was synced: its bytes are durable
pub record IsSynced (name : List ℕ) (old new : Directory) : Type 0 where
  pub number : ℕ
  pub held : map.get (names_of old) name ≡ Some number
  pub synced : new ≡ with_changed number durable_body old

-- the directory after its names were synced
abbrev pub with_names_durable : Directory → Directory
with_names_durable directory = record { durable = names_of directory; pending = []; body = directory.body }

-- the names were synced: no change of them is pending
abbrev pub HasNamesSynced : Directory → Directory → Type 0
HasNamesSynced old new = new ≡ with_names_durable old

-- the directory with one more change of names
abbrev pub with_change : Change → Directory → Directory
with_change change directory = record { durable = directory.durable; pending = change ∷ directory.pending; body = directory.body }

-- the file of one name was moved to another
abbrev pub IsRenamed : List ℕ → List ℕ → Directory → Directory → Type 0
IsRenamed from to old new = new ≡ with_change (Renamed from to) old

-- the name was removed
abbrev pub IsRemoved : List ℕ → Directory → Directory → Type 0
IsRemoved name old new = new ≡ with_change (Removed name) old

-- all of the directory was synced
abbrev pub IsSettled : Directory → Directory → Type 0
IsSettled old new = new ≡ settled old

-- a part of the directory was synced
pub record IsSyncedInPart (old new : Directory) : Type 0 where
  pub reading : reading_of new ≡ reading_of old
  pub images : HasImagesOf old new
