-- The caller's own spool: a crash loses no name in which a job is accepted (own).
use Rattle.std.specs.Prelude.{◌≡◌, ◌++◌, ◌∷◌, [], ◌⊎◌, ℕ, Bool, true, false, List, Option, Some, None, codes, unwrap_or}
use Rattle.std.specs.Path.{path_parent}
use Rattle.system_calls.specs.SystemCall.{SystemCall}
use Rattle.system_calls.specs.Calls.{Continues, link_status_call, put_file_call, status_call, sync_call}
use Rattle.system_calls.specs.declared.call.Answered.{Answered}
use Rattle.system_calls.specs.declared.call.Answered.TheVariants.{DirectoryMade, FilePut}
use Rattle.system_calls.specs.declared.call.FileStatus.{FileStatus}
use Rattle.caller_rules.specs.FileStatuses.{is_directory_status}
use Rattle.caller_rules.specs.SpoolPaths.{path_within}

-- the directory that a path lies in
abbrev pub parent_of : List ℕ → List ℕ
parent_of path = unwrap_or (path_parent path) []

-- the calls end with these
abbrev pub EndWith : List SystemCall → List SystemCall → Type 0
EndWith last calls = (others : List SystemCall) × (calls ≡ others ++ last)

-- the calls that make the name of a directory durable: it is synced, and then the one that it lies in
abbrev pub name_syncs : List ℕ → List SystemCall
name_syncs path = sync_call path true ∷ sync_call (parent_of path) true ∷ []

-- What makes a name durable: of a directory that was made, those calls; of a file, which is synced as it is made, a sync of
-- the directory that it lies in.
abbrev pub IsMadeDurable : List ℕ → Answered → List SystemCall → Type 0
IsMadeDurable path (DirectoryMade true) calls = Continues (name_syncs path) calls
IsMadeDurable path (FilePut true) calls = Continues (sync_call (parent_of path) true ∷ []) calls
IsMadeDurable path _ calls = Unit {0}

-- after each call that made a name come at once those that make it durable
abbrev pub AreDurable : List SystemCall → Type 0
AreDurable [] = Unit {0}
AreDurable (call ∷ calls) = IsMadeDurable call.path call.answered calls × AreDurable calls

-- each name that was made in between is durable
pub record AreDurablyMade (old new : List SystemCall) : Type 0 where
  pub calls : List SystemCall
  pub asked : new ≡ old ++ calls
  pub durable : AreDurable calls

-- the name of a directory was synced
abbrev pub IsNameSynced : List ℕ → List SystemCall → List SystemCall → Type 0
IsNameSynced path old new = new ≡ old ++ name_syncs path

-- a file was made and synced, and then the directory that it lies in
abbrev pub IsFileDurable : List ℕ → List SystemCall → List SystemCall → Type 0
IsFileDurable path old new = new ≡ old ++ put_file_call path true ∷ sync_call (parent_of path) true ∷ []

-- the last that was done made the file durable
abbrev pub EndsWithFile : List ℕ → List SystemCall → Type 0
EndsWithFile path calls = EndWith (put_file_call path true ∷ sync_call (parent_of path) true ∷ []) calls

-- one of the lists was found
abbrev pub HasList : List ℕ → List ℕ → List SystemCall → Type 0
HasList deny allow calls =
    ((status : FileStatus) × EndWith (link_status_call deny (Some status) ∷ []) calls)
    ⊎ ((status : FileStatus) × EndWith (link_status_call allow (Some status) ∷ []) calls)

-- the spool has a list of users: it was found, or was made
abbrev pub IsListedSpool : List ℕ → List SystemCall → Type 0
IsListedSpool spool calls =
    HasList (path_within spool (codes "at.deny")) (path_within spool (codes "at.allow")) calls
    ⊎ EndsWithFile (path_within spool (codes "at.deny")) calls

-- the directory was found, or its name was synced
abbrev pub IsDirectoryThere : List ℕ → List SystemCall → Type 0
IsDirectoryThere path calls =
    ((status : Option FileStatus) × (is_directory_status status ≡ true) × EndWith (status_call path status ∷ []) calls)
    ⊎ EndWith (name_syncs path) calls
