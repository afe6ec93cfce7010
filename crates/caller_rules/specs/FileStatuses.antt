-- Whose a file is, and what it is (own).
use Rattle.std.specs.Prelude.{◌≡◌, ◌==◌, ◌&&◌, ◌++◌, [], ◌∷◌, ℕ, Bool, true, false, List, Option, Some, None}
use Rattle.system_calls.specs.SystemCall.{SystemCall}
use Rattle.system_calls.specs.Calls.{AddsCall, status_call}
use Rattle.system_calls.specs.declared.call.FileKind.{FileKind}
use Rattle.system_calls.specs.declared.call.FileKind.TheVariants.{Directory, Link}
use Rattle.system_calls.specs.declared.call.FileStatus.{FileStatus}

abbrev pub is_directory_kind : FileKind → Bool
is_directory_kind Directory = true
is_directory_kind _ = false

abbrev pub is_link_kind : FileKind → Bool
is_link_kind Link = true
is_link_kind _ = false

-- it is a directory
abbrev pub is_directory_status : Option FileStatus → Bool
is_directory_status (Some status) = is_directory_kind status.kind
is_directory_status None = false

-- it is a link
abbrev pub is_link : Option FileStatus → Bool
is_link (Some status) = is_link_kind status.kind
is_link None = false

-- it is a directory of the user's
abbrev pub is_directory_of : ℕ → Option FileStatus → Bool
is_directory_of user (Some status) = is_directory_kind status.kind && status.owner == user
is_directory_of user None = false

-- it is the user's: what is absent is anybody's, and where the system reports no user number, all is
abbrev pub is_theirs : Option ℕ → Option FileStatus → Bool
is_theirs (Some user) (Some status) = status.owner == user
is_theirs (Some user) None = true
is_theirs None status = true

-- both are one directory
abbrev pub is_one_directory : Option FileStatus → Option FileStatus → Bool
is_one_directory (Some one) (Some other) =
    is_directory_kind one.kind && one.inode == other.inode && one.device == other.device
is_one_directory (Some one) None = false
is_one_directory None other = false

-- both paths were looked at
pub record AreCompared (one other : List ℕ) (old new : List SystemCall) (is : Bool) : Type 0 where
  pub first : Option FileStatus
  pub second : Option FileStatus
  pub asked : new ≡ old ++ status_call one first ∷ status_call other second ∷ []
  pub decided : is ≡ is_one_directory first second

-- one question about a file was asked, and its answer decides
pub record IsDecidedBy (question : Option FileStatus → SystemCall) (decides : Option FileStatus → Bool)
    (old new : List SystemCall) (is : Bool) : Type 0 where
  pub status : Option FileStatus
  pub asked : AddsCall (question status) old new
  pub decided : is ≡ decides status
