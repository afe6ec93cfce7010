-- The kernel's table of locks: a line for each lock, with fields between spaces, of which one is the file: two numbers of its
-- device and that of its inode, after colons (proc_locks(5) of Linux).
use Rattle.std.specs.Prelude.{◌≡◌, ◌==◌, ◌∷◌, ℕ, Bool, true, nat_eq, List, codes}
use Rattle.std.specs.Fmt.{decimal}
use Rattle.std.specs.List.{slice_split, list_any, ends_with}
use Rattle.system_calls.specs.Calls.{AddsCall, read_call}
use Rattle.system_calls.specs.SystemCall.{SystemCall}
use Rattle.system_calls.specs.declared.file_read.FileRead.{FileRead}
use Rattle.system_calls.specs.declared.file_read.FileRead.TheVariants.{Whole}

-- how the field of the file of this inode ends
abbrev pub field_ending : ℕ → List ℕ
field_ending inode = 58 ∷ decimal inode

-- the field ends so
abbrev pub ends_so : List ℕ → List ℕ → Bool
ends_so field ending = ends_with nat_eq field ending

-- a field of the line ends so
abbrev pub is_lock_of : List ℕ → List ℕ → Bool
is_lock_of line ending = list_any (λ field. ends_so field ending) (slice_split (λ byte. byte == 32) line)

-- a line of the table has such a field
abbrev pub has_lock : List ℕ → List ℕ → Bool
has_lock table ending = list_any (λ line. is_lock_of line ending) (slice_split (λ byte. byte == 10) table)

-- whether the table, as it was read, has a lock of the file of this inode: one that can't be read counts as if it had
abbrev pub is_locked_by : FileRead → ℕ → Bool
is_locked_by (Whole table) inode = has_lock table (field_ending inode)
is_locked_by _ inode = true

-- the table was read, and decides
pub record IsLockLookedUp (inode : ℕ) (old new : List SystemCall) (is : Bool) : Type 0 where
  pub read : FileRead
  pub asked : AddsCall (read_call (codes "/proc/locks") 67108864 read) old new
  pub decided : is ≡ is_locked_by read inode
