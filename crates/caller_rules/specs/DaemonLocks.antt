-- The locks of the daemons of a spool (own).
use Rattle.std.specs.Prelude.{◌≡◌, ◌++◌, ◌∷◌, [], ◌⊎◌, ℕ, Bool, true, false, List, Option, Some, None, codes}
use Rattle.caller_environment.specs.declared.tool_name.ToolName.{ToolName}
use Rattle.caller_environment.specs.declared.tool_name.ToolName.TheVariants.{Atd, Atpost, Atcron}
use Rattle.system_calls.specs.SystemCall.{SystemCall}
use Rattle.system_calls.specs.Calls.{AddsCall, await_lock_call, lock_directory_call, lock_file_call, make_directory_call, put_file_call, release_lock_call, sync_call}
use Rattle.system_calls.specs.declared.call.LockAttempt.{LockAttempt}
use Rattle.system_calls.specs.declared.call.LockAttempt.TheVariants.{Held, Taken, Absent, Unlocked}
use Rattle.caller_rules.specs.SpoolPaths.{path_within}
use Rattle.caller_rules.specs.declared.spool_paths.SpoolPaths.{SpoolPaths}

-- the file within a spool that a daemon locks
abbrev pub lock_name : ToolName → Option (List ℕ)
lock_name Atd = Some (codes ".ATD")
lock_name Atpost = Some (codes ".ATPOST")
lock_name Atcron = Some (codes ".ATCRON")
lock_name _ = None

-- no other process holds the lock
abbrev pub is_free : LockAttempt → Bool
is_free Taken = false
is_free _ = true

-- the directory of outputs was there or could not be made, or it was made and then its name was to be synced
abbrev pub AreOutputsMade : SpoolPaths → List SystemCall → List SystemCall → Type 0
AreOutputsMade paths old new =
    AddsCall (make_directory_call paths.outputs false) old new
    ⊎ ((synced : Bool)
    × (new ≡ old ++ make_directory_call paths.outputs true ∷ sync_call paths.parent synced ∷ []))

-- the outputs are locked, unless the daemon may not begin
abbrev pub AreOutputsLocked : Bool → SpoolPaths → List SystemCall → List SystemCall → Bool → Type 0
AreOutputsLocked false paths old new may = (new ≡ old) × (may ≡ false)
AreOutputsLocked true paths old new may =
    (attempt : LockAttempt) × AddsCall (lock_directory_call paths.outputs attempt) old new × (may ≡ is_free attempt)

-- the lock file was to be made, and if it was the spool was to be synced
abbrev pub IsLockFilled : List ℕ → SpoolPaths → List SystemCall → List SystemCall → Type 0
IsLockFilled path paths old new =
    AddsCall (put_file_call path false) old new
    ⊎ ((synced : Bool) × (new ≡ old ++ put_file_call path true ∷ sync_call paths.spool synced ∷ []))

-- that was done while the lock of the spool was held, and not where it can't be held
abbrev pub IsLockFileMade : List ℕ → SpoolPaths → List SystemCall → List SystemCall → Type 0
IsLockFileMade path paths old new =
    AddsCall (await_lock_call paths.lock false) old new
    ⊎ ((held filled : List SystemCall) × AddsCall (await_lock_call paths.lock true) old held
    × IsLockFilled path paths held filled × AddsCall release_lock_call filled new)

-- the file was absent: it was to be made, and its lock was tried again
abbrev pub IsLockMade : List ℕ → SpoolPaths → List SystemCall → List SystemCall → LockAttempt → Type 0
IsLockMade path paths old new attempt =
    (made : List SystemCall) × IsLockFileMade path paths old made × AddsCall (lock_file_call path attempt) made new

-- what follows the first attempt
abbrev pub IsLockTriedAfter : LockAttempt → List ℕ → SpoolPaths → List SystemCall → List SystemCall → LockAttempt → Type 0
IsLockTriedAfter Absent path paths old new attempt = IsLockMade path paths old new attempt
IsLockTriedAfter Held path paths old new attempt = (new ≡ old) × (attempt ≡ Held)
IsLockTriedAfter Taken path paths old new attempt = (new ≡ old) × (attempt ≡ Taken)
IsLockTriedAfter Unlocked path paths old new attempt = (new ≡ old) × (attempt ≡ Unlocked)

-- the lock of the file was tried, which was to be made where it was absent
pub record IsLockTried (path : List ℕ) (paths : SpoolPaths) (old new : List SystemCall) (attempt : LockAttempt) : Type 0 where
  pub first : LockAttempt
  pub tried : List SystemCall
  pub asked : AddsCall (lock_file_call path first) old tried
  pub next : IsLockTriedAfter first path paths tried new attempt

-- the daemon may begin unless another process holds the lock of its file
pub record IsDaemonLock (path : List ℕ) (paths : SpoolPaths) (old new : List SystemCall) (may : Bool) : Type 0 where
  pub attempt : LockAttempt
  pub tried : IsLockTried path paths old new attempt
  pub is : may ≡ is_free attempt

-- the atd may begin unless another process holds the lock of its file, or that of the directory of outputs
pub record IsAtdLock (paths : SpoolPaths) (old new : List SystemCall) (may : Bool) : Type 0 where
  pub is_file_free : Bool
  pub made : List SystemCall
  pub file_tried : List SystemCall
  pub outputs_made : AreOutputsMade paths old made
  pub file_locked : IsDaemonLock (path_within paths.spool (codes ".ATD")) paths made file_tried is_file_free
  pub outputs_locked : AreOutputsLocked is_file_free paths file_tried new may
