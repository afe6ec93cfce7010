-- The two locks of a session (own).
use Rattle.std.specs.Prelude.{◌≡◌, ℕ, List, string_bytes}
use Rattle.unix_host.specs.declared.lock_files.BothLocks.{BothLocks}
use Rattle.unix_host.specs.declared.lock_files.BothLocks.TheVariants as both
use Rattle.unix_host.specs.declared.lock_files.LockPlace.{LockPlace}
use Rattle.unix_host.specs.declared.lock_files.LockPlace.TheVariants.{Beside, Within}
use Rattle.unix_host.specs.declared.lock_files.Tried.{Tried}
use Rattle.unix_host.specs.declared.lock_files.Tried.TheVariants as tried
use Rattle.unix_host.specs.declared.paths.Paths.{Paths}

-- the path of what is locked there: the file next to the directory, and the directory
abbrev pub lock_path : Paths → LockPlace → List ℕ
lock_path paths Beside = string_bytes paths.lock
lock_path paths Within = string_bytes paths.whole

-- what was tried is this one
abbrev pub IsTriedAt : LockPlace → Tried → Type 0
IsTriedAt place (tried.Held file) = file.place ≡ place
IsTriedAt place (tried.Taken file) = file.place ≡ place

-- both are held or neither, and each is still the one it was
abbrev pub AreBoth : LockPlace → LockPlace → BothLocks → Type 0
AreBoth one other (both.Held first second) = (first.place ≡ one) × (second.place ≡ other)
AreBoth one other (both.Taken first second) = (first.place ≡ one) × (second.place ≡ other)
