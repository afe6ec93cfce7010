-- What every host reports of itself, also one that does not expose its files.
use Rattle.std.specs.Prelude.{◌≡◌, ◌≤◌, ◌++◌, ℕ, Bool, true, false, List, Result, IfOk, Contains, is_ok, option_to_list}
use Rattle.std.specs.Result.{result_ok}
use Rattle.host_calls.specs.declared.child.Child.{Child}
use Rattle.host_calls.specs.Causes.{HasCause}

-- Whether a session is on, the children since the last reboot, in order, what the host was made as,
-- and how many faults of files, of starts and how many taken locks there were.
pub record Session : Type 0 where
  pub inside : Bool
  pub children : List Child
  pub made_as : List ℕ
  pub file_faults : ℕ
  pub start_faults : ℕ
  pub taken : ℕ

abbrev pub IsInside : Session → Type 0
IsInside session = session.inside ≡ true

abbrev pub IsOutside : Session → Type 0
IsOutside session = session.inside ≡ false

-- what it was made as stays, and no count falls
pub record KeepsCounts (old new : Session) : Type 0 where
  pub made_as : new.made_as ≡ old.made_as
  pub file_faults : old.file_faults ≤ new.file_faults
  pub start_faults : old.start_faults ≤ new.start_faults
  pub taken : old.taken ≤ new.taken

-- a call within a session, which starts no child
pub record StaysInside (old new : Session) : Type 0 where
  pub inside : IsInside new
  pub children : new.children ≡ old.children
  pub counts : KeepsCounts old new

-- a call within a session that starts no child and may fail: the fault is answered only where the count of
-- faults of files rose
pub record CallsInside {T E : Type 0} (fault : E) (old new : Session) (result : Result T E) : Type 0 where
  pub stays : StaysInside old new
  pub cause : HasCause fault old.file_faults new.file_faults result

-- a session begins where the call succeeds
pub record Enters {T E : Type 0} (old new : Session) (result : Result T E) : Type 0 where
  pub inside : new.inside ≡ is_ok result
  pub children : new.children ≡ old.children
  pub counts : KeepsCounts old new

-- a session ends
pub record IsLeft (old new : Session) : Type 0 where
  pub outside : IsOutside new
  pub children : new.children ≡ old.children
  pub counts : KeepsCounts old new

-- a call within a session that starts a child, with a number that no child has, or none
pub record Starts {E : Type 0} (old new : Session) (result : Result Child E) : Type 0 where
  pub inside : IsInside new
  pub children : new.children ≡ old.children ++ option_to_list (result_ok result)
  pub is_new : IfOk result (λ child. ¬ (Contains old.children child))
  pub counts : KeepsCounts old new
