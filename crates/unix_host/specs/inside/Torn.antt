-- Which files a power cut may tear, as far as a session knows (own).
use Rattle.std.specs.Prelude.{◌≡◌, ◌≢◌, ◌⊎◌, ℕ, List, Bool, true, false, IsTrue, Some, nat_eq}
use Rattle.std.specs.Cmp.Lexicographic.{pointwise}
use Rattle.unix_host.specs.Unsynced.{is_torn, torn_alone}
use Rattle.unix_host.specs.declared.torn.Torn.{Torn}
use Rattle.unix_host.specs.declared.torn.Torn.TheVariants.{Nobody, One, Each}

-- the bytes of the file of this name may be unsynced
abbrev pub may_tear : Torn → List ℕ → Bool
may_tear Nobody name = false
may_tear (One other) name = pointwise nat_eq other name
may_tear Each name = true

-- whatever file may be torn before may be torn after
abbrev pub KeepsTorn : Torn → Torn → Type 0
KeepsTorn old new = (name : List ℕ) → IsTrue (may_tear old name) → IsTrue (may_tear new name)

-- whatever other file than this one may be torn before may be torn after
abbrev pub KeepsTornBeside : List ℕ → Torn → Torn → Type 0
KeepsTornBeside synced old new = (name : List ℕ) → name ≢ synced → IsTrue (may_tear old name) → IsTrue (may_tear new name)

-- this file may be torn too, and alone where no other could be
pub record HasTorn (name : List ℕ) (old new : Torn) : Type 0 where
  pub torn : IsTrue (may_tear new name)
  pub kept : KeepsTorn old new
  pub first : is_torn old ≡ false → new ≡ One name
  pub again : torn_alone old ≡ Some name → new ≡ old

-- this file was synced: where it alone could be torn none may be; no other is forgotten, and none is new
pub record HasWhole (name : List ℕ) (old new : Torn) : Type 0 where
  pub others : KeepsTornBeside name old new
  pub few : (new ≡ Nobody) ⊎ (new ≡ old)
  pub last : torn_alone old ≡ Some name → new ≡ Nobody

-- this file gets another name: where it may be torn, each may be, and else the same as before
pub record HasMoved (name : List ℕ) (old new : Torn) : Type 0 where
  pub torn : IsTrue (may_tear old name) → new ≡ Each
  pub whole : may_tear old name ≡ false → new ≡ old
