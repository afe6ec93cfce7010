-- What the code finds where it reads a header, byte by byte.
use Rattle.std.specs.Prelude.{◌≡◌, ◌≢◌, ◌<◌, ◌≤◌, ◌⊎◌, ℕ, List, false, length, slice_index, IsTrue}
use Rattle.spool_model.specs.Users.{is_user_byte}
use Rattle.spool_model.specs.declared.user_name.TheConstants.{MAX_USER_NAME}

-- how far two texts agree, and no farther
pub record Matches (bytes text : List ℕ) (count : ℕ) : Type 0 where
  pub in_text : count ≤ length text
  pub in_bytes : count ≤ length bytes
  pub same : (k : ℕ) → k < count → slice_index bytes k ≡ slice_index text k
  pub stops : count < length text → count < length bytes → slice_index bytes count ≢ slice_index text count

-- so many of the first bytes are a user's name, and no more
pub record IsUserRun (rest : List ℕ) (count : ℕ) : Type 0 where
  pub few : count ≤ MAX_USER_NAME
  pub within : count ≤ length rest
  pub each : (k : ℕ) → k < count → IsTrue (is_user_byte (slice_index rest k))
  pub no_dash : 0 < count → slice_index rest 0 ≢ 45
  pub stops : count < MAX_USER_NAME → count < length rest
      → (is_user_byte (slice_index rest count) ≡ false) ⊎ ((count ≡ 0) × (slice_index rest 0 ≡ 45))
