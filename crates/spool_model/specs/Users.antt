-- Names of users.
use Rattle.std.specs.Prelude.{◌≡◌, ◌≢◌, ◌≤◌, ◌==◌, ◌||◌, ◌-◌, ℕ, Bool, List, ◌++◌, length, take, replicate, slice_index, IsTrue}
use Rattle.std.specs.List.{list_all}
use Rattle.std.specs.Char.{is_ascii_alphanumeric}

-- an ASCII letter or digit, or one of . _ - $ + @ (own: the portable names of POSIX, XBD 3.437, and three more)
abbrev pub is_user_byte : ℕ → Bool
is_user_byte byte =
    is_ascii_alphanumeric byte || byte == 46 || byte == 95 || byte == 45 || byte == 36 || byte == 43 || byte == 64

-- each byte may be in a user's name
abbrev pub are_user_bytes : List ℕ → Bool
are_user_bytes bytes = list_all is_user_byte bytes

-- the bytes are a user's name: 1 to 32 bytes that may be in one, the first of them not -
pub record IsUserName (bytes : List ℕ) : Type 0 where
  pub some : 1 ≤ length bytes
  pub few : length bytes ≤ 32
  pub each : IsTrue (are_user_bytes bytes)
  pub no_dash : slice_index bytes 0 ≢ 45

-- the bytes and zeros up to 32
abbrev pub padded_user : List ℕ → List ℕ
padded_user bytes = bytes ++ replicate (32 - length bytes) 0

-- the first of the 32 bytes are a user's name, and the others are zeros
pub record IsPaddedUser (bytes : List ℕ) (count : ℕ) : Type 0 where
  pub name : IsUserName (take count bytes)
  pub counted : length (take count bytes) ≡ count
  pub zeros : bytes ≡ padded_user (take count bytes)
