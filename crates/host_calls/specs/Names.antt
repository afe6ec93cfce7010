-- Names of plain files in the spool directory.
use Rattle.std.specs.Prelude.{◌≡◌, ◌≢◌, ◌≤◌, ◌==◌, ◌||◌, ◌-◌, ℕ, Bool, List, ◌++◌, length, take, replicate, codes, IsTrue}
use Rattle.std.specs.List.{list_all}
use Rattle.std.specs.Char.{is_ascii_alphanumeric}

-- an ASCII letter or digit, a point, an underscore or a dash
abbrev pub is_name_byte : ℕ → Bool
is_name_byte byte = is_ascii_alphanumeric byte || byte == 46 || byte == 95 || byte == 45

-- each byte may be in a name
abbrev pub are_name_bytes : List ℕ → Bool
are_name_bytes bytes = list_all is_name_byte bytes

-- the bytes are a name: 1 to 64 bytes that may be in one, and not one or two points alone
pub record IsName (bytes : List ℕ) : Type 0 where
  pub some : 1 ≤ length bytes
  pub few : length bytes ≤ 64
  pub each : IsTrue (are_name_bytes bytes)
  pub no_point : bytes ≢ codes "."
  pub no_points : bytes ≢ codes ".."

-- the bytes and zeros up to 64
abbrev pub padded_name : List ℕ → List ℕ
padded_name bytes = bytes ++ replicate (64 - length bytes) 0

-- the first of the 64 bytes are a name, and the others are zeros
pub record IsPaddedName (bytes : List ℕ) (count : ℕ) : Type 0 where
  pub name : IsName (take count bytes)
  pub counted : length (take count bytes) ≡ count
  pub zeros : bytes ≡ padded_name (take count bytes)
