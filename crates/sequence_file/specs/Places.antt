-- Which bytes may be at which place of the sequence file.
use Rattle.std.specs.Prelude.{◌≡◌, ◌≤◌, ◌<◌, ◌==◌, ◌&&◌, ℕ, Bool, true, false, List, length, slice_index, nat_lt, if◌then◌else◌}
use Rattle.text_reader.specs.HexValues.{is_digit}
use Rattle.spool_model.specs.Numbers.{number_digits}

-- the digits of the form, then a newline, and nothing after it
abbrev pub fits_at : Bool → ℕ → ℕ → Bool
fits_at new_form place byte =
    if nat_lt place (number_digits new_form) then is_digit byte else (place == number_digits new_form && byte == 10)

-- each of the first bytes may be in its place, and the next one may not
pub record IsFittingPrefix (new_form : Bool) (bytes : List ℕ) (count : ℕ) : Type 0 where
  pub inside : count ≤ length bytes
  pub each : (place : ℕ) → place < count → fits_at new_form place (slice_index bytes place) ≡ true
  pub next : count < length bytes → fits_at new_form count (slice_index bytes count) ≡ false
