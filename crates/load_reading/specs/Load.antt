-- The load that the first field of a load text tells (own; such a text is that of Linux's
-- /proc/loadavg, proc(5)).
use Rattle.std.specs.Prelude.{◌≡◌, ℕ, ◌+◌, ◌-◌, ◌*◌, ◌≤◌, Bool, true, ◌||◌, ◌==◌, IsTrue, List, [], ◌∷◌, ◌++◌, length, fold}
use Rattle.std.specs.List.{list_all}
use Rattle.std.specs.Char.{is_ascii_digit}
use Rattle.load_reading.specs.declared.load.TheConstants.{MAX_DIGITS}

-- what follows ends the field: it is nothing, or begins with a space or a newline
abbrev pub ends_field : List ℕ → Bool
ends_field [] = true
ends_field (byte ∷ _) = byte == 32 || byte == 10

-- the number and one decimal digit more at its end
abbrev pub with_digit : ℕ → ℕ → ℕ
with_digit number digit = number * 10 + (digit - 48)

-- the number that decimal digits spell
abbrev pub number_of_digits : List ℕ → ℕ
number_of_digits digits = fold with_digit 0 digits

-- the text begins with a point and two digits, and there the field ends; the digits spell the number
pub record SpellsFraction (text : List ℕ) (number : ℕ) : Type 0 where
  pub tenth : ℕ
  pub hundredth : ℕ
  pub rest : List ℕ
  pub spelled : text ≡ 46 ∷ tenth ∷ hundredth ∷ rest
  pub tenth_digit : IsTrue (is_ascii_digit tenth)
  pub hundredth_digit : IsTrue (is_ascii_digit hundredth)
  pub ended : IsTrue (ends_field rest)
  pub value : number ≡ number_of_digits (tenth ∷ hundredth ∷ [])

-- the text begins with one to seven digits and then with a fraction; the load counts hundredths
pub record SpellsLoad (text : List ℕ) (load : ℕ) : Type 0 where
  pub whole : List ℕ
  pub rest : List ℕ
  pub hundredths : ℕ
  pub spelled : text ≡ whole ++ rest
  pub some : 1 ≤ length whole
  pub few : length whole ≤ MAX_DIGITS
  pub digits : IsTrue (list_all is_ascii_digit whole)
  pub fraction : SpellsFraction rest hundredths
  pub value : load ≡ number_of_digits whole * 100 + hundredths
