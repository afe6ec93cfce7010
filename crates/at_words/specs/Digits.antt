-- Numbers in decimal digits.
use Rattle.std.specs.Prelude.{◌+◌, ◌-◌, ◌*◌, ◌==◌, ◌&&◌, [], ◌∷◌, ℕ, Bool, List, Option, Some, None, length, nat_le, option_map, if◌then◌else◌}
use Rattle.std.specs.List.{list_all, list_any, before_first, after_first}
use Rattle.std.specs.Char.{is_ascii_digit}
use Rattle.at_words.specs.declared.digits.TheConstants.{MAX_WHOLE_LOAD}

-- the number that the digits write when they follow those of another
abbrev pub digits_after : ℕ → List ℕ → ℕ
digits_after number [] = number
digits_after number (digit ∷ others) = digits_after (10 * number + (digit - 48)) others

-- the number that the digits write
abbrev pub decimal_of : List ℕ → ℕ
decimal_of digits = digits_after 0 digits

-- the text is digits alone: one, or more up to so many
abbrev pub are_decimal_digits : ℕ → List ℕ → Bool
are_decimal_digits most text = nat_le 1 (length text) && nat_le (length text) most && list_all is_ascii_digit text

-- the number, where it is from the least to the greatest
abbrev pub within : ℕ → ℕ → ℕ → Option ℕ
within least greatest number = if nat_le least number && nat_le number greatest then Some number else None

-- the number from the least to the greatest that so many digits at most write
abbrev pub decimal_in : ℕ → ℕ → ℕ → List ℕ → Option ℕ
decimal_in most least greatest text =
    if are_decimal_digits most text then within least greatest (decimal_of text) else None

-- the hundredths that the digits after a point write: one or two
abbrev pub fraction_of : List ℕ → Option ℕ
fraction_of text =
    if length text == 1 then option_map (λ tenths. tenths * 10) (decimal_in 1 0 9 text) else decimal_in 2 0 99 text

-- whole units and hundredths together
abbrev pub hundredths_after_point : Option ℕ → Option ℕ → Option ℕ
hundredths_after_point (Some whole) (Some fraction) = Some (whole * 100 + fraction)
hundredths_after_point _ _ = None

-- a point
abbrev pub is_point : ℕ → Bool
is_point byte = byte == 46

-- the load in hundredths: one to six digits, perhaps with a point and one or two digits
abbrev pub limit_of : List ℕ → Option ℕ
limit_of text =
    if list_any is_point text
    then hundredths_after_point (decimal_in 6 0 MAX_WHOLE_LOAD (before_first is_point text)) (fraction_of (after_first is_point text))
    else hundredths_after_point (decimal_in 6 0 MAX_WHOLE_LOAD text) (Some 0)
