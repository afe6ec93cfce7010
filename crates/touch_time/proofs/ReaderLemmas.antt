-- Each reader reads its part of the spelling, and nothing else.
use Rattle.std.proofs.Common.{◌≡◌, ◌∙◌, ℕ, ◌+◌, ◌-◌, ◌*◌, ◌/◌, ◌%◌, ◌≤◌, ◌⊎◌, ◌==◌, ◌&&◌, nat_lt, nat_le, Bool, true, false, cond, List, [], ◌∷◌, ◌++◌, length, Option, Some, None, refl, sym, ap, subst, arith, inl, inr, eqb-true, lit≤}
use Rattle.std.proofs.lemmas.Bool.{and_parts}
use Rattle.std.proofs.lemmas.Bool.Decides.{nat_tests}
use Rattle.std.proofs.lemmas.List.{nil_from_length}
use Rattle.std.proofs.lemmas.Option.{none-some}
use Rattle.std.specs.Int.{IsInRange, is_in_range}
use Rattle.touch_time.specs.inside.Reader.{read_within, read_short_year, read_full_year, read_year, is_last_number, is_seconds}
use Rattle.touch_time.specs.Touch.{two_digits, SpellsYear, no_year, short_year, full_year, SpellsSeconds, no_seconds, some_seconds}
use Rattle.text_reader.specs.ReadResult.{Read, two_digits_in}
use Rattle.text_reader.proofs.OptionLemmas.{cond_some, and_then_some, same_pair}

pub read_within_complete : (low high number : ℕ) (rest : List ℕ) → IsInRange low high number → high ≤ 99
    → read_within low high (two_digits number ++ rest) ≡ Some (number, rest)
unfolding read_within two_digits_in
read_within_complete low high number rest within small =
    let value : (48 + number / 10 - 48) * 10 + (48 + number % 10 - 48) ≡ number = omega arith in
    let digits : (is_in_range 48 57 (48 + number / 10) && is_in_range 48 57 (48 + number % 10)) ≡ true = grind (arith, nat_tests) in
    let fits : (nat_le low number && nat_le number high) ≡ true = grind (arith, nat_tests) in
    rw (value, digits, fits)

-- two digits spell the number that they are read as
two_digits_sound : (text rest : List ℕ) (number : ℕ) → two_digits_in text ≡ Some (number, rest)
    → (number ≤ 99) × (text ≡ two_digits number ++ rest)
unfolding two_digits_in
two_digits_sound [] rest number e = absurd (none-some _ e)
two_digits_sound (tens ∷ []) rest number e = absurd (none-some _ e)
two_digits_sound (tens ∷ ones ∷ text) rest number e =
    let (test, same) = cond_some _ _ _ e in
    let value : (tens - 48) * 10 + (ones - 48) ≡ number = ap (λ p. p.0) same in
    let left : text ≡ rest = ap (λ p. p.1) same in
    let digits : IsInRange 48 57 tens × IsInRange 48 57 ones = grind (arith, nat_tests) in
    let first : 48 + number / 10 ≡ tens = omega arith in
    let second : 48 + number % 10 ≡ ones = omega arith in
    (omega arith, rw (first, second, left))

pub read_within_sound : (low high : ℕ) (text rest : List ℕ) (number : ℕ) → read_within low high text ≡ Some (number, rest)
    → IsInRange low high number × (number ≤ 99) × (text ≡ two_digits number ++ rest)
unfolding read_within
read_within_sound low high text rest number e =
    and_then_some _ (two_digits_in text) _ e λ read got e₁.
    let (test, same) = cond_some _ _ _ e₁ in
    let value : read.0 ≡ number = ap (λ p. p.0) same in
    let within : IsInRange low high number = grind (arith, nat_tests) in
    let (small, spelled) = two_digits_sound text rest number (got ∙ ap (λ (p : ℕ × List ℕ). Some p) same) in
    (within, small, spelled)

pub is_seconds_complete : (text : List ℕ) → SpellsSeconds text → is_seconds text ≡ true
unfolding is_seconds
is_seconds_complete text no_seconds = refl
is_seconds_complete text (some_seconds second few) = rw (read_within_complete 0 60 second [] (omega arith, few) (lit≤ tt))

-- two digits and nothing after them
last_sound : (text : List ℕ) → is_last_number (read_within 0 60 text) ≡ true → (second : ℕ) × (second ≤ 60) × (text ≡ two_digits second)
last_sound text e = go (read_within 0 60 text) refl e
  where
    go : (read : Read ℕ) → read_within 0 60 text ≡ read → is_last_number read ≡ true
        → (second : ℕ) × (second ≤ 60) × (text ≡ two_digits second)
    go None is_read last = cc
    go (Some read) is_read last =
        let sound = read_within_sound 0 60 text read.1 read.0 is_read in
        (read.0, sound.0.1, sound.2 ∙ ap (λ rest. two_digits read.0 ++ rest) (nil_from_length read.1 (eqb-true _ _ last)))

pub is_seconds_sound : (text : List ℕ) → is_seconds text ≡ true → SpellsSeconds text
unfolding is_seconds
is_seconds_sound [] e = no_seconds
is_seconds_sound (point ∷ rest) e =
    let (at_point, last) = and_parts (point == 46) (is_last_number (read_within 0 60 rest)) e in
    let (second, few, same) = last_sound rest last in
    subst SpellsSeconds (sym (ap (λ p. p ∷ rest) (eqb-true _ _ at_point) ∙ ap (λ r. 46 ∷ r) same)) (some_seconds second few)

-- what may follow a year
abbrev pub HasRest : List ℕ → Type 0
HasRest rest = (length rest ≡ 8) ⊎ (length rest ≡ 11)

-- two bytes more than that
two_more : (a b : ℕ) (rest : List ℕ) → HasRest rest → read_year (a ∷ b ∷ rest) ≡ read_short_year (a ∷ b ∷ rest)
unfolding read_year
two_more a b rest (inl e) = rw e
two_more a b rest (inr e) = rw e

-- and four
four_more : (a b c d : ℕ) (rest : List ℕ) → HasRest rest → read_year (a ∷ b ∷ c ∷ d ∷ rest) ≡ read_full_year (a ∷ b ∷ c ∷ d ∷ rest)
unfolding read_year
four_more a b c d rest (inl e) = rw e
four_more a b c d rest (inr e) = rw e

pub read_year_complete : (spelled : List ℕ) (year : Option ℕ) (rest : List ℕ) → SpellsYear spelled year → HasRest rest
    → read_year (spelled ++ rest) ≡ Some (year, rest)
unfolding read_year read_short_year read_full_year
read_year_complete spelled year rest no_year long = grind (arith, nat_tests)
read_year_complete spelled year rest (short_year y within) long =
    let a = read_within_complete 0 99 (y % 100) rest (omega arith) (lit≤ tt) in
    let value : cond (nat_lt (y % 100) 69) 2000 1900 + y % 100 ≡ y = grind (arith, nat_tests, within) in
    rw (two_more (48 + y % 100 / 10) (48 + y % 100 % 10) rest long, a, value)
read_year_complete spelled year rest (full_year y few) long =
    let a = read_within_complete 0 99 (y / 100) (two_digits (y % 100) ++ rest) (omega arith) (lit≤ tt) in
    let b = read_within_complete 0 99 (y % 100) rest (omega arith) (lit≤ tt) in
    let value : y / 100 * 100 + y % 100 ≡ y = omega arith in
    rw (four_more (48 + y / 100 / 10) (48 + y / 100 % 10) (48 + y % 100 / 10) (48 + y % 100 % 10) rest long, a, b, value)

-- what spells the year, and the rest of the text
abbrev pub BeginsWithYear : List ℕ → Option ℕ → List ℕ → Type 0
BeginsWithYear text year rest = (spelled : List ℕ) × SpellsYear spelled year × (text ≡ spelled ++ rest)

short_year_sound : (text : List ℕ) (year : Option ℕ) (rest : List ℕ) → read_short_year text ≡ Some (year, rest)
    → BeginsWithYear text year rest
unfolding read_short_year
short_year_sound text year rest e =
    and_then_some _ (read_within 0 99 text) _ e λ last got e₁.
    let full = cond (nat_lt last.0 69) 2000 1900 + last.0 in
    let (value, left) = same_pair (Some full) year last.1 rest e₁ in
    let sound = read_within_sound 0 99 text last.1 last.0 got in
    let back : full % 100 ≡ last.0 = grind (arith, nat_tests, sound.1) in
    let within : IsInRange 1969 2068 full = grind (arith, nat_tests, sound.1) in
    (two_digits (full % 100), subst (SpellsYear (two_digits (full % 100))) value (short_year full within), rw (back, ← left) sound.2)

full_year_sound : (text : List ℕ) (year : Option ℕ) (rest : List ℕ) → read_full_year text ≡ Some (year, rest)
    → BeginsWithYear text year rest
unfolding read_full_year
full_year_sound text year rest e =
    and_then_some _ (read_within 0 99 text) _ e λ century got_century e₁.
    and_then_some _ (read_within 0 99 century.1) _ e₁ λ last got_last e₂.
    let full = century.0 * 100 + last.0 in
    let (value, left) = same_pair (Some full) year last.1 rest e₂ in
    let a = read_within_sound 0 99 text century.1 century.0 got_century in
    let b = read_within_sound 0 99 century.1 last.1 last.0 got_last in
    let first : full / 100 ≡ century.0 = omega arith in
    let second : full % 100 ≡ last.0 = omega arith in (
      two_digits (full / 100) ++ two_digits (full % 100),
      subst (SpellsYear (two_digits (full / 100) ++ two_digits (full % 100))) value (full_year full (omega arith)),
      rw (first, second, ← left) (a.2 ∙ ap (λ t. two_digits century.0 ++ t) b.2),
    )

-- by the three tests of the length
sound_by : (text : List ℕ) (year : Option ℕ) (rest : List ℕ) (none short full : Bool)
    → cond none (Some (None, text)) (cond short (read_short_year text) (cond full (read_full_year text) None)) ≡ Some (year, rest)
    → BeginsWithYear text year rest
sound_by text year rest true short full e =
    let (value, left) = same_pair None year text rest e in ([], subst (SpellsYear []) value no_year, left)
sound_by text year rest false true full e = short_year_sound text year rest e
sound_by text year rest false false true e = full_year_sound text year rest e
sound_by text year rest false false false e = absurd (none-some _ e)

pub read_year_sound : (text : List ℕ) (year : Option ℕ) (rest : List ℕ) → read_year text ≡ Some (year, rest) → BeginsWithYear text year rest
unfolding read_year
read_year_sound text year rest e = sound_by text year rest _ _ _ e

-- seconds have three bytes or none
pub seconds_length : (text : List ℕ) → SpellsSeconds text → (length text ≡ 0) ⊎ (length text ≡ 3)
seconds_length text no_seconds = inl refl
seconds_length text (some_seconds second few) = inr refl
