-- Digits and the numbers that they spell.
use Rattle.std.proofs.Common.{◌≡◌, ℕ, zero, suc, ◌+◌, ◌-◌, ◌*◌, ◌/◌, ◌%◌, ◌^◌, ◌<◌, ◌≤◌, List, [], ◌∷◌, ◌++◌, length, take, sym, ap, subst, ◌∙◌, refl, arith, below_more, length-append}
use Rattle.std.specs.Char.{is_ascii_alphanumeric}
use Rattle.std.specs.List.{list_all}
use Rattle.std.specs.Prelude.{true, slice_index}
use Rattle.std.proofs.Math.ListN.{get_or-append}
use Rattle.std.proofs.Math.Nat.{div-div-eq-div-mul, pow-suc, pow-succ', pow-le-pow_right}
use Rattle.std.proofs.Math.Seq.{get_or-append_seam}
use Rattle.std.proofs.lemmas.Bool.Decides.{nat_tests}
use Rattle.std.proofs.lemmas.List.{ext_get_or, length-take-le, take_more}
use Rattle.std.proofs.lemmas.Nat.{div-add-mod', div-mul-add, div_below, mod-mul-add, mod_below, pow-add}
use Rattle.text_reader.specs.HexDigits.{SpellsNumber, digit_at, digit_byte}
use Rattle.text_reader.proofs.TestLemmas.{all_by_place}

-- no byte is two digits
pub one_digit : (first second : ℕ) → first < 16 → second < 16 → digit_byte first ≡ digit_byte second → first ≡ second
one_digit first second first_small second_small same = grind (arith, nat_tests)

-- a number is its last digit and the number before it
last_digit : (number : ℕ) → digit_at number 0 ≡ number % 16
last_digit number = let whole : number / 16 ^ 0 ≡ number = omega arith in ap (λ n. n % 16) whole

-- the digits before the last one are those of the number without it
pub digit_at-suc : (number place : ℕ) → digit_at number (suc place) ≡ digit_at (number / 16) place
digit_at-suc number place =
    ap (λ n. n % 16) (ap (λ power. number / power) (pow-succ' 16 place) ∙ sym (div-div-eq-div-mul number 16 (16 ^ place)))

-- the digits of a number with one more at its end
digit_more : (number digit place : ℕ) → digit < 16 → digit_at (number * 16 + digit) (suc place) ≡ digit_at number place
digit_more number digit place small = digit_at-suc (number * 16 + digit) place
    ∙ ap (λ n. digit_at n place) (div-mul-add number 16 digit small)

-- the place of each byte, once there is one more
place_more : (bytes : List ℕ) (number digit place : ℕ) → SpellsNumber bytes number → digit < 16 → place < length bytes
    → slice_index (bytes ++ digit_byte digit ∷ []) place ≡ digit_byte (digit_at (number * 16 + digit) (length bytes - place))
place_more bytes number digit place spelled small inside =
    let right : length bytes - place ≡ suc (length bytes - 1 - place) = omega arith in
    get_or-append bytes (digit_byte digit ∷ []) 0 place inside
    ∙ spelled.each place inside
    ∙ ap digit_byte (sym (ap (digit_at (number * 16 + digit)) right ∙ digit_more number digit (length bytes - 1 - place) small))

-- the last byte, once there is one more
place_last : (bytes : List ℕ) (number digit : ℕ) → digit < 16 → slice_index (bytes ++ digit_byte digit ∷ []) (length bytes)
    ≡ digit_byte (digit_at (number * 16 + digit) (length bytes - length bytes))
place_last bytes number digit small =
    let right : length bytes - length bytes ≡ 0 = omega arith in
    get_or-append_seam bytes (digit_byte digit) [] 0
    ∙ ap digit_byte (sym (ap (digit_at (number * 16 + digit)) right ∙ last_digit (number * 16 + digit) ∙ mod-mul-add number 16 digit small))

-- one more digit
pub spells_more : (bytes : List ℕ) (number digit : ℕ) → SpellsNumber bytes number → digit < 16
    → SpellsNumber (bytes ++ digit_byte digit ∷ []) (number * 16 + digit)
spells_more bytes number digit spelled small =
    let longer : List ℕ = bytes ++ digit_byte digit ∷ [] in
    let counted : length longer ≡ suc (length bytes) = simp length-append (omega arith) in
    let power : 16 ^ suc (length bytes) ≡ 16 ^ length bytes * 16 = pow-suc 16 (length bytes) in
    let fits : number < 16 ^ length bytes = spelled.fits in
    let here : ℕ → Type 0 = λ place. slice_index longer place ≡ digit_byte (digit_at (number * 16 + digit) (length bytes - place)) in
    let all : (place : ℕ) → place < length bytes + 1 → here place = below_more here (length bytes)
    (λ place inside. place_more bytes number digit place spelled small inside) (place_last bytes number digit small) in
    record {
      fits = rw counted (omega arith);
      each = λ place inside. let right : length bytes - place ≡ length longer - 1 - place = omega arith in
          all place (omega arith) ∙ ap (λ p. digit_byte (digit_at (number * 16 + digit) p)) right;
    }

-- the digits up to a place and the next one
pub read_more : (bytes : List ℕ) (count number digit : ℕ) → SpellsNumber (take count bytes) number → count < length bytes → digit < 16
    → slice_index bytes count ≡ digit_byte digit → SpellsNumber (take (count + 1) bytes) (number * 16 + digit)
read_more bytes count number digit spelled inside small here =
    let prefix : take (count + 1) bytes ≡ take count bytes ++ digit_byte digit ∷ [] = take_more bytes count 0 inside
    ∙ ap (λ byte. take count bytes ++ byte ∷ []) here in
    rw prefix (spells_more (take count bytes) number digit spelled small)

-- one more digit still fits 64 bits, where there are fewer than 16
pub more_fits : (bytes : List ℕ) (count number digit : ℕ) → SpellsNumber (take count bytes) number → length bytes ≤ 16
    → count < length bytes → digit < 16 → number * 16 + digit < 2 ^ 64
more_fits bytes count number digit spelled few inside small =
    let counted : length (take count bytes) ≡ count = length-take-le count bytes (omega arith) in
    let power : 16 ^ suc count ≡ 16 ^ count * 16 = pow-suc 16 count in
    let at_most : suc count ≤ 16 = omega arith in
    let whole : 16 ^ suc count ≤ 16 ^ 16 = pow-le-pow_right (omega arith) at_most in
    let fits : number < 16 ^ count = subst (λ n. number < 16 ^ n) counted spelled.fits in
    omega arith

-- a place of a digit is four places of bits
pub power_of_two : (place : ℕ) → 16 ^ place ≡ 2 ^ (4 * place)
power_of_two zero = refl
power_of_two (suc place) =
    let four : 4 * suc place ≡ 4 * place + 4 = omega arith in
    pow-suc 16 place ∙ ap (λ n. n * 16) (power_of_two place) ∙ sym (ap (λ n. 2 ^ n) four ∙ pow-add 2 (4 * place) 4)

-- numbers with the same digits are the same
same_digits : (count first second : ℕ) → first < 16 ^ count → second < 16 ^ count
    → ((place : ℕ) → place < count → digit_at first place ≡ digit_at second place) → first ≡ second
same_digits zero first second first_fits second_fits same = omega arith
same_digits (suc count) first second first_fits second_fits same =
    let power : 16 ^ suc count ≡ 16 ^ count * 16 = pow-suc 16 count in
    let prefixes : first / 16 ≡ second / 16 = same_digits count (first / 16) (second / 16)
    (div_below first 16 (16 ^ count) (omega arith) (omega arith))
    (div_below second 16 (16 ^ count) (omega arith) (omega arith))
    (λ place inside. sym (digit_at-suc first place) ∙ same (suc place) (omega arith) ∙ digit_at-suc second place) in
    let lasts : first % 16 ≡ second % 16 = sym (last_digit first) ∙ same 0 (omega arith) ∙ last_digit second in
    omega (arith, div-add-mod' first 16, div-add-mod' second 16)

-- the digits spell one number
pub one_number : (bytes : List ℕ) (first second : ℕ) → SpellsNumber bytes first → SpellsNumber bytes second → first ≡ second
one_number bytes first second of_first of_second = same_digits (length bytes) first second of_first.fits of_second.fits (λ place inside.
    let byte : ℕ = length bytes - 1 - place in
    let right : length bytes - 1 - byte ≡ place = omega arith in
    let same : digit_byte (digit_at first (length bytes - 1 - byte)) ≡ digit_byte (digit_at second (length bytes - 1 - byte)) =
    sym (of_first.each byte (omega arith)) ∙ of_second.each byte (omega arith) in
    one_digit (digit_at first place) (digit_at second place) (mod_below (first / 16 ^ place) 16 (omega arith))
    (mod_below (second / 16 ^ place) 16 (omega arith))
    (subst (λ p. digit_byte (digit_at first p) ≡ digit_byte (digit_at second p)) right same))

-- a number has one spelling of a length
pub one_spelling : (first second : List ℕ) (number : ℕ) → length first ≡ length second → SpellsNumber first number
    → SpellsNumber second number → first ≡ second
one_spelling first second number counted of_first of_second = ext_get_or 0 first second counted (λ place inside.
    of_first.each place inside
    ∙ ap (λ count. digit_byte (digit_at number (count - 1 - place))) counted
    ∙ sym (of_second.each place (omega arith)))

-- a digit is a letter or a digit of ASCII
digit_is_alphanumeric : (digit : ℕ) → digit < 16 → is_ascii_alphanumeric (digit_byte digit) ≡ true
digit_is_alphanumeric digit small = grind (arith, nat_tests)

-- digits are letters and digits of ASCII
pub are_alphanumeric : (bytes : List ℕ) (number : ℕ) → SpellsNumber bytes number → list_all is_ascii_alphanumeric bytes ≡ true
are_alphanumeric bytes number spelled = all_by_place is_ascii_alphanumeric bytes (λ place inside.
    rw (spelled.each place inside) (digit_is_alphanumeric _ (mod_below (number / 16 ^ (length bytes - 1 - place)) 16 (omega arith))))
