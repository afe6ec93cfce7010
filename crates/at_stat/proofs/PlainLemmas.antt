-- No string of an object needs an escape.
use Rattle.std.proofs.Common.{◌≡◌, ◌∙◌, ◌≤◌, ◌<◌, ◌+◌, ◌-◌, ◌≤ℤ◌, negsuc, ◌/◌, ◌%◌, ◌++◌, ◌&&◌, [], ◌∷◌, ℕ, zero, suc, ℤ, pos, Bool, true, false, List, cond, refl, arith}
use Rattle.std.specs.Prelude.{codes, nat_lt, slice_index_or}
use Rattle.std.specs.Char.{is_ascii_alphabetic}
use Rattle.std.specs.Fmt.{decimal, signed_decimal}
use Rattle.std.specs.List.{list_all}
use Rattle.std.proofs.lemmas.Bool.Decides.{nat_tests}
use Rattle.std.proofs.lemmas.Fmt.{decimal_step, decimal_digit}
use Rattle.std.proofs.lemmas.Int.{ints}
use Rattle.std.proofs.lemmas.List.Folds.{list_all-append}
use Rattle.civil_minute.specs.Civil.{IsPrintable}
use Rattle.civil_minute.specs.declared.civil.CivilMinute.{CivilMinute}
use Rattle.listing_text.specs.Date.{date_text_of, day_tens, day_text, digit, month_text, time_text, weekday_text}
use Rattle.touch_time.specs.Touch.{two_digits}
use Rattle.spool_model.specs.declared.row.Row.{Row}
use Rattle.spool_model.specs.declared.state.State.TheVariants.{Pending, Running}
use Rattle.spool_model.specs.JobTable.{JobState}
use Rattle.spool_model.specs.Users.{IsUserName, are_user_bytes, is_user_byte}
use Rattle.spool_store.specs.Stored.{IsRowInRange}
use Rattle.at_stat.specs.Lines.{state_word}
use Rattle.at_stat.specs.Objects.{NeedsNoEscape, are_plain, is_plain}

-- texts that are plain, one after the other
pub plain_append : (one other : List ℕ) → are_plain one ≡ true → are_plain other ≡ true → are_plain (one ++ other) ≡ true
plain_append one other first second = list_all-append is_plain one other ∙ (λ i. first i && second i)

-- a digit
plain_digit : (number : ℕ) → number < 10 → is_plain (48 + number) ≡ true
plain_digit number few = grind (arith, nat_tests)

-- a text of a list of plain ones, or nothing
plain_at : (texts : List (List ℕ)) (place : ℕ) → list_all are_plain texts ≡ true → are_plain (slice_index_or texts place []) ≡ true
plain_at [] zero all = refl
plain_at [] (suc place) all = refl
plain_at (text ∷ others) zero all = first (are_plain text) (list_all are_plain others) all where
  first : (one other : Bool) → (one && other) ≡ true → one ≡ true
  first true other is = refl
  first false other is = is
plain_at (text ∷ others) (suc place) all = plain_at others place (second (are_plain text) (list_all are_plain others) all) where
  second : (one other : Bool) → (one && other) ≡ true → other ≡ true
  second true other is = is
  second false other is = let impossible : false ≡ true = is in cc

plain_weekday : (weekday : ℕ) → are_plain (weekday_text weekday) ≡ true
plain_weekday weekday =
    plain_at (codes "Sun" ∷ codes "Mon" ∷ codes "Tue" ∷ codes "Wed" ∷ codes "Thu" ∷ codes "Fri" ∷ codes "Sat" ∷ []) weekday refl

plain_month : (month : ℕ) → are_plain (month_text month) ≡ true
plain_month month =
    plain_at (codes "Jan" ∷ codes "Feb" ∷ codes "Mar" ∷ codes "Apr" ∷ codes "May" ∷ codes "Jun" ∷ codes "Jul" ∷ codes "Aug" ∷ codes "Sep"
    ∷ codes "Oct" ∷ codes "Nov" ∷ codes "Dec" ∷ []) (month - 1) refl

-- two bytes
plain_two : (first second : ℕ) → is_plain first ≡ true → is_plain second ≡ true → are_plain (first ∷ second ∷ []) ≡ true
plain_two first second one other = rw (one, other) refl

plain_tens : (day : ℕ) → day ≤ 31 → is_plain (day_tens day) ≡ true
plain_tens day few = by_test (nat_lt day 10) where
  by_test : (small : Bool) → is_plain (cond small 32 (digit (day / 10))) ≡ true
  by_test true = refl
  by_test false = plain_digit (day / 10) (omega arith)

plain_day : (day : ℕ) → day ≤ 31 → are_plain (day_text day) ≡ true
plain_day day few = plain_two (day_tens day) (digit (day % 10)) (plain_tens day few) (plain_digit (day % 10) (omega arith))

plain_digits : (number : ℕ) → number ≤ 59 → are_plain (two_digits number) ≡ true
plain_digits number few =
    plain_two (48 + number / 10) (48 + number % 10) (plain_digit (number / 10) (omega arith)) (plain_digit (number % 10) (omega arith))

plain_time : (civil : CivilMinute) → IsPrintable civil → are_plain (time_text civil) ≡ true
plain_time civil is =
    let seconds : List ℕ = two_digits civil.second in
    let minutes : List ℕ = two_digits civil.minute ++ codes ":" ++ seconds in
    plain_append (two_digits civil.hour) (codes ":" ++ minutes) (plain_digits civil.hour (let few = is.time.hour in omega arith))
    (plain_append (codes ":") minutes refl
    (plain_append (two_digits civil.minute) (codes ":" ++ seconds) (plain_digits civil.minute is.time.minute)
    (plain_append (codes ":") seconds refl (plain_digits civil.second is.time.second))))

-- a number of four digits
plain_four : (n : ℕ) → 1000 ≤ n → n ≤ 9999 → are_plain (decimal n) ≡ true
plain_four n low high =
    let hundreds : n / 10 / 10 ≡ n / 100 = omega arith in
    let thousands : n / 100 / 10 ≡ n / 1000 = omega arith in
    let first = decimal_digit (n / 1000) (omega arith) in
    let second = decimal_step (n / 100) (omega arith) (omega arith) in
    let third = decimal_step (n / 10) (omega arith) (omega arith) in
    let last = decimal_step n (omega arith) (omega arith) in
    rw (last, third, hundreds, second, thousands, first)
    (rw (
      plain_digit (n / 1000) (omega arith),
      plain_digit (n / 100 % 10) (omega arith),
      plain_digit (n / 10 % 10) (omega arith),
      plain_digit (n % 10) (omega arith),
    ) refl)

plain_year : (year : ℤ) → pos 1000 ≤ℤ year → year ≤ℤ pos 9999 → are_plain (signed_decimal year) ≡ true
plain_year (pos n) low high = plain_four n (omega (arith, ints)) (omega (arith, ints))
plain_year (negsuc n) low high = absurd (omega (arith, ints))

plain_date : (civil : CivilMinute) → IsPrintable civil → are_plain (date_text_of civil) ≡ true
plain_date civil is =
    let weekday : List ℕ = weekday_text civil.weekday in
    let month : List ℕ = month_text civil.month in
    let day : List ℕ = day_text civil.day in
    let time : List ℕ = time_text civil in
    let space : List ℕ = codes " " in
    let to_month : List ℕ = weekday ++ space ++ month in
    let to_day : List ℕ = to_month ++ space ++ day in
    let to_time : List ℕ = to_day ++ space ++ time in
    let month_plain : are_plain to_month ≡ true =
    plain_append (weekday ++ space) month (plain_append weekday space (plain_weekday civil.weekday) refl) (plain_month civil.month) in
    let day_plain : are_plain to_day ≡ true =
    plain_append (to_month ++ space) day (plain_append to_month space month_plain refl) (plain_day civil.day is.day.1) in
    let time_plain : are_plain to_time ≡ true =
    plain_append (to_day ++ space) time (plain_append to_day space day_plain refl) (plain_time civil is) in
    plain_append (to_time ++ space) (signed_decimal civil.year) (plain_append to_time space time_plain refl)
    (plain_year civil.year is.year.0 is.year.1)

-- bytes of users' names
plain_byte : (byte : ℕ) → is_user_byte byte ≡ true → is_plain byte ≡ true
plain_byte byte is = grind (arith, nat_tests)

both_true : (one other : Bool) → (one && other) ≡ true → (one ≡ true) × (other ≡ true)
both_true true other is = (refl, is)
both_true false other is = let impossible : false ≡ true = is in absurd (cc)

plain_user : (user : List ℕ) → are_user_bytes user ≡ true → are_plain user ≡ true
plain_user [] each = refl
plain_user (byte ∷ others) each =
    let parts : (is_user_byte byte ≡ true) × (are_user_bytes others ≡ true) = both_true (is_user_byte byte) (are_user_bytes others) each in
    (λ i. plain_byte byte parts.0 i && plain_user others parts.1 i)

plain_letter : (byte : ℕ) → is_ascii_alphabetic byte ≡ true → is_plain byte ≡ true
plain_letter byte is = grind (arith, nat_tests)

plain_state : (state : JobState) → are_plain (state_word state) ≡ true
plain_state Pending = refl
plain_state (Running second) = refl

-- no string of a live job's object needs an escape
pub needs_no_escape : (row : Row) (civil : CivilMinute) → IsRowInRange row → IsUserName row.user → IsPrintable civil
    → NeedsNoEscape row (date_text_of civil)
needs_no_escape row civil range user printable = record {
  date_is = plain_date civil printable;
  queue_is = plain_letter row.queue range.named.letter;
  state_is = plain_state row.state;
  user_is = plain_user row.user user.each;
}
