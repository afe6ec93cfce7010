-- Names of jobs, and the jobs that they name.
use borrow.Rule.Slice.PartMut.{put_mid}
use Rattle.std.proofs.Common.{◌≡◌, ℕ, ◌+◌, ◌-◌, ◌≤◌, Bool, true, false, List, [], ◌∷◌, ◌++◌, length, take, drop, sym, ap, subst, ◌∙◌, refl, arith, rules, IsTrue, length-append, length-drop, drop-cons, get_or-take}
use Rattle.std.specs.Char.{is_ascii_alphabetic, is_ascii_alphanumeric}
use Rattle.std.specs.List.{list_all}
use Rattle.std.specs.Prelude.{◌==◌, slice_index, slice_range}
use Rattle.std.proofs.lemmas.Bool.Decides.{nat_tests}
use Rattle.std.proofs.lemmas.List.{drop-drop, take-append-drop, take_all, take-take, length-take, length-take-le}
use Rattle.std.proofs.lemmas.List.Folds.{list_all-append}
use Rattle.std.proofs.lemmas.Slice.{between_is, between-put_mid, take-put_mid_below}
use Rattle.text_reader.specs.HexDigits.{SpellsNumber}
use Rattle.text_reader.proofs.DigitLemmas.{are_alphanumeric, one_number, one_spelling}
use Rattle.host_calls.specs.Names.{IsName, is_name_byte}
use Rattle.spool_model.specs.Numbers.{number_digits}
use Rattle.job_name.specs.JobName.{IsInRange, SpellsJobName}

-- a number has at most eight digits
pub few_digits : (new_form : Bool) → number_digits new_form ≤ 8
few_digits true = omega arith
few_digits false = omega arith

-- the form is known by how many digits the number has
one_form : (new_form other : Bool) → number_digits new_form ≡ number_digits other → other ≡ new_form
one_form true true same = refl
one_form true false same = absurd (omega (arith, same))
one_form false true same = absurd (omega (arith, same))
one_form false false same = refl

-- the digits of a name spell the number and the minute of the one job that it names
pub one_job : (bytes : List ℕ) (queue number minute other_number other_minute : ℕ) (new_form : Bool)
    → SpellsJobName bytes queue number minute new_form → SpellsNumber (slice_range bytes 1 (1 + number_digits new_form)) other_number
    → SpellsNumber (slice_range bytes (1 + number_digits new_form) (9 + number_digits new_form)) other_minute
    → (slice_index bytes 0 ≡ queue) × (other_number ≡ number) × (other_minute ≡ minute)
one_job bytes queue number minute other_number other_minute new_form spelled digits eight = (
  spelled.first,
  one_number (slice_range bytes 1 (1 + number_digits new_form)) other_number number digits spelled.next_digits,
  one_number (slice_range bytes (1 + number_digits new_form) (9 + number_digits new_form)) other_minute minute eight spelled.last_eight,
)

-- what is read of the name of a job is in range
pub in_range_of : (bytes : List ℕ) (queue number minute other_number other_minute : ℕ) (new_form : Bool)
    → SpellsJobName bytes queue number minute new_form → SpellsNumber (slice_range bytes 1 (1 + number_digits new_form)) other_number
    → SpellsNumber (slice_range bytes (1 + number_digits new_form) (9 + number_digits new_form)) other_minute
    → IsInRange (slice_index bytes 0) other_number other_minute
in_range_of bytes queue number minute other_number other_minute new_form spelled digits eight =
    let same : (slice_index bytes 0 ≡ queue) × (other_number ≡ number) × (other_minute ≡ minute) =
    one_job bytes queue number minute other_number other_minute new_form spelled digits eight in
    rw (same.0, same.1, same.2) spelled.in_range

-- the form is known by the length
pub form_known : (bytes : List ℕ) (queue number minute : ℕ) (new_form : Bool) → SpellsJobName bytes queue number minute new_form
    → (length bytes == 17) ≡ new_form
form_known bytes queue number minute true spelled = ap (λ count. count == 17) spelled.counted
form_known bytes queue number minute false spelled = ap (λ count. count == 17) spelled.counted

-- a name names one job, in one form
pub one_name : (bytes : List ℕ) (queue number minute other_queue other_number other_minute : ℕ) (new_form other_new_form : Bool)
    → SpellsJobName bytes queue number minute new_form → SpellsJobName bytes other_queue other_number other_minute other_new_form
    → (other_queue ≡ queue) × (other_number ≡ number) × (other_minute ≡ minute) × (other_new_form ≡ new_form)
one_name bytes queue number minute other_queue other_number other_minute new_form other_new_form spelled other =
    let form : other_new_form ≡ new_form = one_form new_form other_new_form (omega (arith, spelled.counted, other.counted)) in
    let as_one : SpellsJobName bytes other_queue other_number other_minute new_form =
    subst (SpellsJobName bytes other_queue other_number other_minute) form other in
    let same : (slice_index bytes 0 ≡ queue) × (other_number ≡ number) × (other_minute ≡ minute) =
    one_job bytes queue number minute other_number other_minute new_form spelled as_one.next_digits as_one.last_eight in
    (sym other.first ∙ same.0, same.1, same.2, form)

-- the bytes of a name by its places
parts : (bytes : List ℕ) (digits : ℕ) → length bytes ≡ 9 + digits
    → bytes ≡ slice_index bytes 0 ∷ (slice_range bytes 1 (1 + digits) ++ slice_range bytes (1 + digits) (9 + digits))
parts bytes digits counted =
    let count : 1 + digits - 1 ≡ digits = omega arith in
    let eight : 9 + digits - (1 + digits) ≡ 8 = omega arith in
    let rest : drop digits (drop 1 bytes) ≡ slice_range bytes (1 + digits) (9 + digits) =
    drop-drop digits 1 bytes ∙ sym (ap (λ some. take some (drop (1 + digits) bytes)) eight
    ∙ take_all 8 (drop (1 + digits) bytes) (omega (arith, length-drop (1 + digits) bytes))) in
    drop-cons bytes 0 0 (omega arith)
    ∙ ap (λ rest. slice_index bytes 0 ∷ rest) (
    sym (take-append-drop digits (drop 1 bytes))
    ∙ ap (λ rest. take digits (drop 1 bytes) ++ rest) rest
    ∙ ap (λ some. take some (drop 1 bytes) ++ slice_range bytes (1 + digits) (9 + digits)) (sym count))

-- the digits of a name's number are as many as its places
digits_counted : (bytes : List ℕ) (digits : ℕ) → length bytes ≡ 9 + digits → length (slice_range bytes 1 (1 + digits)) ≡ digits
digits_counted bytes digits counted =
    let count : 1 + digits - 1 ≡ digits = omega arith in
    ap (λ some. length (take some (drop 1 bytes))) count ∙ length-take-le digits (drop 1 bytes) (omega (arith, length-drop 1 bytes))

-- and those of its minute are eight
eight_counted : (bytes : List ℕ) (digits : ℕ) → length bytes ≡ 9 + digits → length (slice_range bytes (1 + digits) (9 + digits)) ≡ 8
eight_counted bytes digits counted =
    let eight : 9 + digits - (1 + digits) ≡ 8 = omega arith in
    ap (λ some. length (take some (drop (1 + digits) bytes))) eight
    ∙ length-take-le 8 (drop (1 + digits) bytes) (omega (arith, length-drop (1 + digits) bytes))

-- a job has one name in each form
pub one_text : (first second : List ℕ) (queue number minute : ℕ) (new_form : Bool) → SpellsJobName first queue number minute new_form
    → SpellsJobName second queue number minute new_form → first ≡ second
one_text first second queue number minute new_form of_first of_second =
    let digits : slice_range first 1 (1 + number_digits new_form) ≡ slice_range second 1 (1 + number_digits new_form) =
    one_spelling _ _ number (digits_counted first (number_digits new_form) of_first.counted
    ∙ sym (digits_counted second (number_digits new_form) of_second.counted)) of_first.next_digits of_second.next_digits in
    let eight : slice_range first (1 + number_digits new_form) (9 + number_digits new_form) ≡ slice_range second
    (1 + number_digits new_form) (9 + number_digits new_form) = one_spelling _ _ minute (eight_counted first (number_digits new_form)
    of_first.counted ∙ sym (eight_counted second (number_digits new_form) of_second.counted)) of_first.last_eight of_second.last_eight in
    parts first (number_digits new_form) of_first.counted
    ∙ ap (λ byte. byte ∷ (slice_range first 1 (1 + number_digits new_form)
    ++ slice_range first (1 + number_digits new_form) (9 + number_digits new_form))) (of_first.first ∙ sym of_second.first)
    ∙ ap (λ some. slice_index second 0 ∷ (some ++ slice_range first (1 + number_digits new_form) (9 + number_digits new_form))) digits
    ∙ ap (λ some. slice_index second 0 ∷ (slice_range second 1 (1 + number_digits new_form) ++ some)) eight
    ∙ sym (parts second (number_digits new_form) of_second.counted)

-- the text of a job: bytes that begin with its queue, with the digits of its number and minute written over them, as
-- far as its name goes
pub spelled_text : (queue number minute : ℕ) (new_form : Bool) (start some eight : List ℕ) → IsInRange queue number minute
    → length start ≡ 17 → slice_index start 0 ≡ queue → length some ≡ number_digits new_form → length eight ≡ 8
    → SpellsNumber some number → SpellsNumber eight minute → SpellsJobName (take (9 + number_digits new_form)
    (put_mid (1 + number_digits new_form) 8 (put_mid 1 (number_digits new_form) start some) eight)) queue number minute new_form
spelled_text queue number minute new_form start some eight in_range counted begins counted_some counted_eight
    number_spelled minute_spelled =
    let few : number_digits new_form ≤ 8 = few_digits new_form in
    let count : 1 + number_digits new_form - 1 ≡ number_digits new_form = omega arith in
    let last : 9 + number_digits new_form - (1 + number_digits new_form) ≡ 8 = omega arith in
    let once : List ℕ = put_mid 1 (number_digits new_form) start some in
    let counted_once : length once ≡ 17 = simp (length-append, length-drop, length-take) (omega arith) in
    let twice : List ℕ = put_mid (1 + number_digits new_form) 8 once eight in
    let counted_twice : length twice ≡ 17 = simp (length-append, length-drop, length-take) (omega (arith, counted_once)) in
    let whole : List ℕ = take (9 + number_digits new_form) twice in
    let prefix : take (1 + number_digits new_form) twice ≡ take (1 + number_digits new_form) once =
    take-put_mid_below (1 + number_digits new_form) 8 once eight (1 + number_digits new_form) (omega arith) (omega arith) in
    let begin : take 1 twice ≡ take 1 start =
    take-put_mid_below (1 + number_digits new_form) 8 once eight 1 (omega arith) (omega arith)
    ∙ take-put_mid_below 1 (number_digits new_form) start some 1 (omega arith) (omega arith) in
    let cut : take (1 + number_digits new_form) whole ≡ take (1 + number_digits new_form) twice =
    take-take (1 + number_digits new_form) (9 + number_digits new_form) twice (omega arith) in
    let of_some : slice_range whole 1 (1 + number_digits new_form) ≡ some =
    between_is whole 1 (1 + number_digits new_form) ∙ ap (drop 1) (cut ∙ prefix) ∙ sym (between_is once 1 (1 + number_digits new_form))
    ∙ between-put_mid 1 (number_digits new_form) start some (1 + number_digits new_form) (omega arith) (counted_some ∙ sym count) in
    let of_eight : slice_range whole (1 + number_digits new_form) (9 + number_digits new_form) ≡ eight =
    between_is whole (1 + number_digits new_form) (9 + number_digits new_form)
    ∙ ap (drop (1 + number_digits new_form)) (take-take (9 + number_digits new_form) (9 + number_digits new_form) twice (omega arith))
    ∙ sym (between_is twice (1 + number_digits new_form) (9 + number_digits new_form))
    ∙ between-put_mid (1 + number_digits new_form) 8 once eight (9 + number_digits new_form) (omega arith) (counted_eight ∙ sym last) in
    record {
      counted = length-take-le (9 + number_digits new_form) twice (omega arith);
      in_range = in_range;
      first = sym (get_or-take 1 whole 0 0 (omega arith)) ∙ ap (λ bytes. slice_index bytes 0)
          (take-take 1 (9 + number_digits new_form) twice (omega arith) ∙ begin) ∙ get_or-take 1 start 0 0 (omega arith) ∙ begins;
      next_digits = subst (λ digits. SpellsNumber digits number) (sym of_some) number_spelled;
      last_eight = subst (λ digits. SpellsNumber digits minute) (sym of_eight) minute_spelled;
    }

-- the same, where the digits are counted otherwise
pub written_text : (queue number minute digits : ℕ) (new_form : Bool) (start some eight text : List ℕ)
    → digits ≡ number_digits new_form → IsInRange queue number minute → length start ≡ 17 → slice_index start 0 ≡ queue
    → length some ≡ length (take (1 + digits - 1) (drop 1 start)) → length eight ≡ length (take (9 + digits - (1 + digits))
    (drop (1 + digits) (put_mid 1 (1 + digits - 1) start some))) → SpellsNumber some number → SpellsNumber eight minute
    → text ≡ take (9 + digits) (put_mid (1 + digits) (9 + digits - (1 + digits)) (put_mid 1 (1 + digits - 1) start some) eight)
    → SpellsJobName text queue number minute new_form
written_text queue number minute digits new_form start some eight text digits_is in_range counted begins counted_some counted_eight
    number_spelled minute_spelled text_is =
    let count : 1 + digits - 1 ≡ digits = omega arith in
    let last : 9 + digits - (1 + digits) ≡ 8 = omega arith in
    let few : number_digits new_form ≤ 8 = few_digits new_form in
    let some_is : length some ≡ digits =
    counted_some ∙ ap (λ n. length (take n (drop 1 start))) count
    ∙ length-take-le digits (drop 1 start) (omega (arith, length-drop 1 start)) in
    let once : List ℕ = put_mid 1 digits start some in
    let counted_once : length once ≡ 17 = simp (length-append, length-drop, length-take) (omega arith) in
    let eight_is : length eight ≡ 8 =
    counted_eight ∙ ap (λ n. length (take (9 + digits - (1 + digits)) (drop (1 + digits) (put_mid 1 n start some)))) count
    ∙ ap (λ n. length (take n (drop (1 + digits) once))) last
    ∙ length-take-le 8 (drop (1 + digits) once) (omega (arith, length-drop (1 + digits) once)) in
    let written : text ≡ take (9 + digits) (put_mid (1 + digits) 8 (put_mid 1 digits start some) eight) =
    text_is ∙ ap (λ n. take (9 + digits) (put_mid (1 + digits) (9 + digits - (1 + digits)) (put_mid 1 n start some) eight)) count
    ∙ ap (λ n. take (9 + digits) (put_mid (1 + digits) n (put_mid 1 digits start some) eight)) last in
    let same : take (9 + number_digits new_form)
    (put_mid (1 + number_digits new_form) 8 (put_mid 1 (number_digits new_form) start some) eight) ≡ text =
    ap (λ n. take (9 + n) (put_mid (1 + n) 8 (put_mid 1 n start some) eight)) (sym digits_is) ∙ sym written in
    subst (λ bytes. SpellsJobName bytes queue number minute new_form) same (spelled_text queue number minute new_form start some eight
    in_range counted begins (some_is ∙ digits_is) eight_is number_spelled minute_spelled)

-- letters and digits may be in a name
name_byte : (byte : ℕ) → is_ascii_alphanumeric byte ≡ true → is_name_byte byte ≡ true
name_byte byte is = rw is refl

-- what passes a narrower test passes a wider one
all_wider : (test wider : ℕ → Bool) (bytes : List ℕ) → ((byte : ℕ) → test byte ≡ true → wider byte ≡ true) → list_all test bytes ≡ true
    → list_all wider bytes ≡ true
all_wider test wider [] also all = refl
all_wider test wider (byte ∷ bytes) also all =
    let both : (test byte ≡ true) × (list_all test bytes ≡ true) = search rules in
    rw (also byte both.0) (all_wider test wider bytes also both.1)

-- a letter is a letter or a digit
letter_is_alphanumeric : (byte : ℕ) → IsTrue (is_ascii_alphabetic byte) → is_ascii_alphanumeric byte ≡ true
letter_is_alphanumeric byte letter = grind (arith, nat_tests)

-- the name of a job is a name
pub job_is_name : (bytes : List ℕ) (queue number minute : ℕ) (new_form : Bool)
    → SpellsJobName bytes queue number minute new_form → IsName bytes
job_is_name bytes queue number minute new_form spelled =
    let first : is_name_byte queue ≡ true = name_byte queue (letter_is_alphanumeric queue spelled.in_range.letter) in
    let digits : list_all is_name_byte (slice_range bytes 1 (1 + number_digits new_form)) ≡ true =
    all_wider is_ascii_alphanumeric is_name_byte (slice_range bytes 1 (1 + number_digits new_form)) name_byte
    (are_alphanumeric (slice_range bytes 1 (1 + number_digits new_form)) number spelled.next_digits) in
    let eight : list_all is_name_byte (slice_range bytes (1 + number_digits new_form) (9 + number_digits new_form)) ≡ true =
    all_wider is_ascii_alphanumeric is_name_byte (slice_range bytes (1 + number_digits new_form) (9 + number_digits new_form)) name_byte
    (are_alphanumeric (slice_range bytes (1 + number_digits new_form) (9 + number_digits new_form)) minute spelled.last_eight) in
    let few : number_digits new_form ≤ 8 = few_digits new_form in
    record {
      some = omega (arith, spelled.counted);
      few = omega (arith, spelled.counted);
      each = rw (parts bytes (number_digits new_form) spelled.counted)
          (rw (list_all-append is_name_byte, spelled.first, first, digits, eight) refl);
      no_point = λ is. let counted : 9 + number_digits new_form ≡ 1 = sym spelled.counted ∙ ap length is in absurd (omega arith);
      no_points = λ is. let counted : 9 + number_digits new_form ≡ 2 = sym spelled.counted ∙ ap length is in absurd (omega arith);
    }
