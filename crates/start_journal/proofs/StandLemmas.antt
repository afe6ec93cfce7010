-- Each byte of a mark's slot may be in its place.
use Rattle.std.proofs.Common.{◌≡◌, ℕ, ◌+◌, ◌-◌, ◌*◌, ◌/◌, ◌^◌, ◌<◌, ◌≤◌, Bool, true, false, List, length, take, drop, min, sym, ap, ◌∙◌, refl, arith, eq-eqb, length-drop, get_or-take}
use Rattle.std.specs.Prelude.{◌==◌, ◌&&◌, ◌||◌, nat_le, nat_lt, slice_index, slice_range, unsigned_abs, if◌then◌else◌}
use Rattle.std.proofs.lemmas.Bool.Decides.{nat_tests}
use Rattle.std.proofs.lemmas.List.{get_or-drop, length-take, length-take-le, take-take, take_all}
use Rattle.std.proofs.lemmas.Nat.{le-div}
use Rattle.text_reader.specs.HexDigits.{SpellsNumber}
use Rattle.host_calls.specs.declared.child.Ending.TheVariants.{Exit, Signal, NotStarted}
use Rattle.start_journal.specs.declared.fields.Fields.{Fields}
use Rattle.start_journal.specs.declared.mark.Mark.{Mark}
use Rattle.start_journal.specs.declared.mark.Mark.TheVariants.{Removed, Started, Ended, Interrupted, Forgotten, Batch}
use Rattle.start_journal.specs.SlotBytes.{is_number_prefix, is_second_prefix, is_ending_of, is_kind, is_queue_of, is_status_of, may_stand}
use Rattle.text_reader.specs.HexValues.{are_digits, is_digit, value_of_digits}
use Rattle.start_journal.specs.Slots.{IsWritable, SpellsMark, fields_of}
use Rattle.std.proofs.lemmas.Bool.{and_from}
use Rattle.text_reader.proofs.TestLemmas.{place_of_all, take_passes}
use Rattle.text_reader.proofs.ValueLemmas.{spelled_digits, value_spelled, zeros_of, some_power, value_prefix}
use Rattle.start_journal.proofs.SlotLemmas.{second_small}
use Rattle.start_journal.proofs.WriteLemmas.{prefix_index, prefix_range}
use Rattle.host_calls.specs.declared.clock_seconds.TheConstants.{LAST_SECOND}

-- choices that are the same under one test
pub if_same : (b : Bool) (x y other_x other_y : Bool) → (b ≡ true → x ≡ other_x) → (b ≡ false → y ≡ other_y)
    → (if b then x else y) ≡ (if b then other_x else other_y)
if_same true x y other_x other_y on off = on refl
if_same false x y other_x other_y on off = off refl

pub and_same : (b x other_x : Bool) → (b ≡ true → x ≡ other_x) → (b && x) ≡ (b && other_x)
and_same true x other_x on = on refl
and_same false x other_x on = refl

-- what the tests of a place say
pub after_place : (place at : ℕ) → at ≤ place → (place == at) ≡ false → at + 1 ≤ place
after_place place at from is = grind (arith, nat_tests)

pub from_place : (place at : ℕ) → nat_lt place at ≡ false → at ≤ place
from_place place at is = grind (arith, nat_tests)

-- a choice that holds either way
pub if_true : (b x y : Bool) → (b ≡ true → x ≡ true) → (b ≡ false → y ≡ true) → (if b then x else y) ≡ true
if_true true x y on off = on refl
if_true false x y on off = off refl

-- a byte is allowed by what is before it and itself
pub same_stand : (one other : List ℕ) (place : ℕ) → take (place + 1) one ≡ take (place + 1) other
    → may_stand one place ≡ may_stand other place
unfolding may_stand
same_stand one other place same =
    let byte : (at : ℕ) → at ≤ place → slice_index one at ≡ slice_index other at =
    λ at inside. prefix_index (place + 1) at one other (omega arith) same in
    let part : (from : ℕ) → slice_range one from (place + 1) ≡ slice_range other from (place + 1) =
    λ from. prefix_range from (place + 1) one other same in
    if_same (place == 0) _ _ _ _ (λ is. ap (λ b. b == 43) (byte 0 (omega arith))) (λ not_0.
    let from_1 : 1 ≤ place = after_place place 0 (omega arith) not_0 in
    if_same (place == 1) _ _ _ _ (λ is. ap is_kind (byte 1 from_1)) (λ not_1.
    if_same (nat_lt place 10) _ _ _ _ (λ is. ap (λ kind. is_number_prefix kind (slice_range one 2 (place + 1))) (byte 1 from_1)
    ∙ ap (is_number_prefix (slice_index other 1)) (part 2)) (λ not_9.
    let from_10 : 10 ≤ place = from_place place 10 not_9 in
    if_same (place == 10) _ _ _ _ (λ is. ap (λ kind. is_queue_of kind (slice_index one 10)) (byte 1 from_1)
    ∙ ap (is_queue_of (slice_index other 1)) (byte 10 from_10)) (λ not_10.
    let from_11 : 11 ≤ place = after_place place 10 from_10 not_10 in
    if_same (place == 11) _ _ _ _ (λ is. ap (λ kind. is_ending_of kind (slice_index one 11)) (byte 1 from_1)
    ∙ ap (is_ending_of (slice_index other 1)) (byte 11 from_11)) (λ not_11.
    if_same (nat_lt place 14) _ _ _ _ (λ is. ap (λ ending. is_status_of ending (slice_index one place)) (byte 11 from_11)
    ∙ ap (is_status_of (slice_index other 11)) (byte place (omega arith))) (λ not_13.
    if_same (nat_lt place 30) _ _ _ _ (λ is. ap (λ kind. is_second_prefix kind (slice_range one 14 (place + 1))) (byte 1 from_1)
    ∙ ap (is_second_prefix (slice_index other 1)) (part 14)) (λ not_29.
    let from_30 : 30 ≤ place = from_place place 30 not_29 in
    if_same (place == 30) _ _ _ _ (λ is. ap (λ b. b == 46) (byte 30 from_30)) (λ not_30.
    and_same (place == 31) _ _ (λ is. ap (λ b. b == 10) (byte 31 (after_place place 30 from_30 not_30)))))))))))

-- the first digits of a job's number
pub number_prefix : (digits : List ℕ) (number count : ℕ) → SpellsNumber digits number → 1 ≤ number → length digits ≡ 8
    → (are_digits (take count digits) && (nat_lt (length (take count digits)) 8 || nat_le 1 (value_of_digits (take count digits)))) ≡ true
number_prefix digits number count spelled some counted =
    and_from (are_digits (take count digits)) _ (take_passes is_digit digits count (spelled_digits digits number spelled))
    (by_few (nat_lt (length (take count digits)) 8) refl) where
      by_few : (few : Bool) → nat_lt (length (take count digits)) 8 ≡ few
          → (nat_lt (length (take count digits)) 8 || nat_le 1 (value_of_digits (take count digits))) ≡ true
      by_few true few = ap (λ b. b || nat_le 1 (value_of_digits (take count digits))) few
      by_few false all =
          let long : 8 ≤ length (take count digits) = from_place (length (take count digits)) 8 all in
          let taken : length (take count digits) ≡ min count (length digits) = length-take count digits in
          let whole : take count digits ≡ digits = take_all count digits (omega arith) in
          ap (λ b. b || nat_le 1 (value_of_digits (take count digits))) all ∙ ap (λ list. nat_le 1 (value_of_digits list)) whole
          ∙ ap (nat_le 1) (value_spelled digits number spelled) ∙ grind (arith, nat_tests)

pub number_right : (mark : Mark) (digits : List ℕ) (count : ℕ) → IsWritable mark → SpellsNumber digits (fields_of mark).number
    → length digits ≡ 8 → is_number_prefix (fields_of mark).kind (take count digits) ≡ true
number_right (Removed number) digits count writable spelled counted = number_prefix digits number count spelled writable counted
number_right (Started number queue second) digits count writable spelled counted =
    number_prefix digits number count spelled writable.drawn counted
number_right (Ended number ending) digits count writable spelled counted = number_prefix digits number count spelled writable counted
number_right (Interrupted number) digits count writable spelled counted = number_prefix digits number count spelled writable counted
number_right (Forgotten number) digits count writable spelled counted = number_prefix digits number count spelled writable counted
number_right (Batch second) digits count writable spelled counted = take_passes (λ byte. byte == 48) digits count (zeros_of digits spelled)

-- the other fields of a mark
pub kind_right : (mark : Mark) → is_kind (fields_of mark).kind ≡ true
kind_right (Removed number) = refl
kind_right (Started number queue second) = refl
kind_right (Ended number ending) = refl
kind_right (Interrupted number) = refl
kind_right (Forgotten number) = refl
kind_right (Batch second) = refl

pub queue_right : (mark : Mark) → IsWritable mark → is_queue_of (fields_of mark).kind (fields_of mark).queue ≡ true
queue_right (Removed number) writable = refl
queue_right (Started number queue second) writable = writable.letter
queue_right (Ended number ending) writable = refl
queue_right (Interrupted number) writable = refl
queue_right (Forgotten number) writable = refl
queue_right (Batch second) writable = refl

pub ending_right : (mark : Mark) → is_ending_of (fields_of mark).kind (fields_of mark).ending ≡ true
ending_right (Removed number) = refl
ending_right (Started number queue second) = refl
ending_right (Ended number (Exit status)) = refl
ending_right (Ended number (Signal signal)) = refl
ending_right (Ended number NotStarted) = refl
ending_right (Interrupted number) = refl
ending_right (Forgotten number) = refl
ending_right (Batch second) = refl

pub status_right : (mark : Mark) (bytes : List ℕ) (place : ℕ) → SpellsNumber bytes (fields_of mark).status → place < length bytes
    → is_status_of (fields_of mark).ending (slice_index bytes place) ≡ true
status_right (Removed number) bytes place spelled inside = place_of_all (λ byte. byte == 48) bytes place (zeros_of bytes spelled) inside
status_right (Started number queue second) bytes place spelled inside =
    place_of_all (λ byte. byte == 48) bytes place (zeros_of bytes spelled) inside
status_right (Ended number (Exit status)) bytes place spelled inside =
    place_of_all is_digit bytes place (spelled_digits bytes status spelled) inside
status_right (Ended number (Signal signal)) bytes place spelled inside =
    place_of_all is_digit bytes place (spelled_digits bytes signal spelled) inside
status_right (Ended number NotStarted) bytes place spelled inside =
    place_of_all (λ byte. byte == 48) bytes place (zeros_of bytes spelled) inside
status_right (Interrupted number) bytes place spelled inside = place_of_all (λ byte. byte == 48) bytes place (zeros_of bytes spelled) inside
status_right (Forgotten number) bytes place spelled inside = place_of_all (λ byte. byte == 48) bytes place (zeros_of bytes spelled) inside
status_right (Batch second) bytes place spelled inside = place_of_all (λ byte. byte == 48) bytes place (zeros_of bytes spelled) inside

pub second_prefix : (digits : List ℕ) (second count : ℕ) → SpellsNumber digits second
    → second ≤ unsigned_abs LAST_SECOND → length digits ≡ 16 → count ≤ 16 → (are_digits (take count digits)
    && nat_le (value_of_digits (take count digits)) (unsigned_abs LAST_SECOND / 16 ^ (16 - length (take count digits)))) ≡ true
second_prefix digits second count spelled small counted few =
    let taken : length (take count digits) ≡ count = length-take-le count digits (omega arith) in
    let more : ℕ = 16 - count in
    let whole : take (count + more) digits ≡ digits = take_all (count + more) digits (omega arith) in
    let value : value_of_digits (take (count + more) digits) ≡ second = ap value_of_digits whole ∙ value_spelled digits second spelled in
    let prefix : value_of_digits (take count digits) * 16 ^ more ≤ value_of_digits (take (count + more) digits) =
    value_prefix digits count more (omega arith) in
    let least : value_of_digits (take count digits) ≤ unsigned_abs LAST_SECOND / 16 ^ more =
    le-div (value_of_digits (take count digits)) (unsigned_abs LAST_SECOND) (16 ^ more) (some_power more) (omega arith) in
    let tested : nat_le (value_of_digits (take count digits)) (unsigned_abs LAST_SECOND / 16 ^ more) ≡ true = grind (arith, nat_tests) in
    and_from (are_digits (take count digits)) _ (take_passes is_digit digits count (spelled_digits digits second spelled))
    (ap (λ n. nat_le (value_of_digits (take count digits)) (unsigned_abs LAST_SECOND / 16 ^ (16 - n))) taken ∙ tested)

pub second_right : (mark : Mark) (digits : List ℕ) (count : ℕ) → IsWritable mark → SpellsNumber digits (fields_of mark).second
    → length digits ≡ 16 → count ≤ 16 → is_second_prefix (fields_of mark).kind (take count digits) ≡ true
second_right (Removed number) digits count writable spelled counted few =
    take_passes (λ byte. byte == 48) digits count (zeros_of digits spelled)
second_right (Started number queue second) digits count writable spelled counted few =
    second_prefix digits (unsigned_abs second) count spelled (second_small (Started number queue second) writable) counted few
second_right (Ended number ending) digits count writable spelled counted few =
    take_passes (λ byte. byte == 48) digits count (zeros_of digits spelled)
second_right (Interrupted number) digits count writable spelled counted few =
    take_passes (λ byte. byte == 48) digits count (zeros_of digits spelled)
second_right (Forgotten number) digits count writable spelled counted few =
    take_passes (λ byte. byte == 48) digits count (zeros_of digits spelled)
second_right (Batch second) digits count writable spelled counted few =
    second_prefix digits (unsigned_abs second) count spelled (second_small (Batch second) writable) counted few

-- each byte of a mark's slot is allowed
pub part_prefix : (slot : List ℕ) (from to place : ℕ) → place ≤ to
    → slice_range slot from place ≡ take (place - from) (slice_range slot from to)
part_prefix slot from to place inside = sym (take-take (place - from) (to - from) (drop from slot) (omega arith))

pub part_long : (slot : List ℕ) (from to : ℕ) → to ≤ length slot → length (slice_range slot from to) ≡ to - from
part_long slot from to inside = length-take-le (to - from) (drop from slot) (omega (arith, length-drop from slot))

pub part_byte : (slot : List ℕ) (from to place : ℕ) → place < to - from
    → slice_index (slice_range slot from to) place ≡ slice_index slot (from + place)
part_byte slot from to place inside = get_or-take (to - from) (drop from slot) place 0 inside ∙ get_or-drop from slot place 0

pub spelled_holds : (slot : List ℕ) (mark : Mark) (place : ℕ) → SpellsMark slot mark → place < 32 → may_stand slot place ≡ true
unfolding may_stand
spelled_holds slot mark place spelled inside =
    let fields : Fields = fields_of mark in
    let counted : length slot ≡ 32 = spelled.fields.counted in
    if_true (place == 0) _ _ (λ is. eq-eqb (slice_index slot 0) 43 spelled.fields.gate) (λ not_0.
    if_true (place == 1) _ _ (λ is. ap is_kind spelled.fields.kind ∙ kind_right mark) (λ not_1.
    if_true (nat_lt place 10) _ _ (λ is.
    let few : place < 10 = grind (arith, nat_tests) in
    ap (λ kind. is_number_prefix kind (slice_range slot 2 (place + 1))) spelled.fields.kind
    ∙ ap (is_number_prefix fields.kind) (part_prefix slot 2 10 (place + 1) (omega arith))
    ∙ number_right mark (slice_range slot 2 10) (place + 1 - 2) spelled.writable spelled.fields.number (part_long slot 2 10 (omega arith)))
    (λ not_9.
    if_true (place == 10) _ _ (λ is. ap (λ kind. is_queue_of kind (slice_index slot 10)) spelled.fields.kind
    ∙ ap (is_queue_of fields.kind) spelled.fields.queue ∙ queue_right mark spelled.writable) (λ not_10.
    if_true (place == 11) _ _ (λ is. ap (λ kind. is_ending_of kind (slice_index slot 11)) spelled.fields.kind
    ∙ ap (is_ending_of fields.kind) spelled.fields.ending ∙ ending_right mark) (λ not_11.
    if_true (nat_lt place 14) _ _ (λ is.
    let few : place < 14 = grind (arith, nat_tests) in
    let from_10 : 10 ≤ place = from_place place 10 not_9 in
    let from_11 : 11 ≤ place = after_place place 10 from_10 not_10 in
    let from_12 : 12 ≤ place = after_place place 11 from_11 not_11 in
    let long : length (slice_range slot 12 14) ≡ 2 = part_long slot 12 14 (omega arith) in
    let at : 12 + (place - 12) ≡ place = omega arith in
    ap (λ ending. is_status_of ending (slice_index slot place)) spelled.fields.ending
    ∙ ap (is_status_of fields.ending) (sym (part_byte slot 12 14 (place - 12) (omega arith) ∙ ap (slice_index slot) at))
    ∙ status_right mark (slice_range slot 12 14) (place - 12) spelled.fields.status (omega arith)) (λ not_13.
    if_true (nat_lt place 30) _ _ (λ is.
    let few : place < 30 = grind (arith, nat_tests) in
    ap (λ kind. is_second_prefix kind (slice_range slot 14 (place + 1))) spelled.fields.kind
    ∙ ap (is_second_prefix fields.kind) (part_prefix slot 14 30 (place + 1) (omega arith))
    ∙ second_right mark (slice_range slot 14 30) (place + 1 - 14) spelled.writable spelled.fields.second
    (part_long slot 14 30 (omega arith)) (omega arith)) (λ not_29.
    if_true (place == 30) _ _ (λ is. eq-eqb (slice_index slot 30) 46 spelled.fields.point) (λ not_30.
    let from_30 : 30 ≤ place = from_place place 30 not_29 in
    let from_31 : 31 ≤ place = after_place place 30 from_30 not_30 in
    and_from (place == 31) _ (eq-eqb place 31 (omega arith)) (eq-eqb (slice_index slot 31) 10 spelled.fields.newline)))))))))
