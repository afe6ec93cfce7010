-- Slots and the marks that they spell.
use Rattle.std.proofs.Common.{◌≡◌, ◌≢◌, ◌+◌, ◌<◌, ◌≤◌, ℕ, true, List, [], ◌∷◌, ◌++◌, length, take, drop, Option, Some, None, IfNone, ℤ, pos, negsuc, ◌≤ℤ◌, lit≤, sym, ap, ◌∙◌, refl, arith, length-drop}
use Rattle.std.specs.Prelude.{nat_le, slice_index, slice_range, unsigned_abs}
use Rattle.std.proofs.Math.Seq.{take-add}
use Rattle.std.proofs.lemmas.Bool.Decides.{nat_tests}
use Rattle.std.proofs.lemmas.Int.{ints}
use Rattle.std.proofs.lemmas.List.{length-take-le, take_all, take_more}
use Rattle.text_reader.specs.HexDigits.{SpellsNumber}
use Rattle.text_reader.proofs.DigitLemmas.{one_number, one_spelling}
use Rattle.host_calls.specs.declared.child.Ending.TheVariants.{Exit, Signal, NotStarted}
use Rattle.start_journal.specs.declared.fields.Fields.{Fields}
use Rattle.start_journal.specs.declared.mark.Mark.{Mark}
use Rattle.start_journal.specs.declared.mark.Mark.TheVariants.{Removed, Started, Ended, Interrupted, Forgotten, Batch}
use Rattle.start_journal.specs.Laws.{MarksHaveOneSlot, SlotsSpellOneMark}
use Rattle.start_journal.specs.Slots.{IsWritable, SpellsFields, SpellsMark, fields_of, mark_with}
use Rattle.host_calls.specs.ClockRange.{IsClockSecond}
use Rattle.host_calls.specs.declared.clock_seconds.TheConstants.{LAST_SECOND}

-- a slot has one list of fields
pub one_fields : (slot : List ℕ) (first second : Fields) → SpellsFields slot first → SpellsFields slot second → first ≡ second
one_fields slot first second of_first of_second =
    let kind : first.kind ≡ second.kind = sym of_first.kind ∙ of_second.kind in
    let number : first.number ≡ second.number =
    one_number (slice_range slot 2 10) first.number second.number of_first.number of_second.number in
    let queue : first.queue ≡ second.queue = sym of_first.queue ∙ of_second.queue in
    let ending : first.ending ≡ second.ending = sym of_first.ending ∙ of_second.ending in
    let status : first.status ≡ second.status =
    one_number (slice_range slot 12 14) first.status second.status of_first.status of_second.status in
    let seconds : first.second ≡ second.second =
    one_number (slice_range slot 14 30) first.second second.second of_first.second of_second.second in
    λ i. record { kind = kind i; number = number i; queue = queue i; ending = ending i; status = status i; second = seconds i }

-- where no mark has the fields of a slot, it spells none
pub no_mark : (slot : List ℕ) (fields : Fields) (found : Option Mark) → SpellsFields slot fields
    → IfNone found ((mark : Mark) → IsWritable mark → fields_of mark ≢ fields) → IfNone found ((mark : Mark) → ¬ (SpellsMark slot mark))
no_mark slot fields None spelled none = λ mark is. none mark is.writable (one_fields slot (fields_of mark) fields is.fields spelled)
no_mark slot fields (Some mark) spelled none = tt

-- a second of the clock's range as a number
second_counted : (second : ℤ) → IsClockSecond second → unsigned_abs second ≤ unsigned_abs LAST_SECOND
second_counted (pos count) is = let to : pos count ≤ℤ LAST_SECOND = is.high in grind (arith, ints)
second_counted (negsuc count) is = let from : pos 0 ≤ℤ negsuc count = is.low in grind (arith, ints)

-- the second in the fields of a mark
pub second_small : (mark : Mark) → IsWritable mark → (fields_of mark).second ≤ unsigned_abs LAST_SECOND
second_small (Removed number) writable = lit≤ tt
second_small (Started number queue second) writable = second_counted second writable.second_of
second_small (Ended number ending) writable = lit≤ tt
second_small (Interrupted number) writable = lit≤ tt
second_small (Forgotten number) writable = lit≤ tt
second_small (Batch second) writable = second_counted second writable

-- the mark that fields can have is the one that they are of
within : (second : ℕ) → second ≤ unsigned_abs LAST_SECOND → nat_le second (unsigned_abs LAST_SECOND) ≡ true
within second few = grind (arith, nat_tests)

-- a second of the clock's range is a number
second_again : (second : ℤ) → IsClockSecond second → pos (unsigned_abs second) ≡ second
second_again (pos count) is = refl
second_again (negsuc count) is = let from : pos 0 ≤ℤ negsuc count = is.low in grind (arith, ints)

pub mark_again : (mark : Mark) → IsWritable mark → mark_with (fields_of mark) ≡ Some mark
mark_again (Removed number) writable = refl
mark_again (Started number queue second) writable = rw (within (unsigned_abs second) (second_counted second writable.second_of))
    (ap (λ second. Some (Started number queue second)) (second_again second writable.second_of))
mark_again (Ended number (Exit status)) writable = refl
mark_again (Ended number (Signal signal)) writable = refl
mark_again (Ended number NotStarted) writable = refl
mark_again (Interrupted number) writable = refl
mark_again (Forgotten number) writable = refl
mark_again (Batch second) writable =
    rw (within (unsigned_abs second) (second_counted second writable)) (ap (λ second. Some (Batch second)) (second_again second writable))

pub slots_spell_one_mark : SlotsSpellOneMark
slots_spell_one_mark slot first second of_first of_second =
    let same : fields_of first ≡ fields_of second = one_fields slot (fields_of first) (fields_of second) of_first.fields of_second.fields in
    let found : Some first ≡ Some second = sym (mark_again first of_first.writable) ∙ ap mark_with same
    ∙ mark_again second of_second.writable in
    cc

-- slots with the same prefix, and the same byte or the same digits after it, have the same longer prefix
byte_more : (first second : List ℕ) (count : ℕ) → count < length first → count < length second → take count first ≡ take count second
    → slice_index first count ≡ slice_index second count → take (count + 1) first ≡ take (count + 1) second
byte_more first second count in_first in_second prefix byte =
    take_more first count 0 in_first
    ∙ ap (λ bytes. bytes ++ slice_index first count ∷ []) prefix
    ∙ ap (λ byte. take count second ++ byte ∷ []) byte
    ∙ sym (take_more second count 0 in_second)

digits_more : (first second : List ℕ) (count more number : ℕ) → count + more ≤ length first → count + more ≤ length second
    → take count first ≡ take count second → SpellsNumber (take more (drop count first)) number
    → SpellsNumber (take more (drop count second)) number → take (count + more) first ≡ take (count + more) second
digits_more first second count more number in_first in_second prefix of_first of_second =
    let long_first : length (take more (drop count first)) ≡ more =
    length-take-le more (drop count first) (omega (arith, length-drop count first)) in
    let long_second : length (take more (drop count second)) ≡ more =
    length-take-le more (drop count second) (omega (arith, length-drop count second)) in
    let digits : take more (drop count first) ≡ take more (drop count second) =
    one_spelling _ _ number (long_first ∙ sym long_second) of_first of_second in
    take-add count more first
    ∙ ap (λ bytes. bytes ++ take more (drop count first)) prefix
    ∙ ap (λ digits. take count second ++ digits) digits
    ∙ sym (take-add count more second)

one_slot : (first second : List ℕ) (fields : Fields) → SpellsFields first fields → SpellsFields second fields → first ≡ second
one_slot first second fields of_first of_second =
    let in_first : (place : ℕ) → place < 32 → place < length first = λ place few. omega (arith, of_first.counted) in
    let in_second : (place : ℕ) → place < 32 → place < length second = λ place few. omega (arith, of_second.counted) in
    let to_kind : take 1 first ≡ take 1 second =
    byte_more first second 0 (in_first 0 (omega arith)) (in_second 0 (omega arith)) refl (of_first.gate ∙ sym of_second.gate) in
    let to_number : take 2 first ≡ take 2 second =
    byte_more first second 1 (in_first 1 (omega arith)) (in_second 1 (omega arith)) to_kind (of_first.kind ∙ sym of_second.kind) in
    let to_queue : take 10 first ≡ take 10 second = digits_more first second 2 8 fields.number (omega (arith, of_first.counted))
    (omega (arith, of_second.counted)) to_number of_first.number of_second.number in
    let to_ending : take 11 first ≡ take 11 second =
    byte_more first second 10 (in_first 10 (omega arith)) (in_second 10 (omega arith)) to_queue (of_first.queue ∙ sym of_second.queue) in
    let to_status : take 12 first ≡ take 12 second =
    byte_more first second 11 (in_first 11 (omega arith)) (in_second 11 (omega arith)) to_ending (of_first.ending ∙ sym of_second.ending) in
    let to_second : take 14 first ≡ take 14 second = digits_more first second 12 2 fields.status (omega (arith, of_first.counted))
    (omega (arith, of_second.counted)) to_status of_first.status of_second.status in
    let to_point : take 30 first ≡ take 30 second = digits_more first second 14 16 fields.second (omega (arith, of_first.counted))
    (omega (arith, of_second.counted)) to_second of_first.second of_second.second in
    let to_newline : take 31 first ≡ take 31 second =
    byte_more first second 30 (in_first 30 (omega arith)) (in_second 30 (omega arith)) to_point (of_first.point ∙ sym of_second.point) in
    let whole : take 32 first ≡ take 32 second = byte_more first second 31 (in_first 31 (omega arith)) (in_second 31 (omega arith))
    to_newline (of_first.newline ∙ sym of_second.newline) in
    sym (take_all 32 first (omega (arith, of_first.counted))) ∙ whole ∙ take_all 32 second (omega (arith, of_second.counted))

pub marks_have_one_slot : MarksHaveOneSlot
marks_have_one_slot first second mark of_first of_second = one_slot first second (fields_of mark) of_first.fields of_second.fields
