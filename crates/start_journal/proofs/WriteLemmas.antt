-- A slot whose fields are written one after the other.
use borrow.Rule.Slice.PartMut.{mid_of, put_mid}
use Rattle.std.proofs.Common.{◌≡◌, ℕ, ◌+◌, ◌<◌, ◌≤◌, ◌^◌, List, length, take, drop, set, sym, ap, subst, ◌∙◌, arith, length-append, length-drop, get_or-take}
use Rattle.std.specs.Prelude.{slice_index, slice_range}
use Rattle.std.proofs.lemmas.List.{get_or-set_same, length-set, length-take, length-take-le, take-set-le}
use Rattle.std.proofs.lemmas.Slice.{between_is, between-put_mid, take-put_mid_below}
use Rattle.text_reader.specs.HexDigits.{SpellsNumber}
use Rattle.start_journal.specs.declared.fields.Fields.{Fields}
use Rattle.start_journal.specs.Slots.{SpellsFields}
use Rattle.text_reader.proofs.ValueLemmas.{number_spelled}

-- a part that is written over leaves the length
put_long : (from count : ℕ) (list part : List ℕ) → from + count ≤ length list → length part ≡ count
    → length (put_mid from count list part) ≡ length list
put_long from count list part inside counted = simp (length-append, length-drop, length-take) (omega arith)

-- lists with the same prefix have the same bytes there
pub prefix_index : (count place : ℕ) (one other : List ℕ) → place < count → take count one ≡ take count other
    → slice_index one place ≡ slice_index other place
prefix_index count place one other before same = sym (get_or-take count one place 0 before) ∙ ap (λ list. slice_index list place) same
    ∙ get_or-take count other place 0 before

pub prefix_range : (from to : ℕ) (one other : List ℕ) → take to one ≡ take to other → slice_range one from to ≡ slice_range other from to
prefix_range from to one other same = between_is one from to ∙ ap (drop from) same ∙ sym (between_is other from to)

-- a part has as many bytes as its places
pub part_long : (from count : ℕ) (list : List ℕ) → from + count ≤ length list → length (mid_of from count list) ≡ count
part_long from count list inside = length-take-le count (drop from list) (omega (arith, length-drop from list))

-- 16 digits are left for the second
pub room : (slot : List ℕ) (second : ℕ) → length slot ≡ 32 → second < 2 ^ 64 → second < 16 ^ length (mid_of 14 16 slot)
room slot second counted fits =
    let left : length (mid_of 14 16 slot) ≡ 16 = part_long 14 16 slot (omega arith) in
    rw left fits

-- the slot with its kind, with its ending, and with the number of its ending
abbrev pub kinded : Fields → List ℕ → List ℕ
kinded fields start = set (set start 0 43) 1 fields.kind

abbrev pub ended : Fields → List ℕ → List ℕ → List ℕ
ended fields start number = set (set (put_mid 2 8 (kinded fields start) number) 10 fields.queue) 11 fields.ending

abbrev pub statused : Fields → List ℕ → List ℕ → List ℕ → List ℕ
statused fields start number status = put_mid 12 2 (ended fields start number) status

-- the slot has 32 bytes once its kind is written
pub kinded_long : (fields : Fields) (start : List ℕ) → length start ≡ 32 → length (kinded fields start) ≡ 32
kinded_long fields start counted = length-set (set start 0 43) 1 fields.kind ∙ length-set start 0 43 ∙ counted

-- and its ending
pub ended_long : (fields : Fields) (start number : List ℕ) → length start ≡ 32 → length number ≡ 8 → length (ended fields start number) ≡ 32
ended_long fields start number counted counted_number =
    let three : List ℕ = put_mid 2 8 (kinded fields start) number in
    length-set (set three 10 fields.queue) 11 fields.ending ∙ length-set three 10 fields.queue ∙ put_long 2 8 (kinded fields start) number
    (omega (arith, kinded_long fields start counted)) counted_number ∙ kinded_long fields start counted

-- and the number of its ending
pub statused_long : (fields : Fields) (start number status : List ℕ) → length start ≡ 32 → length number ≡ 8 → length status ≡ 2
    → length (statused fields start number status) ≡ 32
statused_long fields start number status counted counted_number counted_status =
    put_long 12 2 (ended fields start number) status (omega (arith, ended_long fields start number counted counted_number)) counted_status
    ∙ ended_long fields start number counted counted_number

-- all fields, each after those that were written before it
pub written : (fields : Fields) (start number status second : List ℕ) → length start ≡ 32 → length number ≡ 8 → length status ≡ 2
    → length second ≡ 16 → SpellsNumber number fields.number → SpellsNumber status fields.status → SpellsNumber second fields.second
    → SpellsFields (set (set (put_mid 14 16 (statused fields start number status) second) 30 46) 31 10) fields
written fields start number status second counted counted_number counted_status counted_second number_spelled
    status_spelled second_spelled =
    let one : List ℕ = set start 0 43 in
    let of_one : length one ≡ 32 = length-set start 0 43 ∙ counted in
    let two : List ℕ = set one 1 fields.kind in
    let of_two : length two ≡ 32 = length-set one 1 fields.kind ∙ of_one in
    let three : List ℕ = put_mid 2 8 two number in
    let of_three : length three ≡ 32 = put_long 2 8 two number (omega (arith, of_two)) counted_number ∙ of_two in
    let four : List ℕ = set three 10 fields.queue in
    let of_four : length four ≡ 32 = length-set three 10 fields.queue ∙ of_three in
    let five : List ℕ = set four 11 fields.ending in
    let of_five : length five ≡ 32 = length-set four 11 fields.ending ∙ of_four in
    let six : List ℕ = put_mid 12 2 five status in
    let of_six : length six ≡ 32 = put_long 12 2 five status (omega (arith, of_five)) counted_status ∙ of_five in
    let seven : List ℕ = put_mid 14 16 six second in
    let of_seven : length seven ≡ 32 = put_long 14 16 six second (omega (arith, of_six)) counted_second ∙ of_six in
    let eight : List ℕ = set seven 30 46 in
    let of_eight : length eight ≡ 32 = length-set seven 30 46 ∙ of_seven in
    let nine : List ℕ = set eight 31 10 in
    let to_eight : (count : ℕ) → count ≤ 31 → take count nine ≡ take count eight = λ count few. take-set-le count eight 31 10 few in
    let to_seven : (count : ℕ) → count ≤ 30 → take count nine ≡ take count seven = λ count few. to_eight count (omega arith)
    ∙ take-set-le count seven 30 46 few in
    let to_six : (count : ℕ) → count ≤ 14 → take count nine ≡ take count six = λ count few. to_seven count (omega arith)
    ∙ take-put_mid_below 14 16 six second count few (omega arith) in
    let to_five : (count : ℕ) → count ≤ 12 → take count nine ≡ take count five = λ count few. to_six count (omega arith)
    ∙ take-put_mid_below 12 2 five status count few (omega arith) in
    let to_four : (count : ℕ) → count ≤ 11 → take count nine ≡ take count four = λ count few. to_five count (omega arith)
    ∙ take-set-le count four 11 fields.ending few in
    let to_three : (count : ℕ) → count ≤ 10 → take count nine ≡ take count three = λ count few. to_four count (omega arith)
    ∙ take-set-le count three 10 fields.queue few in
    let to_two : (count : ℕ) → count ≤ 2 → take count nine ≡ take count two = λ count few. to_three count (omega arith)
    ∙ take-put_mid_below 2 8 two number count few (omega arith) in
    let to_one : (count : ℕ) → count ≤ 1 → take count nine ≡ take count one = λ count few. to_two count (omega arith)
    ∙ take-set-le count one 1 fields.kind few in
    let digits_number : slice_range nine 2 10 ≡ number = prefix_range 2 10 nine three (to_three 10 (omega arith))
    ∙ between-put_mid 2 8 two number 10 (omega arith) counted_number in
    let digits_status : slice_range nine 12 14 ≡ status = prefix_range 12 14 nine six (to_six 14 (omega arith))
    ∙ between-put_mid 12 2 five status 14 (omega arith) counted_status in
    let digits_second : slice_range nine 14 30 ≡ second = prefix_range 14 30 nine seven (to_seven 30 (omega arith))
    ∙ between-put_mid 14 16 six second 30 (omega arith) counted_second in
    record {
      counted = length-set eight 31 10 ∙ of_eight;
      gate = prefix_index 1 0 nine one (omega arith) (to_one 1 (omega arith)) ∙ get_or-set_same start 0 43 0 (omega arith);
      kind = prefix_index 2 1 nine two (omega arith) (to_two 2 (omega arith)) ∙ get_or-set_same one 1 fields.kind 0 (omega arith);
      number = subst (λ digits. SpellsNumber digits fields.number) (sym digits_number) number_spelled;
      queue = prefix_index 11 10 nine four (omega arith) (to_four 11 (omega arith)) ∙ get_or-set_same three 10 fields.queue 0 (omega arith);
      ending = prefix_index 12 11 nine five (omega arith) (to_five 12 (omega arith))
          ∙ get_or-set_same four 11 fields.ending 0 (omega arith);
      status = subst (λ digits. SpellsNumber digits fields.status) (sym digits_status) status_spelled;
      second = subst (λ digits. SpellsNumber digits fields.second) (sym digits_second) second_spelled;
      point = prefix_index 31 30 nine eight (omega arith) (to_eight 31 (omega arith)) ∙ get_or-set_same seven 30 46 0 (omega arith);
      newline = get_or-set_same eight 31 10 0 (omega arith);
    }
