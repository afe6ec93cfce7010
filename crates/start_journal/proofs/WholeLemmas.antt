-- A slot of which each byte is allowed spells a mark.
use Rattle.std.proofs.Common.{◌≡◌, ℕ, pos, ◌-◌, ◌/◌, ◌^◌, ◌<◌, ◌≤◌, Bool, true, false, List, length, sym, ap, subst, ◌∙◌, refl, inl, inr, arith}
use Rattle.std.specs.Prelude.{unsigned_abs, ◌==◌, ◌&&◌, ◌||◌, nat_le, nat_lt, slice_index, slice_range, if◌then◌else◌}
use Rattle.std.specs.Char.{is_ascii_alphabetic}
use Rattle.std.specs.List.{list_all}
use Rattle.std.proofs.Math.Nat.{eq-or-lt_of_le}
use Rattle.std.proofs.lemmas.Bool.Decides.{nat_tests}
use Rattle.text_reader.specs.HexDigits.{SpellsNumber}
use Rattle.host_calls.specs.declared.child.Ending.TheVariants.{Exit, Signal, NotStarted}
use Rattle.start_journal.specs.declared.fields.Fields.{Fields}
use Rattle.start_journal.specs.declared.mark.Mark.{Mark}
use Rattle.start_journal.specs.declared.mark.Mark.TheVariants.{Removed, Started, Ended, Interrupted, Forgotten, Batch}
use Rattle.start_journal.specs.SlotBytes.{is_number_prefix, is_second_prefix, is_ending_of, is_kind, is_queue_of, is_status_of, may_stand}
use Rattle.text_reader.specs.HexValues.{are_digits, are_zeros, is_digit, value_of_digits}
use Rattle.start_journal.specs.Slots.{SpellsFields, SpellsMark, plain_fields}
use Rattle.host_calls.specs.ClockRange.{IsClockSecond}
use Rattle.host_calls.proofs.ClockRangeLemmas.{second_is}
use Rattle.std.proofs.lemmas.Bool.{and_parts, eqb-true, or_cases}
use Rattle.text_reader.proofs.TestLemmas.{all_by_place}
use Rattle.text_reader.proofs.ValueLemmas.{digits_spell, spelled_zero}
use Rattle.start_journal.proofs.StandLemmas.{part_long, part_byte}
use Rattle.host_calls.specs.declared.clock_seconds.TheConstants.{LAST_SECOND}

-- a slot of which each byte is allowed
abbrev pub AllStand : List ℕ → Type 0
AllStand slot = (place : ℕ) → place < length slot → may_stand slot place ≡ true

-- a mark and its slot
pub record SpellsSome (slot : List ℕ) : Type 0 where
  pub mark : Mark
  pub spelled : SpellsMark slot mark

-- what the tests of a whole slot say
pub record HasParts (slot : List ℕ) : Type 0 where
  pub counted : length slot ≡ 32
  pub gate : (slice_index slot 0 == 43) ≡ true
  pub kind : is_kind (slice_index slot 1) ≡ true
  pub number : is_number_prefix (slice_index slot 1) (slice_range slot 2 10) ≡ true
  pub queue : is_queue_of (slice_index slot 1) (slice_index slot 10) ≡ true
  pub ending : is_ending_of (slice_index slot 1) (slice_index slot 11) ≡ true
  pub first : is_status_of (slice_index slot 11) (slice_index slot 12) ≡ true
  pub last : is_status_of (slice_index slot 11) (slice_index slot 13) ≡ true
  pub second : is_second_prefix (slice_index slot 1) (slice_range slot 14 30) ≡ true
  pub point : (slice_index slot 30 == 46) ≡ true
  pub newline : (slice_index slot 31 == 10) ≡ true

pub parts_of : (slot : List ℕ) → length slot ≡ 32 → AllStand slot → HasParts slot
unfolding may_stand
parts_of slot counted each = record {
  counted = counted;
  gate = each 0 (omega arith);
  kind = each 1 (omega arith);
  number = each 9 (omega arith);
  queue = each 10 (omega arith);
  ending = each 11 (omega arith);
  first = each 12 (omega arith);
  last = each 13 (omega arith);
  second = each 29 (omega arith);
  point = each 30 (omega arith);
  newline = each 31 (omega arith);
}

-- the slot with fields whose numbers are spelled
pub fields_spelled : (slot : List ℕ) (fields : Fields) → HasParts slot → slice_index slot 1 ≡ fields.kind
    → SpellsNumber (slice_range slot 2 10) fields.number → slice_index slot 10 ≡ fields.queue → slice_index slot 11 ≡ fields.ending
    → SpellsNumber (slice_range slot 12 14) fields.status → SpellsNumber (slice_range slot 14 30) fields.second → SpellsFields slot fields
fields_spelled slot fields parts kind number queue ending status second = record {
  counted = parts.counted;
  gate = eqb-true (slice_index slot 0) 43 parts.gate;
  kind = kind;
  number = number;
  queue = queue;
  ending = ending;
  status = status;
  second = second;
  point = eqb-true (slice_index slot 30) 46 parts.point;
  newline = eqb-true (slice_index slot 31) 10 parts.newline;
}

-- the two bytes of an ending's number
pub two_pass : (test : ℕ → Bool) (slot : List ℕ) → length slot ≡ 32 → test (slice_index slot 12) ≡ true → test (slice_index slot 13) ≡ true
    → list_all test (slice_range slot 12 14) ≡ true
two_pass test slot counted first last =
    let long : length (slice_range slot 12 14) ≡ 2 = part_long slot 12 14 (omega arith) in
    all_by_place test (slice_range slot 12 14) (λ place inside. elim (eq-or-lt_of_le (let at_most : place ≤ 1 = omega arith in at_most)) [
      | inl is_one ↦ ap (λ p. test (slice_index (slice_range slot 12 14) p)) is_one ∙ ap test (part_byte slot 12 14 1 (omega arith)) ∙ last
      | inr below ↦
          let is_zero : place ≡ 0 = omega arith in
          ap (λ p. test (slice_index (slice_range slot 12 14) p)) is_zero ∙ ap test (part_byte slot 12 14 0 (omega arith)) ∙ first
    ])

-- the number of a job
pub number_of_job : (slot : List ℕ) → length slot ≡ 32 → (are_digits (slice_range slot 2 10)
    && (nat_lt (length (slice_range slot 2 10)) 8 || nat_le 1 (value_of_digits (slice_range slot 2 10)))) ≡ true
    → SpellsNumber (slice_range slot 2 10) (value_of_digits (slice_range slot 2 10)) × (1 ≤ value_of_digits (slice_range slot 2 10))
number_of_job slot counted is =
    let digits : List ℕ = slice_range slot 2 10 in
    let tests : (are_digits digits ≡ true) × ((nat_lt (length digits) 8 || nat_le 1 (value_of_digits digits)) ≡ true) = and_parts _ _ is in
    let long : length digits ≡ 8 = part_long slot 2 10 (omega arith) in
    let not_few : nat_lt (length digits) 8 ≡ false = grind (arith, nat_tests) in
    let some : nat_le 1 (value_of_digits digits) ≡ true = sym (ap (λ b. b || nat_le 1 (value_of_digits digits)) not_few) ∙ tests.1 in
    (digits_spell digits tests.0, grind (arith, nat_tests))

-- a second of the clock's range
pub second_of_slot : (slot : List ℕ) → length slot ≡ 32 → (are_digits (slice_range slot 14 30)
    && nat_le (value_of_digits (slice_range slot 14 30)) (unsigned_abs LAST_SECOND / 16 ^ (16 - length (slice_range slot 14 30)))) ≡ true
    → SpellsNumber (slice_range slot 14 30) (value_of_digits (slice_range slot 14 30))
    × IsClockSecond (pos (value_of_digits (slice_range slot 14 30)))
second_of_slot slot counted is =
    let digits : List ℕ = slice_range slot 14 30 in
    let tests : (are_digits digits ≡ true)
    × (nat_le (value_of_digits digits) (unsigned_abs LAST_SECOND / 16 ^ (16 - length digits)) ≡ true) = and_parts _ _ is in
    let long : length digits ≡ 16 = part_long slot 14 30 (omega arith) in
    let at_most : nat_le (value_of_digits digits) (unsigned_abs LAST_SECOND) ≡ true =
    sym (ap (λ n. nat_le (value_of_digits digits) (unsigned_abs LAST_SECOND / 16 ^ (16 - n))) long) ∙ tests.1 in
    (digits_spell digits tests.0, second_is (pos (value_of_digits digits)) at_most)

-- a slot of a kind that says no more than a number
pub plain_slot : (slot : List ℕ) (kind : ℕ) → HasParts slot → slice_index slot 1 ≡ kind → (kind == 66) ≡ false
    → (kind == 83) ≡ false → (kind == 69) ≡ false → SpellsFields slot (plain_fields kind (value_of_digits (slice_range slot 2 10)))
    × (1 ≤ value_of_digits (slice_range slot 2 10))
plain_slot slot kind parts is not_batch not_start not_end =
    let digits : List ℕ = slice_range slot 2 10 in
    let seconds : List ℕ = slice_range slot 14 30 in
    let number = number_of_job slot parts.counted
    (sym (ap (λ b. if b then are_zeros digits else (are_digits digits && (nat_lt (length digits) 8 || nat_le 1 (value_of_digits digits))))
    (ap (λ k. k == 66) is ∙ not_batch)) ∙ parts.number) in
    let queue : slice_index slot 10 ≡ 45 = eqb-true (slice_index slot 10) 45
    (sym (ap (λ b. if b then is_ascii_alphabetic (slice_index slot 10) else slice_index slot 10 == 45) (ap (λ k. k == 83) is ∙ not_start))
    ∙ parts.queue) in
    let ending : slice_index slot 11 ≡ 45 = eqb-true (slice_index slot 11) 45
    (sym (ap (λ b. if b then (slice_index slot 11 == 120 || slice_index slot 11 == 115 || slice_index slot 11 == 110) else slice_index slot
    11 == 45) (ap (λ k. k == 69) is ∙ not_end)) ∙ parts.ending) in
    let first : (slice_index slot 12 == 48) ≡ true = sym (ap (λ e. is_status_of e (slice_index slot 12)) ending) ∙ parts.first in
    let last : (slice_index slot 13 == 48) ≡ true = sym (ap (λ e. is_status_of e (slice_index slot 13)) ending) ∙ parts.last in
    let no_second : (slice_index slot 1 == 83 || slice_index slot 1 == 66) ≡ false =
    ap (λ b. b || slice_index slot 1 == 66) (ap (λ k. k == 83) is ∙ not_start) ∙ ap (λ k. k == 66) is ∙ not_batch in
    let zeros : are_zeros seconds ≡ true = sym (ap (λ b. if b then (are_digits seconds && nat_le (value_of_digits seconds)
    (unsigned_abs LAST_SECOND / 16 ^ (16 - length seconds))) else are_zeros seconds) no_second) ∙ parts.second in (
      fields_spelled slot (plain_fields kind (value_of_digits digits)) parts is number.0 queue ending
          (spelled_zero (slice_range slot 12 14) (two_pass (λ byte. byte == 48) slot parts.counted first last))
          (spelled_zero seconds zeros),
      number.1,
    )

-- the slot of a start
pub start_slot : (slot : List ℕ) → HasParts slot → slice_index slot 1 ≡ 83 → SpellsSome slot
start_slot slot parts is =
    let number = number_of_job slot parts.counted (subst (λ kind. is_number_prefix kind (slice_range slot 2 10) ≡ true) is parts.number) in
    let letter : is_ascii_alphabetic (slice_index slot 10) ≡ true =
    subst (λ kind. is_queue_of kind (slice_index slot 10) ≡ true) is parts.queue in
    let ending : slice_index slot 11 ≡ 45 =
    eqb-true (slice_index slot 11) 45 (subst (λ kind. is_ending_of kind (slice_index slot 11) ≡ true) is parts.ending) in
    let first : (slice_index slot 12 == 48) ≡ true = subst (λ e. is_status_of e (slice_index slot 12) ≡ true) ending parts.first in
    let last : (slice_index slot 13 == 48) ≡ true = subst (λ e. is_status_of e (slice_index slot 13) ≡ true) ending parts.last in
    let second =
    second_of_slot slot parts.counted (subst (λ kind. is_second_prefix kind (slice_range slot 14 30) ≡ true) is parts.second) in
    record {
      mark = Started (value_of_digits (slice_range slot 2 10)) (slice_index slot 10) (pos (value_of_digits (slice_range slot 14 30)));
      spelled = record {
        writable = record { drawn = number.1; letter = letter; second_of = second.1 };
        fields = fields_spelled slot _ parts is number.0 refl ending
            (spelled_zero (slice_range slot 12 14) (two_pass (λ byte. byte == 48) slot parts.counted first last)) second.0;
      };
    }

-- the slot of a batch start
pub batch_slot : (slot : List ℕ) → HasParts slot → slice_index slot 1 ≡ 66 → SpellsSome slot
batch_slot slot parts is =
    let zeros : are_zeros (slice_range slot 2 10) ≡ true =
    subst (λ kind. is_number_prefix kind (slice_range slot 2 10) ≡ true) is parts.number in
    let queue : slice_index slot 10 ≡ 45 =
    eqb-true (slice_index slot 10) 45 (subst (λ kind. is_queue_of kind (slice_index slot 10) ≡ true) is parts.queue) in
    let ending : slice_index slot 11 ≡ 45 =
    eqb-true (slice_index slot 11) 45 (subst (λ kind. is_ending_of kind (slice_index slot 11) ≡ true) is parts.ending) in
    let first : (slice_index slot 12 == 48) ≡ true = subst (λ e. is_status_of e (slice_index slot 12) ≡ true) ending parts.first in
    let last : (slice_index slot 13 == 48) ≡ true = subst (λ e. is_status_of e (slice_index slot 13) ≡ true) ending parts.last in
    let second =
    second_of_slot slot parts.counted (subst (λ kind. is_second_prefix kind (slice_range slot 14 30) ≡ true) is parts.second) in
    record {
      mark = Batch (pos (value_of_digits (slice_range slot 14 30)));
      spelled = record {
        writable = second.1;
        fields = fields_spelled slot _ parts is (spelled_zero (slice_range slot 2 10) zeros) queue ending
            (spelled_zero (slice_range slot 12 14) (two_pass (λ byte. byte == 48) slot parts.counted first last)) second.0;
      };
    }

-- the slot of an end, by its ending
pub end_slot : (slot : List ℕ) → HasParts slot → slice_index slot 1 ≡ 69 → SpellsSome slot
end_slot slot parts is =
    let number = number_of_job slot parts.counted (subst (λ kind. is_number_prefix kind (slice_range slot 2 10) ≡ true) is parts.number) in
    let queue : slice_index slot 10 ≡ 45 =
    eqb-true (slice_index slot 10) 45 (subst (λ kind. is_queue_of kind (slice_index slot 10) ≡ true) is parts.queue) in
    let zeros : are_zeros (slice_range slot 14 30) ≡ true =
    subst (λ kind. is_second_prefix kind (slice_range slot 14 30) ≡ true) is parts.second in
    let second : SpellsNumber (slice_range slot 14 30) 0 = spelled_zero (slice_range slot 14 30) zeros in
    let digits : (e : ℕ) → slice_index slot 11 ≡ e → ((byte : ℕ) → is_status_of e byte ≡ is_digit byte)
    → SpellsNumber (slice_range slot 12 14) (value_of_digits (slice_range slot 12 14)) =
    λ e at same. digits_spell (slice_range slot 12 14) (two_pass is_digit slot parts.counted
    (sym (same (slice_index slot 12)) ∙ subst (λ x. is_status_of x (slice_index slot 12) ≡ true) at parts.first)
    (sym (same (slice_index slot 13)) ∙ subst (λ x. is_status_of x (slice_index slot 13) ≡ true) at parts.last)) in
    let endings : (slice_index slot 11 == 120 || slice_index slot 11 == 115 || slice_index slot 11 == 110) ≡ true =
    subst (λ kind. is_ending_of kind (slice_index slot 11) ≡ true) is parts.ending in
    elim (or_cases (slice_index slot 11 == 120 || slice_index slot 11 == 115) (slice_index slot 11 == 110) endings) [
      | inl exit_or_signal ↦ elim (or_cases (slice_index slot 11 == 120) (slice_index slot 11 == 115) exit_or_signal) [
        | inl exit ↦
            let at : slice_index slot 11 ≡ 120 = eqb-true (slice_index slot 11) 120 exit in
            record {
              mark = Ended (value_of_digits (slice_range slot 2 10)) (Exit (value_of_digits (slice_range slot 12 14)));
              spelled = record {
                writable = number.1;
                fields = fields_spelled slot _ parts is number.0 queue at (digits 120 at (λ byte. refl)) second;
              };
            }
        | inr signal ↦
            let at : slice_index slot 11 ≡ 115 = eqb-true (slice_index slot 11) 115 signal in
            record {
              mark = Ended (value_of_digits (slice_range slot 2 10)) (Signal (value_of_digits (slice_range slot 12 14)));
              spelled = record {
                writable = number.1;
                fields = fields_spelled slot _ parts is number.0 queue at (digits 115 at (λ byte. refl)) second;
              };
            }
      ]
      | inr none ↦
          let at : slice_index slot 11 ≡ 110 = eqb-true (slice_index slot 11) 110 none in
          let first : (slice_index slot 12 == 48) ≡ true = subst (λ e. is_status_of e (slice_index slot 12) ≡ true) at parts.first in
          let last : (slice_index slot 13 == 48) ≡ true = subst (λ e. is_status_of e (slice_index slot 13) ≡ true) at parts.last in
          record {
            mark = Ended (value_of_digits (slice_range slot 2 10)) NotStarted;
            spelled = record {
              writable = number.1;
              fields = fields_spelled slot _ parts is number.0 queue at
                  (spelled_zero (slice_range slot 12 14) (two_pass (λ byte. byte == 48) slot parts.counted first last)) second;
            };
          }
    ]

-- the slots of the other kinds
pub removed_slot : (slot : List ℕ) → HasParts slot → slice_index slot 1 ≡ 82 → SpellsSome slot
removed_slot slot parts is =
    let plain = plain_slot slot 82 parts is refl refl refl in
    record { mark = Removed (value_of_digits (slice_range slot 2 10)); spelled = record { writable = plain.1; fields = plain.0 } }

pub interrupted_slot : (slot : List ℕ) → HasParts slot → slice_index slot 1 ≡ 73 → SpellsSome slot
interrupted_slot slot parts is =
    let plain = plain_slot slot 73 parts is refl refl refl in
    record { mark = Interrupted (value_of_digits (slice_range slot 2 10)); spelled = record { writable = plain.1; fields = plain.0 } }

pub forgotten_slot : (slot : List ℕ) → HasParts slot → slice_index slot 1 ≡ 70 → SpellsSome slot
forgotten_slot slot parts is =
    let plain = plain_slot slot 70 parts is refl refl refl in
    record { mark = Forgotten (value_of_digits (slice_range slot 2 10)); spelled = record { writable = plain.1; fields = plain.0 } }

-- a slot of which each byte is allowed spells a mark
pub all_spelled : (slot : List ℕ) → HasParts slot → SpellsSome slot
all_spelled slot parts =
    let kind : ℕ = slice_index slot 1 in
    let is : (at : ℕ) → (kind == at) ≡ true → kind ≡ at = λ at. eqb-true kind at in
    elim (or_cases (kind == 82 || kind == 83 || kind == 69 || kind == 73 || kind == 70) (kind == 66) parts.kind) [
      | inr batch ↦ batch_slot slot parts (is 66 batch)
      | inl five ↦ elim (or_cases (kind == 82 || kind == 83 || kind == 69 || kind == 73) (kind == 70) five) [
        | inr forgotten ↦ forgotten_slot slot parts (is 70 forgotten)
        | inl four ↦ elim (or_cases (kind == 82 || kind == 83 || kind == 69) (kind == 73) four) [
          | inr interrupted ↦ interrupted_slot slot parts (is 73 interrupted)
          | inl three ↦ elim (or_cases (kind == 82 || kind == 83) (kind == 69) three) [
            | inr ended ↦ end_slot slot parts (is 69 ended)
            | inl two ↦ elim (or_cases (kind == 82) (kind == 83) two) [
              | inr started ↦ start_slot slot parts (is 83 started)
              | inl removed ↦ removed_slot slot parts (is 82 removed)
            ]
          ]
        ]
      ]
    ]
