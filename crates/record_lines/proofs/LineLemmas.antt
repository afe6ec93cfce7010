-- Lines and their ends.
use Rattle.std.proofs.Common.{◌≡◌, ◌∙◌, ℕ, zero, suc, ◌+◌, ◌-◌, ◌<◌, Bool, true, false, cond, List, [], ◌∷◌, ◌++◌, length, take, drop, get_or, Some, None, refl, sym, ap, arith, add-one, drop-cons, length-drop, take_all}
use Rattle.std.specs.Prelude.{◌==◌, nat_lt}
use Rattle.std.specs.List.{list_all, list_any, position, position_or_len}
use Rattle.std.proofs.lemmas.Bool.Decides.{nat_tests}
use Rattle.std.proofs.lemmas.Bool.{and_parts, or_parts}
use Rattle.std.proofs.lemmas.List.{take-append-drop}
use Rattle.std.proofs.lemmas.List.Folds.{list_any-append}
use Rattle.std.proofs.lemmas.List.Quantifiers.{position-Some}
use Rattle.record_lines.specs.Lines.{HasNone, HasNoNewline}

-- the byte is a newline
abbrev pub is_newline : ℕ → Bool
is_newline byte = byte == 10

-- the bytes begin with so many bytes without a newline, and then comes one
pub record EndsAt (bytes : List ℕ) (end : ℕ) : Type 0 where
  pub whole : HasNoNewline (take end bytes)
  pub parted : bytes ≡ take end bytes ++ 10 ∷ drop (end + 1) bytes
  pub counted : length bytes ≡ (end + 1) + length (drop (end + 1) bytes)

each_before : (byte : ℕ) (bytes : List ℕ) (end : ℕ) → ((place : ℕ) → place < end → (get_or bytes place 0 == byte) ≡ false)
    → HasNone byte (take end bytes)
each_before byte [] zero none = refl
each_before byte [] (suc end) none = refl
each_before byte (first ∷ later) zero none = refl
each_before byte (first ∷ later) (suc end) none =
    rw (none 0 (omega arith)) (each_before byte later end (λ place below. none (suc place) (omega arith)))

-- before the first such byte there is none
pub none_before : (byte : ℕ) (bytes : List ℕ) (end : ℕ) → position (λ other. other == byte) bytes ≡ Some end → HasNone byte (take end bytes)
none_before byte bytes end found = each_before byte bytes end (position-Some (λ other. other == byte) bytes end 0 found).2

-- where the first newline is
pub line_ends : (bytes : List ℕ) (end : ℕ) → position is_newline bytes ≡ Some end → EndsAt bytes end
line_ends bytes end found =
    let first = position-Some is_newline bytes end 0 found in
    let inside : end < length bytes = first.0 in
    let newline : get_or bytes end 0 ≡ 10 = let test : is_newline (get_or bytes end 0) ≡ true = first.1 in grind (arith, nat_tests) in
    let parted : bytes ≡ take end bytes ++ 10 ∷ drop (end + 1) bytes =
    sym (take-append-drop end bytes) ∙ ap (λ rest. take end bytes ++ rest) (drop-cons bytes end 0 inside
    ∙ ap (λ byte. byte ∷ drop (suc end) bytes) newline ∙ ap (λ place. 10 ∷ drop place bytes) (sym (add-one end))) in
    record {
      whole = none_before 10 bytes end found;
      parted = parted;
      counted = omega (arith, length-drop (end + 1) bytes);
    }

none_later : (bytes : List ℕ) (byte : ℕ) → ((position_or_len is_newline bytes < length bytes → ⊥) → list_any is_newline bytes ≡ false)
    → (position_or_len is_newline (byte ∷ bytes) < length (byte ∷ bytes) → ⊥) → (newline : Bool) → is_newline byte ≡ newline
    → list_any is_newline (byte ∷ bytes) ≡ false
none_later bytes byte later far true is = absurd (far (rw is (omega arith)))
none_later bytes byte later far false is = rw is (later (λ near. far (rw is (omega arith))))

none_found : (bytes : List ℕ) → (position_or_len is_newline bytes < length bytes → ⊥) → list_any is_newline bytes ≡ false
none_found [] far = refl
none_found (byte ∷ bytes) far = none_later bytes byte (none_found bytes) far (is_newline byte) refl

-- and that there is none
pub no_line_ends : (bytes : List ℕ) → position is_newline bytes ≡ None → HasNoNewline bytes
no_line_ends bytes none =
    none_found bytes (λ near. let test : nat_lt (position_or_len is_newline bytes) (length bytes) ≡ true = grind (arith, nat_tests) in
    absurd (let some : Some (position_or_len is_newline bytes) ≡ None =
    sym (ap (λ b. cond b (Some (position_or_len is_newline bytes)) None) test) ∙ none in cc))

other_byte : (first byte : ℕ) → (first == byte) ≡ false → first ≡ byte → ⊥
other_byte first byte apart same = let test : (first == byte) ≡ true = grind (arith, nat_tests) in cc

-- what has no such byte ends at the first one
pub one_split : (byte : ℕ) (first second one two : List ℕ) → HasNone byte first → HasNone byte second
    → first ++ byte ∷ one ≡ second ++ byte ∷ two
    → (first ≡ second) × (one ≡ two)
one_split byte [] [] one two of_first of_second same = (refl, cc)
one_split byte [] (other ∷ second) one two of_first of_second same =
    absurd (let begin : other ≡ byte = cc in other_byte other byte (or_parts _ _ of_second).0 begin)
one_split byte (other ∷ first) [] one two of_first of_second same =
    absurd (let begin : other ≡ byte = cc in other_byte other byte (or_parts _ _ of_first).0 begin)
one_split byte (here ∷ first) (there ∷ second) one two of_first of_second same =
    let begin : here ≡ there = cc in
    let left : first ++ byte ∷ one ≡ second ++ byte ∷ two = cc in
    let later = one_split byte first second one two (or_parts _ _ of_first).1 (or_parts _ _ of_second).1 left in
    (ap (λ b. b ∷ first) begin ∙ ap (λ line. there ∷ line) later.0, later.1)

-- what passes a test has no byte that doesn't
pub none_of : (test : ℕ → Bool) (byte : ℕ) (bytes : List ℕ) → test byte ≡ false → list_all test bytes ≡ true → HasNone byte bytes
none_of test byte [] fails all = refl
none_of test byte (first ∷ later) fails all =
    let parts = and_parts (test first) (list_all test later) all in
    by_test (first == byte) refl parts.0 (none_of test byte later fails parts.1)
  where
    by_test : (same : Bool) → (first == byte) ≡ same → test first ≡ true → HasNone byte later → HasNone byte (first ∷ later)
    by_test true is passes none =
        absurd (let first_is : first ≡ byte = grind (arith, nat_tests) in let says : test first ≡ false = ap test first_is ∙ fails in cc)
    by_test false is passes none = rw is none

-- nor has what comes of two that have none
pub both_none : (first second : List ℕ) → HasNoNewline first → HasNoNewline second → HasNoNewline (first ++ second)
both_none first second one two = list_any-append (λ byte. byte == 10) first second ∙ rw (one, two) refl

-- a newline ends what has none
pub newline_holds : (line rest : List ℕ) → HasNoNewline (line ++ 10 ∷ rest) → ⊥
newline_holds [] rest none = cc
newline_holds (byte ∷ line) rest none = newline_holds line rest (or_parts _ _ none).1

-- what is after a letter and its space
pub after_space : (line rest : List ℕ) (letter : ℕ) → line ≡ letter ∷ 32 ∷ rest → take (length line - 2) (drop 2 line) ≡ rest
after_space line rest letter parted =
    ap (λ text. take (length text - 2) (drop 2 text)) parted ∙ take_all (length (letter ∷ 32 ∷ rest) - 2) rest (omega arith)
