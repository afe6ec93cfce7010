-- The prefixes of names as numbers, and the names in their order.
use Rattle.std.proofs.Common.{◌≡◌, ◌∙◌, ◌+◌, ◌-◌, ◌*◌, ◌^◌, ◌<◌, ◌≤◌, ℕ, zero, suc, Bool, true, false, not, List, [], ◌∷◌, ◌++◌, length, min, replicate, take, map, drop, get_or, Ordering, refl, sym, ap, subst, arith, nat_lt}
use Rattle.std.specs.Int.{w128, from_be_bytes}
use Rattle.std.specs.Prelude.{IsTrue, ◌==◌, IsSortedBy, cond}
use Rattle.std.specs.Cmp.Lexicographic.{slice_cmp}
use Rattle.std.specs.Ordering.{is_ge, is_lt, nat_cmp, ordering_then}
use Rattle.std.specs.declared.cmp.Ordering.TheVariants.{Less, Equal, Greater}
use Rattle.std.proofs.Math.Nat.{add-mul, mul-le-mul_right, one-le-pow}
use Rattle.std.proofs.lemmas.Bool.{and_parts}
use Rattle.std.proofs.lemmas.Bool.Decides.{nat_tests}
use Rattle.std.proofs.lemmas.Grind.{pow_more}
use Rattle.std.proofs.lemmas.List.{get_or-append_right, get_or-drop, get_or-map, get_or-replicate, get_or-take, get_or_append_left, get_or_past, length-map, length-take-le}
use Rattle.host_calls.specs.Directory.{name_cmp}
use Rattle.host_calls.specs.Names.{is_name_byte, are_name_bytes}
use Rattle.unix_host.specs.inside.Prefixes.{prefix_number}
use Rattle.unix_host.proofs.PathLemmas.{is_ascii}

-- a digit and what is below it are less than the next digit with zeros
below_next : (digit next worth rest : ℕ) → digit < next → rest < worth → digit * worth + rest < next * worth
below_next digit next worth rest less below =
    omega (arith, add-mul digit 1 worth, mul-le-mul_right {m = digit + 1} {n = next} worth (omega arith))

first_byte : (byte : ℕ) (name : List ℕ) → IsTrue (are_name_bytes (byte ∷ name)) → byte < 256
first_byte byte name all = omega (arith, is_ascii byte (and_parts (is_name_byte byte) (are_name_bytes name) all).0)

other_bytes : (byte : ℕ) (name : List ℕ) → IsTrue (are_name_bytes (byte ∷ name)) → IsTrue (are_name_bytes name)
other_bytes byte name all = (and_parts (is_name_byte byte) (are_name_bytes name) all).1

-- a prefix of so many bytes is a number of so many digits
prefix_fits : (count : ℕ) (name : List ℕ) → IsTrue (are_name_bytes name) → prefix_number count name < 256 ^ count
prefix_fits zero name all = omega arith
prefix_fits (suc count) [] all = one-le-pow (suc count) 256 (omega arith)
prefix_fits (suc count) (byte ∷ name) all =
    omega (
      arith,
      pow_more 256 count,
      below_next byte 256 (256 ^ count) (prefix_number count name) (first_byte byte name all)
          (prefix_fits count name (other_bytes byte name all)),
    )

below_same : (x y worth rest other : ℕ) → x ≡ y → x * worth + rest < y * worth + other → rest < other
below_same x y worth rest other same less = omega (arith, ap (λ (digit : ℕ). digit * worth) same)

-- where a number is less, its first digit is no greater
first_digit : (x y worth rest other : ℕ) → other < worth → x * worth + rest < y * worth + other → y < x → ⊥
first_digit x y worth rest other fits less greater = omega (arith, below_next y x worth other greater fits)

is_more : (one other : ℕ) → nat_lt one other ≡ true → one < other
is_more one other test = grind (arith, nat_tests)

is_same : (one other : ℕ) → (one == other) ≡ true → other ≡ one
is_same one other test = grind (arith, nat_tests)

-- the first bytes of two names decide, unless they are the same
by_first : (x y : ℕ) (one other : List ℕ) → (y < x → ⊥) → (x ≡ y → is_lt (name_cmp other one) ≡ false)
    → is_lt (name_cmp (y ∷ other) (x ∷ one)) ≡ false
by_first x y one other no_less same = by_test (nat_lt y x) refl (y == x) refl where
  by_test : (before : Bool) → nat_lt y x ≡ before → (alike : Bool) → (y == x) ≡ alike
      → is_lt (ordering_then (cond before Less (cond alike Equal Greater)) (slice_cmp nat_cmp other one)) ≡ false
  by_test true is alike also = absurd (no_less (is_more y x is))
  by_test false is true also = same (is_same y x also)
  by_test false is false also = refl

-- a name whose prefix is less does not come after the other
prefixes_decide : (count : ℕ) (one other : List ℕ) → IsTrue (are_name_bytes one) → IsTrue (are_name_bytes other)
    → prefix_number count one < prefix_number count other → is_lt (name_cmp other one) ≡ false
prefixes_decide zero one other ones others less = absurd (omega arith)
prefixes_decide (suc count) one [] ones others less = absurd (omega arith)
prefixes_decide (suc count) [] (y ∷ other) ones others less = refl
prefixes_decide (suc count) (x ∷ one) (y ∷ other) ones others less =
    let rest = prefix_number count one in
    let next = prefix_number count other in
    by_first x y one other
    (first_digit x y (256 ^ count) rest next (prefix_fits count other (other_bytes y other others)) less)
    (λ same. prefixes_decide count one other (other_bytes x one ones) (other_bytes y other others)
    (below_same x y (256 ^ count) rest next same less))

pub prefix_before : (p q : ℕ) (one other : List ℕ) → p ≡ prefix_number 16 one → q ≡ prefix_number 16 other
    → IsTrue (are_name_bytes one) → IsTrue (are_name_bytes other) → p < q → nat_lt p q ≡ not (is_lt (name_cmp other one))
prefix_before p q one other p_is q_is ones others less =
    let before : is_lt (name_cmp other one) ≡ false =
    prefixes_decide 16 one other ones others (subst (λ n. n < prefix_number 16 other) p_is (subst (λ n. p < n) q_is less)) in
    let test : nat_lt p q ≡ true = grind (arith, nat_tests) in
    test ∙ sym (ap not before)

pub not_before : (order : Ordering) → is_ge order ≡ not (is_lt order)
not_before Less = refl
not_before Equal = refl
not_before Greater = refl

pub passes_not : (b : Bool) → true ≡ not b → b ≡ false
passes_not true is = cc is
passes_not false is = refl

-- what is in order by what it shows, shows it in order
pub sorted_map : {X Y : Type 0} (show : X → Y) (lt : Y → Y → Bool) (xs : List X) → IsSortedBy (λ x y. lt (show x) (show y)) xs
    → IsSortedBy lt (map show xs)
sorted_map show lt [] sorted k e low inside = absurd (omega arith)
sorted_map show lt (x ∷ xs) sorted k e low inside =
    let list = x ∷ xs in
    let within : k + 1 < length list = omega (arith, length-map list show) in
    (λ i. lt (get_or-map show list (k + 1) x e within i) (get_or-map show list k x e (omega arith) i)) ∙ sorted k x low within

-- The number that sixteen bytes write.

no_bytes : (count : ℕ) → prefix_number count [] ≡ 0
no_bytes zero = refl
no_bytes (suc count) = refl

first_of : (count : ℕ) (name : List ℕ) → prefix_number (suc count) name ≡ get_or name 0 0 * 256 ^ count + prefix_number count (drop 1 name)
first_of count [] = omega (arith, no_bytes count)
first_of count (x ∷ name) = refl

byte_of : (count place : ℕ) (name : List ℕ)
    → prefix_number (suc count) (drop place name) ≡ get_or name place 0 * 256 ^ count + prefix_number count (drop (suc place) name)
byte_of count zero name = first_of count name
byte_of count (suc place) [] = omega (arith, no_bytes count)
byte_of count (suc place) (x ∷ name) = byte_of count place name

pub sixteen_bytes : (array name : List ℕ) → ((k : ℕ) → k < 16 → get_or array k 0 ≡ get_or name k 0)
    → from_be_bytes w128 array ≡ prefix_number 16 name
sixteen_bytes array name same =
    omega (
      arith,
      byte_of 15 0 name,
      byte_of 14 1 name,
      byte_of 13 2 name,
      byte_of 12 3 name,
      byte_of 11 4 name,
      byte_of 10 5 name,
      byte_of 9 6 name,
      byte_of 8 7 name,
      byte_of 7 8 name,
      byte_of 6 9 name,
      byte_of 5 10 name,
      byte_of 4 11 name,
      byte_of 3 12 name,
      byte_of 2 13 name,
      byte_of 1 14 name,
      byte_of 0 15 name,
      same 0 (omega arith),
      same 1 (omega arith),
      same 2 (omega arith),
      same 3 (omega arith),
      same 4 (omega arith),
      same 5 (omega arith),
      same 6 (omega arith),
      same 7 (omega arith),
      same 8 (omega arith),
      same 9 (omega arith),
      same 10 (omega arith),
      same 11 (omega arith),
      same 12 (omega arith),
      same 13 (omega arith),
      same 14 (omega arith),
      same 15 (omega arith),
    )

past_the_end : (zeros place : ℕ) → place < zeros → (name : List ℕ) → length name ≤ place
    → get_or (replicate zeros 0) place 0 ≡ get_or name place 0
past_the_end zeros place inside name past = get_or-replicate zeros place 0 0 inside ∙ sym (get_or_past name place 0 past)

-- the first bytes of a name, and zeros after them, are its bytes
pub padded_bytes : (count : ℕ) (name first : List ℕ) → count ≡ min (length name) 16 → first ≡ take count name
    → (k : ℕ) → k < 16 → get_or (first ++ drop count (replicate 16 0)) k 0 ≡ get_or name k 0
padded_bytes count name first count_is first_is k inside = by_test (nat_lt k count) refl where
  long : length first ≡ count
  long = ap length first_is ∙ length-take-le count name (omega (arith, count_is))

  by_test : (within : Bool) → nat_lt k count ≡ within → get_or (first ++ drop count (replicate 16 0)) k 0 ≡ get_or name k 0
  by_test true is =
      let below : k < count = is_more k count is in
      get_or_append_left first (drop count (replicate 16 0)) 0 k (omega (arith, long))
      ∙ ap (λ list. get_or list k 0) first_is ∙ get_or-take count name k 0 below
  by_test false is =
      let past : count ≤ k = grind (arith, nat_tests) in
      get_or-append_right first (drop count (replicate 16 0)) count k 0 long past
      ∙ get_or-drop count (replicate 16 0) (k - count) 0
      ∙ ap (λ place. get_or (replicate 16 0) place 0) {y = k} (omega (arith, past))
      ∙ past_the_end 16 k inside name (omega (arith, count_is, past))
