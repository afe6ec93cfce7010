-- What tests say: of two truth values, of two numbers, and of each byte of a list.
use Rattle.std.proofs.Common.{◌≡◌, ℕ, zero, suc, ◌<◌, Bool, true, List, [], ◌∷◌, ◌++◌, length, take, min, ap, ◌∙◌, refl, arith, get_or-take}
use Rattle.std.specs.Prelude.{slice_index}
use Rattle.std.specs.List.{list_all}
use Rattle.std.proofs.lemmas.List.{length-take}
use Rattle.std.proofs.lemmas.Bool.{and_from, and_parts}

-- what holds of the byte at each place holds of all bytes
pub all_by_place : (test : ℕ → Bool) (bytes : List ℕ) → ((place : ℕ) → place < length bytes → test (slice_index bytes place) ≡ true)
    → list_all test bytes ≡ true
all_by_place test [] each = refl
all_by_place test (byte ∷ bytes) each =
    and_from (test byte) (list_all test bytes) (each 0 (omega arith))
    (all_by_place test bytes (λ place inside. each (suc place) (omega arith)))

-- and what holds of all holds of each
pub place_of_all : (test : ℕ → Bool) (bytes : List ℕ) (place : ℕ) → list_all test bytes ≡ true → place < length bytes
    → test (slice_index bytes place) ≡ true
place_of_all test [] place all inside = absurd (omega arith)
place_of_all test (byte ∷ bytes) zero all inside = (and_parts (test byte) (list_all test bytes) all).0
place_of_all test (byte ∷ bytes) (suc place) all inside =
    place_of_all test bytes place (and_parts (test byte) (list_all test bytes) all).1 (omega arith)

-- what holds of all bytes holds of the first ones
pub take_passes : (test : ℕ → Bool) (bytes : List ℕ) (count : ℕ) → list_all test bytes ≡ true → list_all test (take count bytes) ≡ true
take_passes test bytes count all =
    let counted : length (take count bytes) ≡ min count (length bytes) = length-take count bytes in
    all_by_place test (take count bytes) (λ place inside. ap test (get_or-take count bytes place 0 (omega arith))
    ∙ place_of_all test bytes place all (omega arith))

-- and of one more
pub one_passes : (test : ℕ → Bool) (bytes : List ℕ) (byte : ℕ) → list_all test bytes ≡ true → test byte ≡ true
    → list_all test (bytes ++ byte ∷ []) ≡ true
one_passes test [] byte all here = and_from (test byte) true here refl
one_passes test (first ∷ later) byte all here =
    let tests : (test first ≡ true) × (list_all test later ≡ true) = and_parts _ _ all in
    and_from (test first) _ tests.0 (one_passes test later byte tests.1 here)
