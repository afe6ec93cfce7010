-- Where the parts of a load text are.
use Rattle.std.proofs.Common.{◌≡◌, ℕ, ◌^◌, ◌<◌, ◌≤◌, Bool, true, false, cond, IsTrue, List, [], ◌∷◌, ◌++◌, length, drop, arith, refl, sym, subst}
use Rattle.std.proofs.Math.Nat.{pow-le-pow_right}
use Rattle.std.proofs.Math.Seq.{drop-append_seam}
use Rattle.std.proofs.lemmas.List.Sums.{take_while-cons}
use Rattle.std.specs.List.{list_all, prefix_len, take_while}
use Rattle.std.specs.Char.{is_ascii_digit}
use Rattle.load_reading.specs.Load.{SpellsFraction, SpellsLoad}

-- one more byte at the start
prefix-cons : (test : ℕ → Bool) (byte : ℕ) (prefix : List ℕ) (passes : Bool) → test byte ≡ passes → IsTrue (list_all test prefix)
    → IsTrue (list_all test (cond passes (byte ∷ prefix) []))
prefix-cons test byte prefix true passed each = rw passed each
prefix-cons test byte prefix false failed each = refl

-- the bytes that pass at the start pass
pub list_all-prefix : (test : ℕ → Bool) (bytes : List ℕ) → IsTrue (list_all test (take_while test bytes))
list_all-prefix test [] = refl
list_all-prefix test (byte ∷ bytes) =
    rw (take_while-cons test byte bytes)
    (prefix-cons test byte (take_while test bytes) (test byte) refl (list_all-prefix test bytes))

-- a run of digits ends where the point is
pub count-before_point : (whole rest : List ℕ) → IsTrue (list_all is_ascii_digit whole)
    → prefix_len is_ascii_digit (whole ++ 46 ∷ rest) ≡ length whole
count-before_point [] rest digits = refl
count-before_point (byte ∷ whole) rest digits =
    let first : is_ascii_digit byte ≡ true = grind (arith, digits) in
    let others : list_all is_ascii_digit whole ≡ true = grind (arith, digits) in
    let more = count-before_point whole rest others in
    rw (first, more) (omega arith)

-- as many digits are at the start as the load has before its point
pub count-load : (text : List ℕ) (load : ℕ) → (spelled : SpellsLoad text load) → prefix_len is_ascii_digit text ≡ length spelled.whole
count-load text load spelled =
    rw (spelled.spelled, spelled.fraction.spelled) (count-before_point spelled.whole _ spelled.digits)

-- those digits are followed by the fraction
pub fraction-load : (text : List ℕ) (load : ℕ) → (spelled : SpellsLoad text load)
    → SpellsFraction (drop (prefix_len is_ascii_digit text) text) spelled.hundredths
fraction-load text load spelled =
    let after : drop (prefix_len is_ascii_digit text) text ≡ spelled.rest =
    rw (count-load text load spelled, spelled.spelled) (drop-append_seam spelled.whole spelled.rest) in
    subst (λ (bytes : List ℕ). SpellsFraction bytes spelled.hundredths) (sym after) spelled.fraction

-- a number below that many tens is below ten million
pub below-most : (number count : ℕ) → number < 10 ^ count → count ≤ 7 → number < 10 ^ 7
below-most number count small few = let most : 10 ^ count ≤ 10 ^ 7 = pow-le-pow_right (omega arith) few in omega arith
