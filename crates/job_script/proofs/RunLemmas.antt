-- Where a run of bytes that pass a test ends in a text.
use Rattle.std.proofs.Common.{◌≡◌, ◌<◌, ℕ, suc, Bool, true, false, ◌&&◌, List, [], ◌∷◌, ◌++◌, length, get_or, IsTrue, refl, sym, ap, arith}
use Rattle.std.specs.List.{list_all}

-- both parts of a test that holds
pub both_hold : (a b : Bool) → IsTrue (a && b) → IsTrue a × IsTrue b
both_hold true b holds = (refl, holds)
both_hold false b holds = absurd (cc holds)

-- a test holds where both parts do
pub hold_both : (a b : Bool) → IsTrue a → IsTrue b → IsTrue (a && b)
hold_both true b first second = second
hold_both false b first second = absurd (cc first)

-- bytes that pass each at its place
pub pass_by_place : (passes : ℕ → Bool) (u : List ℕ) → ((k : ℕ) → k < length u → IsTrue (passes (get_or u k 0)))
    → IsTrue (list_all passes u)
pass_by_place passes [] each = refl
pass_by_place passes (x ∷ xs) each =
    hold_both (passes x) (list_all passes xs) (each 0 (omega arith))
    (pass_by_place passes xs (λ k below. each (suc k) (omega arith)))

-- the text begins with no byte that passes
abbrev pub Ends : (ℕ → Bool) → List ℕ → Type 0
Ends passes [] = Unit {0}
Ends passes (x ∷ xs) = passes x ≡ false

-- a run doesn't go on where another ends
no_more : (passes : ℕ → Bool) (b : ℕ) (v x y : List ℕ) → IsTrue (list_all passes (b ∷ v)) → Ends passes x → x ≡ (b ∷ v) ++ y → ⊥
no_more passes b v [] y pass ends same = cc same
no_more passes b v (c ∷ x) y pass ends same =
    let first : IsTrue (passes b) × IsTrue (list_all passes v) = both_hold (passes b) (list_all passes v) pass in
    let head : c ≡ b = cc same in
    cc (first.0, ends, ap passes head)

-- two runs that end at a byte that doesn't pass are one
pub same_run : (passes : ℕ → Bool) (u v x y : List ℕ) → IsTrue (list_all passes u) → IsTrue (list_all passes v)
    → Ends passes x → Ends passes y → u ++ x ≡ v ++ y → (u ≡ v) × (x ≡ y)
same_run passes [] [] x y us vs xs ys same = (refl, same)
same_run passes [] (b ∷ v) x y us vs xs ys same = absurd (no_more passes b v x y vs xs same)
same_run passes (a ∷ u) [] x y us vs xs ys same = absurd (no_more passes a u y x us ys (sym same))
same_run passes (a ∷ u) (b ∷ v) x y us vs xs ys same =
    let head : a ≡ b = cc same in
    let rest : u ++ x ≡ v ++ y = cc same in
    let tails : (u ≡ v) × (x ≡ y) =
    same_run passes u v x y (both_hold (passes a) (list_all passes u) us).1
    (both_hold (passes b) (list_all passes v) vs).1 xs ys rest in
    (cc (head, tails.0), tails.1)
