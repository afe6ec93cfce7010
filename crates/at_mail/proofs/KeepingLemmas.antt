-- What a filter keeps of a list.
use Rattle.std.proofs.Common.{◌≡◌, ◌∙◌, ◌≤◌, Bool, true, false, cond, List, [], ◌∷◌, length, refl, sym, ap, arith}
use Rattle.std.specs.Prelude.{◌||◌}
use Rattle.std.specs.List.{All, filter, list_any}
use Rattle.std.proofs.lemmas.List.Elements.{All-cons, All-head, All-nil, All-tail}

-- a filter makes no list longer
pub no_longer : {X : Type 0} (keep : X → Bool) (xs : List X) → length (filter keep xs) ≤ length xs
no_longer keep [] = omega arith
no_longer keep (x ∷ xs) = by_test (no_longer keep xs) (keep x) where
  by_test : length (filter keep xs) ≤ length xs → (test : Bool) → length (cond test (x ∷ filter keep xs) (filter keep xs)) ≤ length (x ∷ xs)
  by_test few true = omega (arith, few)
  by_test few false = omega (arith, few)

-- where it keeps as many, it keeps all
pub all_kept : {X : Type 0} (keep : X → Bool) (xs : List X) → length (filter keep xs) ≡ length xs → filter keep xs ≡ xs
all_kept keep [] same = refl
all_kept keep (x ∷ xs) same = by_test (λ many. all_kept keep xs many) (keep x) same where
  by_test : (length (filter keep xs) ≡ length xs → filter keep xs ≡ xs) → (test : Bool)
      → length (cond test (x ∷ filter keep xs) (filter keep xs)) ≡ length (x ∷ xs)
      → cond test (x ∷ filter keep xs) (filter keep xs) ≡ x ∷ xs
  by_test rest true many = ap (λ later. x ∷ later) (rest (omega (arith, many)))
  by_test rest false many = absurd (omega (arith, many, no_longer keep xs))

-- what is not kept does not pass, where all that pass are kept
fails : (test kept : Bool) → (test ≡ true → kept ≡ true) → kept ≡ false → test ≡ false
fails false kept passes not_kept = refl
fails true kept passes not_kept = absurd (let impossible : true ≡ false = sym (passes refl) ∙ not_kept in cc)

-- where it keeps all that pass a test, as many pass
pub any_kept : {X : Type 0} (test keep : X → Bool) (xs : List X) → ((x : X) → test x ≡ true → keep x ≡ true)
    → list_any test (filter keep xs) ≡ list_any test xs
any_kept test keep [] passes = refl
any_kept test keep (x ∷ xs) passes = by_test (any_kept test keep xs passes) (keep x) refl where
  by_test : list_any test (filter keep xs) ≡ list_any test xs → (kept : Bool) → keep x ≡ kept
      → list_any test (cond kept (x ∷ filter keep xs) (filter keep xs)) ≡ list_any test (x ∷ xs)
  by_test rest true is = ap (λ later. test x || later) rest
  by_test rest false is = rest ∙ ap (λ here. here || list_any test xs) (sym (fails (test x) (keep x) (passes x) is))

-- what is kept does not pass, where none that passes is kept
passes_not : (test kept : Bool) → (test ≡ true → kept ≡ false) → kept ≡ true → test ≡ false
passes_not false kept fail is = refl
passes_not true kept fail is = absurd (let impossible : true ≡ false = sym is ∙ fail refl in cc)

-- where it keeps none that pass, none passes
pub none_kept : {X : Type 0} (test keep : X → Bool) (xs : List X) → ((x : X) → test x ≡ true → keep x ≡ false)
    → list_any test (filter keep xs) ≡ false
none_kept test keep [] fail = refl
none_kept test keep (x ∷ xs) fail = by_test (none_kept test keep xs fail) (keep x) refl where
  by_test : list_any test (filter keep xs) ≡ false → (kept : Bool) → keep x ≡ kept
      → list_any test (cond kept (x ∷ filter keep xs) (filter keep xs)) ≡ false
  by_test rest true is = ap (λ here. here || list_any test (filter keep xs)) (passes_not (test x) (keep x) (fail x) is) ∙ rest
  by_test rest false is = rest

-- what holds of all holds of those that are kept
pub all_filtered : {X : Type 0} (P : X → Type 0) (keep : X → Bool) (xs : List X) → All P xs → All P (filter keep xs)
all_filtered P keep [] all = All-nil P
all_filtered P keep (x ∷ xs) all = by_test (all_filtered P keep xs (All-tail P x xs all)) (keep x) where
  by_test : All P (filter keep xs) → (test : Bool) → All P (cond test (x ∷ filter keep xs) (filter keep xs))
  by_test rest true = All-cons P x (filter keep xs) (All-head P x xs all) rest
  by_test rest false = rest
