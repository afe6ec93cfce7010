-- What a list has, by recursion.
use Rattle.std.proofs.Common.{◌≡◌, ◌⊎◌, ℕ, zero, suc, ◌<◌, Bool, true, false, cond, ◌||◌, List, [], ◌∷◌, ◌++◌, length, map, sym, ap, subst, ◌∙◌, refl, inl, inr, arith, Contains}
use Rattle.std.specs.List.{cons_option, filter, filter_map, find, list_any}
use Rattle.std.specs.Prelude.{Option, Some, None, slice_index_or}

-- the list has the element
abbrev pub Has : {X : Type 0} → List X → X → Type 0
Has [] x = ⊥
Has (y ∷ later) x = (y ≡ x) ⊎ Has later x

-- nothing is not something
pub none_some : {X : Type 0} → (x : X) → ◌≡◌ {A = Option X} None (Some x) → ⊥
none_some x is = let impossible : None ≡ Some x = is in cc

pub has_contained : {X : Type 0} → (xs : List X) (x : X) → Contains xs x → Has xs x
has_contained [] x is = absurd (omega (arith, is.1))
has_contained (y ∷ later) x is = at is.0 is.1 is.2 (has_contained later x) where
  at : (place : ℕ) → place < length (y ∷ later) → slice_index_or (y ∷ later) place x ≡ x
      → (Contains later x → Has later x) → Has (y ∷ later) x
  at zero inside same rest = inl same
  at (suc place) inside same rest = inr (rest (place, omega arith, same))

pub contained : {X : Type 0} → (xs : List X) (x : X) → Has xs x → Contains xs x
contained [] x has = absurd has
contained (y ∷ later) x (inl same) = (0, omega arith, same)
contained (y ∷ later) x (inr has) = let is : Contains later x = contained later x has in (suc is.0, omega (arith, is.1), is.2)

pub has_left : {X : Type 0} → (xs ys : List X) (x : X) → Has xs x → Has (xs ++ ys) x
has_left [] ys x has = absurd has
has_left (y ∷ later) ys x (inl same) = inl same
has_left (y ∷ later) ys x (inr has) = inr (has_left later ys x has)

pub has_right : {X : Type 0} → (xs ys : List X) (x : X) → Has ys x → Has (xs ++ ys) x
has_right [] ys x has = has
has_right (y ∷ later) ys x has = inr (has_right later ys x has)

pub has_either : {X : Type 0} → (xs ys : List X) (x : X) → Has (xs ++ ys) x → Has xs x ⊎ Has ys x
has_either [] ys x has = inr has
has_either (y ∷ later) ys x (inl same) = inl (inl same)
has_either (y ∷ later) ys x (inr has) = elim (has_either later ys x has) [ inl is ↦ inl (inr is) | inr is ↦ inr is ]

-- what passes a test
pub has_filtered : {X : Type 0} → (test : X → Bool) (xs : List X) (x : X) → Has xs x → test x ≡ true → Has (filter test xs) x
has_filtered test [] x has passes = absurd has
has_filtered test (y ∷ later) x (inl same) passes =
    let here : test y ≡ true = ap test same ∙ passes in
    subst (λ b. Has (cond b (y ∷ filter test later) (filter test later)) x) (sym here) (inl same)
has_filtered test (y ∷ later) x (inr has) passes = by_test (test y) (has_filtered test later x has passes) where
  by_test : (b : Bool) → Has (filter test later) x → Has (cond b (y ∷ filter test later) (filter test later)) x
  by_test true rest = inr rest
  by_test false rest = rest

pub filtered_has : {X : Type 0} → (test : X → Bool) (xs : List X) (x : X) → Has (filter test xs) x → Has xs x × (test x ≡ true)
filtered_has test [] x has = absurd has
filtered_has test (y ∷ later) x has = by_test (test y) refl has (filtered_has test later x) where
  by_test : (b : Bool) → test y ≡ b → Has (cond b (y ∷ filter test later) (filter test later)) x
      → (Has (filter test later) x → Has later x × (test x ≡ true)) → Has (y ∷ later) x × (test x ≡ true)
  by_test true passes (inl same) rest = (inl same, ap test (sym same) ∙ passes)
  by_test true passes (inr is) rest = (inr (rest is).0, (rest is).1)
  by_test false fails is rest = (inr (rest is).0, (rest is).1)

-- what a function gives
pub has_given : {X Y : Type 0} → (give : X → Option Y) (xs : List X) (x : X) (y : Y) → Has xs x → give x ≡ Some y
    → Has (filter_map give xs) y
has_given give [] x y has gives = absurd has
has_given give (z ∷ later) x y (inl same) gives =
    let here : give z ≡ Some y = ap give same ∙ gives in
    subst (λ o. Has (cons_option o (filter_map give later)) y) (sym here) (inl refl)
has_given {Y = Y} give (z ∷ later) x y (inr has) gives = by_given (give z) (has_given give later x y has gives) where
  by_given : (given : Option Y) → Has (filter_map give later) y → Has (cons_option given (filter_map give later)) y
  by_given None rest = rest
  by_given (Some other) rest = inr rest

pub given_has : {X Y : Type 0} → (give : X → Option Y) (xs : List X) (y : Y) → Has (filter_map give xs) y
    → (x : X) × Has xs x × (give x ≡ Some y)
given_has give [] y has = absurd has
given_has {X = X} {Y = Y} give (z ∷ later) y has = by_given (give z) refl has (given_has give later y) where
  by_given : (given : Option Y) → give z ≡ given → Has (cons_option given (filter_map give later)) y
      → (Has (filter_map give later) y → (x : X) × Has later x × (give x ≡ Some y)) → (x : X) × Has (z ∷ later) x × (give x ≡ Some y)
  by_given None is in_later rest = let more : (x : X) × Has later x × (give x ≡ Some y) = rest in_later in (more.0, inr more.1, more.2)
  by_given (Some other) is (inl same) rest = (z, inl refl, is ∙ ap Some same)
  by_given (Some other) is (inr in_later) rest =
      let more : (x : X) × Has later x × (give x ≡ Some y) = rest in_later in
      (more.0, inr more.1, more.2)

-- what a function makes
pub has_made : {X Y : Type 0} → (make : X → Y) (xs : List X) (x : X) → Has xs x → Has (map make xs) (make x)
has_made make [] x has = absurd has
has_made make (z ∷ later) x (inl same) = inl (ap make same)
has_made make (z ∷ later) x (inr has) = inr (has_made make later x has)

pub made_has : {X Y : Type 0} → (make : X → Y) (xs : List X) (y : Y) → Has (map make xs) y → (x : X) × Has xs x × (make x ≡ y)
made_has make [] y has = absurd has
made_has make (z ∷ later) y (inl same) = (z, inl refl, same)
made_has {X = X} make (z ∷ later) y (inr has) =
    let rest : (x : X) × Has later x × (make x ≡ y) = made_has make later y has in
    (rest.0, inr rest.1, rest.2)

-- what is found
pub found_has : {X : Type 0} → (test : X → Bool) (xs : List X) (x : X) → find test xs ≡ Some x → Has xs x × (test x ≡ true)
found_has test [] x is = let impossible : None ≡ Some x = is in cc
found_has test (y ∷ later) x is = by_test (test y) refl is (found_has test later x) where
  by_test : (b : Bool) → test y ≡ b → cond b (Some y) (find test later) ≡ Some x
      → (find test later ≡ Some x → Has later x × (test x ≡ true)) → Has (y ∷ later) x × (test x ≡ true)
  by_test true passes found rest = let same : y ≡ x = cc in (inl same, ap test (sym same) ∙ passes)
  by_test false fails found rest = (inr (rest found).0, (rest found).1)

pub not_found : {X : Type 0} → (test : X → Bool) (xs : List X) (x : X) → find test xs ≡ None → Has xs x → test x ≡ true → ⊥
not_found test [] x is has passes = has
not_found test (y ∷ later) x is has passes = by_test (test y) refl is has (λ found in_later. not_found test later x found in_later passes)
  where
    by_test : (b : Bool) → test y ≡ b → cond b (Some y) (find test later) ≡ None → Has (y ∷ later) x
        → (find test later ≡ None → Has later x → ⊥) → ⊥
    by_test true here found in_list rest = let impossible : Some y ≡ None = found in cc
    by_test false here found (inl same) rest = let impossible : false ≡ true = sym here ∙ ap test same ∙ passes in cc
    by_test false here found (inr in_later) rest = rest found in_later

-- some element passes
pub any_passes : {X : Type 0} → (test : X → Bool) (xs : List X) (x : X) → Has xs x → test x ≡ true → list_any test xs ≡ true
any_passes test [] x has passes = absurd has
any_passes test (y ∷ later) x (inl same) passes = rw (ap test same ∙ passes) refl
any_passes test (y ∷ later) x (inr has) passes = rw (any_passes test later x has passes) (or_true (test y)) where
  or_true : (b : Bool) → (b || true) ≡ true
  or_true true = refl
  or_true false = refl

pub one_passes : {X : Type 0} → (test : X → Bool) (xs : List X) → list_any test xs ≡ true → (x : X) × Has xs x × (test x ≡ true)
one_passes test [] is = let impossible : false ≡ true = is in cc
one_passes {X = X} test (y ∷ later) is = by_test (test y) refl is (one_passes test later) where
  by_test : (b : Bool) → test y ≡ b → (b || list_any test later) ≡ true
      → (list_any test later ≡ true → (x : X) × Has later x × (test x ≡ true)) → (x : X) × Has (y ∷ later) x × (test x ≡ true)
  by_test true here passes rest = (y, inl refl, here)
  by_test false here passes rest = let more : (x : X) × Has later x × (test x ≡ true) = rest passes in (more.0, inr more.1, more.2)
