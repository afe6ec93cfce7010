-- What the computing scans find at the start of the bytes.
use Rattle.std.proofs.Common.{◌≡◌, ℕ, suc, zero, ◌<◌, ◌≤◌, Bool, true, false, cond, eqb, List, [], ◌∷◌, length, get_or, take, refl, sym, ap, subst, arith, inl, inr, IsTrue}
use Rattle.std.specs.List.{take_while}
use Rattle.std.proofs.lemmas.Bool.{eqb-true, eqb-false}
use Rattle.std.proofs.lemmas.List.{get_or-take, take-take}
use Rattle.std.proofs.lemmas.List.Sums.{take_while-cons}
use Rattle.spool_model.specs.Users.{is_user_byte}
use Rattle.job_script.specs.HeaderIn.{alike, name_prefix}
use Rattle.job_script.specs.inside.Scan.{Matches, IsUserRun}

-- one more byte that agrees
same_before : (x : ℕ) (y : ℕ) (bytes text : List ℕ) (count : ℕ) → x ≡ y → Matches bytes text count
    → (k : ℕ) → k < suc count → get_or (y ∷ bytes) k 0 ≡ get_or (x ∷ text) k 0
same_before x y bytes text count same m zero below = sym same
same_before x y bytes text count same m (suc k) below = m.same k (omega arith)

-- one more byte before both texts
alike_before : (x y : ℕ) (bytes text : List ℕ) (count : ℕ) (here : Bool) → eqb x y ≡ here → Matches bytes text count
    → Matches (y ∷ bytes) (x ∷ text) (cond here (suc count) 0)
alike_before x y bytes text count true here m = record {
  in_text = let within : count ≤ length text = m.in_text in omega arith;
  in_bytes = let within : count ≤ length bytes = m.in_bytes in omega arith;
  same = same_before x y bytes text count (eqb-true x y here) m;
  stops = λ short brief. m.stops (omega arith) (omega arith);
}
alike_before x y bytes text count false here m = record {
  in_text = omega arith;
  in_bytes = omega arith;
  same = λ k below. absurd (omega arith);
  stops = λ short brief same. eqb-false x y here (sym same);
}

-- two texts agree as far as is counted, and no farther
pub alike-matches : (text bytes : List ℕ) → Matches bytes text (alike text bytes)
unfolding alike
alike-matches [] bytes = record {
  in_text = omega arith;
  in_bytes = omega arith;
  same = λ k below. absurd (omega arith);
  stops = λ short brief. absurd (omega arith);
}
alike-matches (x ∷ text) [] = record {
  in_text = omega arith;
  in_bytes = omega arith;
  same = λ k below. absurd (omega arith);
  stops = λ short brief. absurd (omega arith);
}
alike-matches (x ∷ text) (y ∷ bytes) =
    alike_before x y bytes text (alike text bytes) (eqb x y) refl (alike-matches text bytes)

-- the longest prefix of the bytes, of at most so many, that may be in a user's name
record IsPrefix (bytes run : List ℕ) (most : ℕ) : Type 0 where
  few : length run ≤ most
  within : length run ≤ length bytes
  prefix : run ≡ take (length run) bytes
  each : (k : ℕ) → k < length run → IsTrue (is_user_byte (get_or bytes k 0))
  stops : length run < most → length run < length bytes → is_user_byte (get_or bytes (length run) 0) ≡ false

-- one more byte of a name at each place
each_before : (x : ℕ) (bytes run : List ℕ) (most : ℕ) → IsTrue (is_user_byte x) → IsPrefix bytes run most
    → (k : ℕ) → k < suc (length run) → IsTrue (is_user_byte (get_or (x ∷ bytes) k 0))
each_before x bytes run most here f zero below = here
each_before x bytes run most here f (suc k) below = f.each k (omega arith)

-- one more byte before such a prefix
prefix_before : (x : ℕ) (bytes run : List ℕ) (most : ℕ) (here : Bool) → is_user_byte x ≡ here → IsPrefix bytes run most
    → IsPrefix (x ∷ bytes) (cond here (x ∷ run) []) (suc most)
prefix_before x bytes run most true here f = record {
  few = let few : length run ≤ most = f.few in omega arith;
  within = let within : length run ≤ length bytes = f.within in omega arith;
  prefix = ap (λ (it : List ℕ). x ∷ it) f.prefix;
  each = each_before x bytes run most here f;
  stops = λ short brief. f.stops (omega arith) (omega arith);
}
prefix_before x bytes run most false here f = record {
  few = omega arith;
  within = omega arith;
  prefix = refl;
  each = λ k below. absurd (omega arith);
  stops = λ short brief. here;
}

-- what is taken is such a prefix
taken_prefix : (most : ℕ) (bytes : List ℕ) → IsPrefix bytes (take_while is_user_byte (take most bytes)) most
taken_prefix zero bytes = record {
  few = omega arith;
  within = omega arith;
  prefix = refl;
  each = λ k below. absurd (omega arith);
  stops = λ short brief. absurd (omega arith);
}
taken_prefix (suc most) [] = record {
  few = omega arith;
  within = omega arith;
  prefix = refl;
  each = λ k below. absurd (omega arith);
  stops = λ short brief. absurd (omega arith);
}
taken_prefix (suc most) (x ∷ bytes) =
    subst (λ (run : List ℕ). IsPrefix (x ∷ bytes) run (suc most)) (sym (take_while-cons is_user_byte x (take most bytes)))
    (prefix_before x bytes (take_while is_user_byte (take most bytes)) most (is_user_byte x) refl (taken_prefix most bytes))

-- what is at the start of the bytes as a user's name
pub record IsNamePrefix (bytes run : List ℕ) : Type 0 where
  pub runs : IsUserRun bytes (length run)
  pub prefix : run ≡ take (length run) bytes

-- the same after the test for a dash
no_dash_prefix : (bytes run : List ℕ) (dash : Bool) → eqb (get_or bytes 0 0) 45 ≡ dash → IsPrefix bytes run 32
    → IsNamePrefix bytes (cond dash [] run)
no_dash_prefix bytes run true dash f = record {
  runs = record {
    few = omega arith;
    within = omega arith;
    each = λ k below. absurd (omega arith);
    no_dash = λ some. absurd (omega arith);
    stops = λ short brief. inr (refl, eqb-true (get_or bytes 0 0) 45 dash);
  };
  prefix = refl;
}
no_dash_prefix bytes run false dash f = record {
  runs = record {
    few = f.few;
    within = f.within;
    each = f.each;
    no_dash = λ some. eqb-false (get_or bytes 0 0) 45 dash;
    stops = λ short brief. inl (f.stops short brief);
  };
  prefix = f.prefix;
}

-- the prefix is a run of bytes of a user's name
pub name_prefix-runs : (bytes : List ℕ) → IsNamePrefix bytes (name_prefix bytes)
unfolding name_prefix
name_prefix-runs bytes =
    no_dash_prefix bytes (take_while is_user_byte (take 32 bytes)) (eqb (get_or bytes 0 0) 45) refl (taken_prefix 32 bytes)

-- bytes after the length of a text don't matter to what agrees with it
pub alike-take : (text bytes : List ℕ) (count : ℕ) → length text ≤ count → alike text (take count bytes) ≡ alike text bytes
unfolding alike
alike-take [] bytes count within = refl
alike-take (x ∷ text) bytes zero within = absurd (omega arith)
alike-take (x ∷ text) [] (suc count) within = refl
alike-take (x ∷ text) (y ∷ bytes) (suc count) within =
    ap (λ (n : ℕ). cond (eqb x y) (suc n) 0) (alike-take text bytes count (omega arith))

-- bytes after the longest name don't matter to the prefix of a name
pub name_prefix-take : (bytes : List ℕ) (count : ℕ) → 32 ≤ count → name_prefix (take count bytes) ≡ name_prefix bytes
unfolding name_prefix
name_prefix-take bytes count far =
    let first : get_or (take count bytes) 0 0 ≡ get_or bytes 0 0 = get_or-take count bytes 0 0 (omega arith) in
    let few : take 32 (take count bytes) ≡ take 32 bytes = take-take 32 count bytes far in
    λ i. cond (eqb (first i) 45) [] (take_while is_user_byte (few i))
