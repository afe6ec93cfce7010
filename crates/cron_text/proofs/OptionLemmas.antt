-- What gave an option its value.
use Rattle.std.proofs.Common.{◌≡◌, ◌⊎◌, inl, inr, Bool, true, false, cond, Option, Some, None, option_map, refl}
use Rattle.std.proofs.lemmas.Option.{none-some, same_Some}
use Rattle.std.specs.Option.{option_or}

-- the value came of the first option, or of the other
pub cond_either : {A : Type 0} (b : Bool) (x : A) (other : Option A) (y : A) → cond b (Some x) other ≡ Some y
    → ((b ≡ true) × (x ≡ y)) ⊎ ((b ≡ false) × (other ≡ Some y))
cond_either true x other y e = inl (refl, same_Some x y e)
cond_either false x other y e = inr (refl, e)

-- the value came of a test that holds, or of the other option
pub or_some : {A : Type 0} (b : Bool) (x : A) (other : Option A) (y : A) → option_or (cond b (Some x) None) other ≡ Some y
    → ((b ≡ true) × (x ≡ y)) ⊎ ((b ≡ false) × (other ≡ Some y))
or_some true x other y e = inl (refl, same_Some x y e)
or_some false x other y e = inr (refl, e)

-- only where the test holds an option has a value
pub cond_then : {A : Type 0} (b : Bool) (o : Option A) (y : A) → cond b o None ≡ Some y → (b ≡ true) × (o ≡ Some y)
cond_then true o y e = (refl, e)
cond_then false o y e = absurd (none-some y e)

pub map_some : {A B : Type 0} (f : A → B) (o : Option A) (y : B) → option_map f o ≡ Some y → (x : A) × (o ≡ Some x) × (f x ≡ y)
map_some f None y e = absurd (none-some y e)
map_some f (Some x) y e = (x, refl, same_Some (f x) y e)

pub map_none : {A B : Type 0} (f : A → B) (o : Option A) → option_map f o ≡ None → o ≡ None
map_none f None e = refl
map_none f (Some x) e = absurd (none-some (f x) (cc))
