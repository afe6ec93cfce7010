use Rattle.std.proofs.Common.{◌≡◌, ◌≢◌, ◌==◌, ℕ, Bool, true, false, List, [], ◌∷◌, None, cond, refl, lit<, arith}
use Rattle.std.proofs.lemmas.Bool.Decides.{nat_tests}
use Rattle.std.proofs.lemmas.Str.Pattern.{strip_prefix_char}
use Rattle.caller_environment.specs.ZoneFile.{zone_name}
use Rattle.caller_environment.proofs.zone_path.zone_name.Goals as goal

-- the first byte with what follows it, by whether it is a colon
name-of_cons : (byte : ℕ) (others : List ℕ) (colon : Bool) → (byte == 58) ≡ colon → ((rest : List ℕ) → (byte ∷ others) ≢ (58 ∷ rest))
    → (byte ∷ others) ≡ cond colon others (byte ∷ others)
name-of_cons byte others true is other =
    let same : byte ≡ 58 = grind (arith, nat_tests) in
    absurd (other others (rw same refl))
name-of_cons byte others false is other = refl

-- a name that no colon begins is kept
zone_name-kept : (name : List ℕ) → ((rest : List ℕ) → name ≢ (58 ∷ rest)) → name ≡ zone_name name
zone_name-kept [] other = refl
zone_name-kept (byte ∷ others) other = name-of_cons byte others (byte == 58) refl other

pub returns-in-None : goal.returns-in-None
returns-in-None c =
    zone_name-kept c.args.zone.now (strip_prefix_char 58 c.args.zone.now None c.in-None.ensures.cases (lit< tt))
