-- How far a command comes.
use Rattle.std.proofs.Common.{◌≡◌, ℕ, false, sym, subst, arith}
use Rattle.std.proofs.lemmas.Bool.Decides.{nat_tests}
use Rattle.std.specs.Prelude.{Option, Some, None, nat_lt}
use Rattle.listing_text.specs.declared.refusal.Refusal.{Refusal}
use Rattle.command_rules.specs.Checks.{Check, ComesUpTo, check_of, place_of_check}

-- no check comes before itself
not_itself : (place : ℕ) → nat_lt place place ≡ false
not_itself place = grind (arith, nat_tests)

-- a command that is refused may come to the check that refuses it
pub refused_up_to : (verdict : Option Refusal) (refusal : Refusal) → verdict ≡ Some refusal → ComesUpTo verdict (check_of refusal)
refused_up_to verdict refusal is =
    subst (λ (of : Option Refusal). ComesUpTo of (check_of refusal)) (sym is) (not_itself (place_of_check (check_of refusal)))

-- and one that is not refused to any
pub allowed_up_to : (verdict : Option Refusal) (reached : Check) → verdict ≡ None → ComesUpTo verdict reached
allowed_up_to verdict reached is = subst (λ (of : Option Refusal). ComesUpTo of reached) (sym is) tt
