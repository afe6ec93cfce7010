-- The machine of a scenario (own).
use Rattle.std.specs.Prelude.{◌≡◌, ◌==◌, Bool, true, List, Contains}
use Rattle.std.specs.List.{list_any}
use Rattle.host_calls.specs.declared.child.Child.{Child}
use Rattle.daemon_turn.specs.declared.kid.Kid.{Kid}

-- whether this child is one of them
abbrev pub is_one_of : List Child → Child → Bool
is_one_of children child = list_any (λ other. child.id == other.id) children

-- Each child has one of the children. It says what AreChildren does, and there is one proof of it at most.
pub record HaveChildren (children : List Child) (kids : List Kid) : Type 0 where
  pub each : (kid : Kid) → Contains kids kid → is_one_of children kid.child ≡ true
