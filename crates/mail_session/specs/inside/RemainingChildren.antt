-- Children that are asked one after another stay at their places or are dropped (own).
use Rattle.std.specs.Prelude.{◌≡◌, ◌+◌, ℕ, List, Option, None, Some, slice_index_or}
use Rattle.std.specs.List.{remove}
use Rattle.host_calls.specs.declared.child.Child.{Child}
use Rattle.host_calls.specs.declared.child.Ending.{Ending}
use Rattle.daemon_turn.specs.declared.kid.Kid.{Kid}

-- the place of the next child, after the one at this place has answered so
abbrev pub place_by : ℕ → Option Ending → ℕ
place_by place None = place + 1
place_by place (Some ending) = place

-- the children after the one at the place has answered so
abbrev pub kids_left_by : List Kid → ℕ → Option Ending → List Kid
kids_left_by kids place None = kids
kids_left_by kids place (Some ending) = remove kids place

-- the child is that of the child at the place
pub record IsChildAt (kids : List Kid) (place : ℕ) (child : Child) : Type 0 where
  pub kid : Kid
  pub at : kid ≡ slice_index_or kids place kid
  pub is : child ≡ kid.child
