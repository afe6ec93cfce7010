-- The children of a host (own).
use Rattle.std.specs.Prelude.{◌++◌, ◌∷◌, [], ℕ, zero, suc, List}
use Rattle.host_calls.specs.declared.child.Child.{Child}

-- so many children, numbered from 0 in the order of their starts
abbrev pub first_children : ℕ → List Child
first_children zero = []
first_children (suc count) = first_children count ++ record { id = count } ∷ []
