-- Who may use at by the lists of the machine (own; an existing list has the rules of Debian's at(1)).
use Rattle.std.specs.Prelude.{ℕ, Bool, true, List, Option, Some, None}
use Rattle.access_lists.specs.Access.{may_use}

-- The user may use at on this machine: where neither list exists, or by the lists as by those of a spool.
abbrev pub may_use_machine : List ℕ → Option (List ℕ) → Option (List ℕ) → Bool
may_use_machine user None None = true
may_use_machine user (Some allow) deny = may_use user (Some allow) deny
may_use_machine user None (Some deny) = may_use user None (Some deny)
