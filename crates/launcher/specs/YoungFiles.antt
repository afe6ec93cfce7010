-- Files that were written a moment ago (own).
use Rattle.std.specs.Prelude.{ℕ, Bool, false, ℤ, pos, negsuc, ◌+◌, nat_lt}

-- it is not yet five seconds since the file was written, both as seconds since 1970
abbrev pub is_young : ℤ → ℕ → Bool
is_young (pos written) now = nat_lt now (written + 5)
is_young (negsuc before) now = false
