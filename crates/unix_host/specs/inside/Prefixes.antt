-- The first bytes of a name as one number (own).
use Rattle.std.specs.Prelude.{◌+◌, ◌*◌, ◌^◌, ℕ, zero, suc, List, [], ◌∷◌}

-- so many first bytes as one number, the first byte highest, with zeros after the end of the name
abbrev pub prefix_number : ℕ → List ℕ → ℕ
prefix_number zero name = 0
prefix_number (suc count) [] = 0
prefix_number (suc count) (byte ∷ name) = byte * 256 ^ count + prefix_number count name
