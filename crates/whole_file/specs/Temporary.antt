-- The name under which a file is made before it takes the place of another (own).
use Rattle.std.specs.Prelude.{ℕ, List, codes}

-- the name of a file that is being made
abbrev pub temporary_file : List ℕ
temporary_file = codes ".TMP"
