-- The names of the file of the mark (own). Neither is one of the store's.
use Rattle.std.specs.Prelude.{ℕ, List, codes}

-- the file of the mark
abbrev pub mark_file : List ℕ
mark_file = codes ".CRON"

-- the file that is made before it takes the place of the old one
abbrev pub mark_temp : List ℕ
mark_temp = codes ".CTMP"
