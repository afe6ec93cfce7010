-- The names of the file of accounts (own). Neither is one of the store's.
use Rattle.std.specs.Prelude.{ℕ, List, codes}

-- the file of accounts
abbrev pub account_file : List ℕ
account_file = codes ".ACC"

-- the file that is made before it takes the place of the old one
abbrev pub account_temp : List ℕ
account_temp = codes ".ATMP"
