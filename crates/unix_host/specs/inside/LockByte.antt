-- The byte of the lock file (own).
use Rattle.std.specs.Prelude.{ℕ, ◌==◌, if◌then◌else◌, Option, Some, None}
use Rattle.unix_host.specs.declared.unsynced.Unsynced.{Unsynced}
use Rattle.unix_host.specs.declared.unsynced.Unsynced.TheVariants.{Nothing, Names, Anything}

-- what may be unsynced by the byte: nothing at `c`, names at `n`, and anything at each other byte
abbrev pub meaning_of : ℕ → Unsynced
meaning_of byte = if byte == 99 then Nothing else if byte == 110 then Names else Anything

-- what may be unsynced by what was read of the file: where nothing was, anything
abbrev pub known_by : Option ℕ → Unsynced
known_by None = Anything
known_by (Some byte) = meaning_of byte

-- how much may be unsynced, as a number
abbrev pub amount_of : Unsynced → ℕ
amount_of Nothing = 0
amount_of Names = 1
amount_of Anything = 2
