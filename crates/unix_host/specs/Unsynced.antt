-- What of a spool directory may be unsynced, as far as the host knows (own).
use Rattle.std.specs.Prelude.{if◌then◌else◌, ℕ, List, Bool, true, false, Option, Some, None}
use Rattle.unix_host.specs.declared.changes.Changes.{Changes}
use Rattle.unix_host.specs.declared.torn.Torn.{Torn}
use Rattle.unix_host.specs.declared.torn.Torn.TheVariants.{Nobody, One, Each}
use Rattle.unix_host.specs.declared.unsynced.Unsynced.{Unsynced}
use Rattle.unix_host.specs.declared.unsynced.Unsynced.TheVariants.{Nothing, Names, Anything}

-- the bytes of some file may be unsynced
abbrev pub is_torn : Torn → Bool
is_torn Nobody = false
is_torn (One name) = true
is_torn Each = true

-- the file whose bytes may be unsynced, where it is one alone
abbrev pub torn_alone : Torn → Option (List ℕ)
torn_alone Nobody = None
torn_alone (One name) = Some name
torn_alone Each = None

-- the worst that may be unsynced by the names and files that were changed
abbrev pub unsynced_by : Changes → Unsynced
unsynced_by changes = if is_torn changes.torn then Anything else if changes.names then Names else Nothing
