-- What a session may have left unsynced (own).
use Rattle.std.specs.Prelude.{if◌then◌else◌, IsTrue}
use Rattle.unix_host.specs.Unsynced.{unsynced_by}
use Rattle.unix_host.specs.inside.Torn.{KeepsTorn}
use Rattle.unix_host.specs.declared.changes.Changes.{Changes}
use Rattle.unix_host.specs.declared.unsynced.Unsynced.{Unsynced}
use Rattle.unix_host.specs.declared.unsynced.Unsynced.TheVariants.{Anything}

-- what the next session is to be told: where a call failed, the worst
abbrev pub unsynced_left_by : Changes → Unsynced
unsynced_left_by changes = if changes.has_failed then Anything else unsynced_by changes

-- nothing that may be unsynced is forgotten
pub record Remembers (old new : Changes) : Type 0 where
  pub names : IsTrue old.names → IsTrue new.names
  pub torn : KeepsTorn old.torn new.torn
  pub failed : IsTrue old.has_failed → IsTrue new.has_failed
