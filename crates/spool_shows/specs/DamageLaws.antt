-- What `shown_by` computes of damage is what is said of it by names and places.
use Rattle.std.specs.Prelude.{◌≡◌, ◌↔◌, Err}
use Rattle.host_calls.specs.declared.damage.Damage.{Damage}
use Rattle.host_calls.specs.Directory.{Files}
use Rattle.spool_model.specs.JobTable.{JobTable}
use Rattle.spool_shows.specs.FirstDamage.{IsFirstDamage}
use Rattle.spool_shows.specs.Shown.{Shows, shown_by}

-- a directory shows the damage that is its first
abbrev pub DirectoriesShowTheirFirstDamage : Type 0
DirectoriesShowTheirFirstDamage = (files : Files) (damage : Damage) → (shown_by files ≡ Err damage) ↔ IsFirstDamage files damage

-- it shows a table exactly where it has none
abbrev pub UndamagedDirectoriesShowTables : Type 0
UndamagedDirectoriesShowTables = (files : Files) →
    ((table : JobTable) × Shows files table) ↔ ((damage : Damage) → ¬ IsFirstDamage files damage)
