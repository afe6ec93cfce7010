-- Whether so many jobs may be submitted (own).
use Rattle.std.specs.Prelude.{◌≤◌, ◌<◌, ◌+◌, ℕ}
use Rattle.spool_model.specs.declared.number.TheConstants.{LAST_NUMBER}
use Rattle.spool_model.specs.JobTable.{JobTable}
use Rattle.spool_model.specs.Lists.{live_count}
use Rattle.host_calls.specs.declared.store_fault.StoreFault.{StoreFault}
use Rattle.host_calls.specs.declared.store_fault.StoreFault.TheVariants.{Memory, NumbersUsedUp, QueueFull}
use Rattle.spool_model.specs.declared.row.TheConstants.{MAX_LIVE}

-- there is room for so many jobs more, and no number for each
pub record IsUsedUpFor (table : JobTable) (count : ℕ) : Type 0 where
  pub room : live_count table + count ≤ MAX_LIVE
  pub few : LAST_NUMBER < table.last + count

-- why so many jobs are not submitted: there is no room, or else no number for each, or an out-of-memory error
abbrev pub IsRoomFault : JobTable → ℕ → StoreFault → Type 0
IsRoomFault table count QueueFull = MAX_LIVE < live_count table + count
IsRoomFault table count NumbersUsedUp = IsUsedUpFor table count
IsRoomFault table count Memory = Unit {0}
IsRoomFault table count _ = ⊥
