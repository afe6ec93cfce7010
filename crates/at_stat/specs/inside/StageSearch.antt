-- What a search for a number finds (own).
use Rattle.std.specs.Prelude.{◌≡◌, ℕ, List, Some, None, map}
use Rattle.spool_model.specs.declared.decided.Decided.{Decided}
use Rattle.spool_model.specs.declared.entry.Entry.TheVariants as entry
use Rattle.spool_store.specs.Listed.{entry_under}
use Rattle.spool_store.specs.Rows.{decided_entry}
use Rattle.spool_store.specs.Stored.{IsRowInRange}
use Rattle.at_stat.specs.declared.stage.JobStage.{JobStage}
use Rattle.at_stat.specs.declared.stage.JobStage.TheVariants.{Live, Done, Forgotten}

-- the stage of a number that no live job has, among the numbers of jobs that are done
abbrev pub IsDoneStage : List Decided → ℕ → JobStage → Type 0
IsDoneStage decided number (Live row) = ⊥
IsDoneStage decided number (Done fate) = entry_under (map decided_entry decided) number ≡ Some (entry.Done fate)
IsDoneStage decided number Forgotten = entry_under (map decided_entry decided) number ≡ None

-- a live job can be shown: its minute can be dated, and its queue is a letter
abbrev pub CanBeShown : JobStage → Type 0
CanBeShown (Live row) = IsRowInRange row
CanBeShown (Done fate) = Unit {0}
CanBeShown Forgotten = Unit {0}
