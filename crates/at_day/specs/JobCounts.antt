-- What a spool directory counts (own): the jobs of the table that it shows, by what became of them.
use Rattle.std.specs.Prelude.{◌≡◌, ◌⊎◌, ℕ, Bool, true, false, not, Option, Some, None, Result, Ok, Err, count_by}
use Rattle.host_calls.specs.declared.child.Ending.TheVariants.{Exit, Signal, NotStarted}
use Rattle.host_calls.specs.Causes.{Rose}
use Rattle.host_calls.specs.Session.{IsLeft, Session}
use Rattle.host_calls.specs.World.{World, reading}
use Rattle.step_runs.specs.Attempts.{IsUnbegun}
use Rattle.memory_host.specs.declared.memory_host.MemoryHost.{MemoryHost}
use Rattle.memory_host.specs.Host.{memory_session, memory_world}
use Rattle.spool_model.specs.declared.entry.Entry.TheVariants.{Live, Done}
use Rattle.spool_model.specs.declared.fate.Fate.{Fate}
use Rattle.spool_model.specs.declared.fate.Fate.TheVariants.{Removed, Finished, Interrupted}
use Rattle.spool_model.specs.declared.row.Row.{Row}
use Rattle.spool_model.specs.JobTable.{JobEntry, JobTable, entry_at}
use Rattle.spool_model.specs.Lists.{done_numbers, is_running, live_rows}
use Rattle.spool_shows.specs.Shown.{Shows, shown_by}
use Rattle.host_calls.specs.declared.store_fault.StoreFault.{StoreFault}
use Rattle.host_calls.specs.declared.store_fault.StoreFault.TheVariants as fault
use Rattle.at_day.specs.declared.counts.Counts.{Counts}

-- the job of the row runs, or waits
abbrev pub is_running_row : Row → Bool
is_running_row row = is_running row.state

abbrev pub is_waiting_row : Row → Bool
is_waiting_row row = not (is_running row.state)

-- the job was removed
abbrev pub was_removed : Fate → Bool
was_removed Removed = true
was_removed (Finished ending) = false
was_removed Interrupted = false

-- the job was started, and ended by itself
abbrev pub was_finished : Fate → Bool
was_finished (Finished (Exit status)) = true
was_finished (Finished (Signal signal)) = true
was_finished (Finished NotStarted) = false
was_finished Removed = false
was_finished Interrupted = false

-- the job could not be started
abbrev pub was_not_started : Fate → Bool
was_not_started (Finished NotStarted) = true
was_not_started (Finished (Exit status)) = false
was_not_started (Finished (Signal signal)) = false
was_not_started Removed = false
was_not_started Interrupted = false

-- the job was given up
abbrev pub was_interrupted : Fate → Bool
was_interrupted Interrupted = true
was_interrupted (Finished ending) = false
was_interrupted Removed = false

-- the entry is that of a done job whose fate passes
abbrev pub is_done_so : (Fate → Bool) → Option JobEntry → Bool
is_done_so passes (Some (Done fate)) = passes fate
is_done_so passes (Some (Live job state)) = false
is_done_so passes None = false

-- how many done jobs have a fate that passes
abbrev pub done_so : (Fate → Bool) → JobTable → ℕ
done_so passes table = count_by (λ number. is_done_so passes (entry_at table number)) (done_numbers table)

-- the counts of a table
abbrev pub counts_in : JobTable → Counts
counts_in table = record {
  last = table.last;
  pending = count_by is_waiting_row (live_rows table);
  running = count_by is_running_row (live_rows table);
  removed = done_so was_removed table;
  finished = done_so was_finished table;
  not_started = done_so was_not_started table;
  interrupted = done_so was_interrupted table;
}

-- What is counted where the directory reads so: the jobs of the table that it shows. A fault comes only where a count of
-- the host rose.
abbrev pub CountsBy : Session → Session → World → Result Counts StoreFault → Type 0
CountsBy old new world (Ok counts) = (table : JobTable) × Shows (reading world) table × (counts ≡ counts_in table)
CountsBy old new world (Err fault.FileFault) = Rose old.file_faults new.file_faults ⊎ Rose old.taken new.taken
CountsBy old new world (Err (fault.Damaged damage)) = shown_by (reading world) ≡ Err damage
CountsBy old new world (Err fault.Memory) = Unit {0}
CountsBy old new world _ = ⊥

-- A session in which the directory was recovered and counted, and nothing else was done.
pub record IsTableCounted (old new : MemoryHost) (result : Result Counts StoreFault) : Type 0 where
  pub left : IsLeft (memory_session old) (memory_session new)
  pub unbegun : IsUnbegun (memory_world old) (memory_world new)
  pub asked : (memory_world new).asked ≡ (memory_world old).asked
  pub counts : CountsBy (memory_session old) (memory_session new) (memory_world old) result
