-- A day that is made from a number (own): its result.
use Rattle.std.specs.Prelude.{◌≡◌, [], ◌∷◌, ℕ, Bool, false, List, Ok}
use Rattle.std.specs.FinMap.{from_entries}
use Rattle.std.specs.List.{list_any}
use Rattle.command_rules.specs.Found.{deny_file}
use Rattle.at_day.specs.declared.events_report.EventReport.{EventReport}
use Rattle.at_day.specs.declared.events_report.EventReport.TheVariants as known
use Rattle.host_calls.specs.Directory.{Files}
use Rattle.listing_text.specs.Cause.{is_memory}
use Rattle.at_day.specs.Made.{made_events}
use Rattle.at_day.specs.Plans.{made_plan}
use Rattle.memory_host.specs.Host.{IsNew}
use Rattle.memory_host.specs.declared.memory_host.MemoryHost.{MemoryHost}
use Rattle.tool_output.specs.Ends.{is_wanting}
use Rattle.at_day.specs.declared.counts.Counts.{Counts}
use Rattle.at_day.specs.Days.{IsDay}

-- an empty list of users who may not use at, and no other file
abbrev pub deny_alone : Files
deny_alone = from_entries ((deny_file, []) ∷ [])

-- the event ended with an out-of-memory error
abbrev pub lacks_memory : EventReport → Bool
lacks_memory (known.Command status out err) = is_memory status.cause
lacks_memory (known.Turn turned) = is_wanting turned.end
lacks_memory known.Rebooted = false

-- The simulated run of so many events comes to these counts: on a host of its plan, which holds an empty list of users
-- who may not use at and no other file, its events were made one after another; none of them ended with an out-of-memory
-- error; and this is what the directory counts that they left.
pub record ComesTo (count : ℕ) (counts : Counts) : Type 0 where
  pub first : MemoryHost
  pub is_new : IsNew deny_alone (made_plan count) first
  pub last : MemoryHost
  pub reports : List EventReport
  pub day : IsDay (made_events count) first last (record { events = reports; counts = Ok counts })
  pub found_memory : list_any lacks_memory reports ≡ false
