-- The events that a day can have (own).
use Rattle.std.specs.Prelude.{◌&&◌, ℕ, Bool, true, false, Option, Some, None, nat_lt}
use Rattle.at_words.specs.declared.tool.Tool.{Tool}
use Rattle.at_words.specs.declared.tool.Tool.TheVariants.{At, Batch, Atq, Atrm, Atd, Atday}
use Rattle.at_words.specs.Tools.{tool_of_words}
use Rattle.host_calls.specs.ClockRange.{is_clock_second}
use Rattle.at_day.specs.declared.event.Event.{Event}
use Rattle.at_day.specs.declared.event.Event.TheVariants.{Command, Turn, Reboot}

-- the tool makes one session and ends
abbrev pub ends_by_itself : Tool → Bool
ends_by_itself At = true
ends_by_itself Batch = true
ends_by_itself Atq = true
ends_by_itself Atrm = true
ends_by_itself Atd = false
ends_by_itself Atday = false

-- the words name such a tool
abbrev pub is_day_tool : Option (Tool × ℕ) → Bool
is_day_tool None = false
is_day_tool (Some found) = ends_by_itself found.0

-- A day can have the event: the command is one of at, batch, atq and atrm under a umask that there is, or the second of
-- the turn lies in the clock's range.
abbrev pub is_day_event : Event → Bool
is_day_event (Command words caller input now) = is_day_tool (tool_of_words words) && nat_lt caller.context.umask 512
is_day_event (Turn now load) = is_clock_second now
is_day_event (Reboot pick fuse) = true
