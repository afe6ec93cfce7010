-- What a sink in memory reports.
use Rattle.std.specs.Prelude.{ℕ, List, Option}
use Rattle.host_calls.specs.Sink.{Outlet}
use Rattle.memory_host.specs.Sink.{sink_spelling}
use Rattle.memory_host.specs.declared.sink.MemorySink.{MemorySink}

-- all that was put
abbrev pub content_so_far : MemorySink → List ℕ
content_so_far sink = sink.content.items

-- what the sink was made as, and how often it failed
abbrev pub outlet_so_far : MemorySink → Outlet
outlet_so_far sink = record { made_as = sink_spelling sink.fails_at; sink_faults = sink.sink_faults }

-- the number of the put that fails, if one does
abbrev pub failing_put : MemorySink → Option ℕ
failing_put sink = sink.fails_at

-- the number of the put that comes next
abbrev pub next_put : MemorySink → ℕ
next_put sink = sink.puts
