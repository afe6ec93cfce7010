-- What a sink in memory keeps to: the put that it was made to fail at.
use Rattle.std.proofs.Common.{◌≡◌, ℕ, refl}
use Rattle.std.specs.Prelude.{Option, Some, None}
use Rattle.memory_host.specs.Sink.{KeepsToPuts, sink_spelling}
use Rattle.memory_host.specs.MemorySink.{outlet_so_far}
use Rattle.memory_host.specs.declared.sink.MemorySink.{MemorySink}

-- no two plans of a sink are spelled alike
pub sink_spelling-one : (first second : Option ℕ) → sink_spelling first ≡ sink_spelling second → first ≡ second
sink_spelling-one None None same = refl
sink_spelling-one None (Some second) same = cc
sink_spelling-one (Some first) None same = cc
sink_spelling-one (Some first) (Some second) same = cc

-- each value of a sink in memory keeps to it
pub sink_keeps : (sink : MemorySink) → KeepsToPuts (outlet_so_far sink).made_as (outlet_so_far sink).sink_faults
sink_keeps sink same = sink.unfailing (sink_spelling-one sink.fails_at None same)
