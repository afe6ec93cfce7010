-- What is around a host or inputs, and counts what failed (own).
use Rattle.host_calls.specs.Inputs.{Sources}
use Rattle.host_calls.specs.Session.{Session}
use Rattle.witnessed_host.specs.declared.counts.FaultCounts.{FaultCounts}
use Rattle.std.specs.Prelude.{ℕ}

-- what the host reports of itself, with counts of one's own
abbrev pub counted_session : Session → FaultCounts → Session
counted_session session counts = record session { file_faults = counts.files; start_faults = counts.starts; taken = counts.taken }

-- what the inputs report of themselves, with a count of one's own
abbrev pub counted_sources : Sources → ℕ → Sources
counted_sources sources faults = record sources { input_faults = faults }
