-- What a sink reports.
use Rattle.std.specs.Prelude.{◌≡◌, ◌++◌, ℕ, List, take, Result, Ok, Err}
use Rattle.host_calls.specs.declared.fault.SinkFault.{SinkFault}
use Rattle.host_calls.specs.declared.fault.SinkFault.TheVariants.{Failed, Memory}

-- what every sink reports: what it was made as, and how often it failed
pub record Outlet : Type 0 where
  pub made_as : List ℕ
  pub sink_faults : ℕ

-- The content after a put, by its answer: a put that failed has put a prefix of the bytes.
abbrev pub Puts : List ℕ → List ℕ → List ℕ → Result Unit SinkFault → Type 0
Puts bytes old new (Ok value) = new ≡ old ++ bytes
Puts bytes old new (Err Failed) = (count : ℕ) × (new ≡ old ++ take count bytes)
Puts bytes old new (Err Memory) = new ≡ old
