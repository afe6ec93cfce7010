-- What readings of the clock and of the load report.
use Rattle.std.specs.Prelude.{◌+◌, ◌-◌, ◌^◌, ◌++◌, [], ◌∷◌, ℕ, ℤ, List, Option, length, min, nat_lt, if◌then◌else◌}

-- each answer of the clock and of the load, in order, and for how many seconds a rest was asked
pub record Answers : Type 0 where
  pub nows : List ℤ
  pub loads : List (Option ℕ)
  pub rested : ℕ

-- the last value of u64
abbrev pub last_count : ℕ
last_count = 2 ^ 64 - 1

-- the list with one more answer, while it has fewer than the last value of u64
abbrev pub with_answer : {X : Type 0} → List X → X → List X
with_answer answers answer = if nat_lt (length answers) last_count then answers ++ answer ∷ [] else answers

abbrev pub with_now : ℤ → Answers → Answers
with_now now old = record { nows = with_answer old.nows now; loads = old.loads; rested = old.rested }

abbrev pub with_load : Option ℕ → Answers → Answers
with_load load old = record { nows = old.nows; loads = with_answer old.loads load; rested = old.rested }

-- the rest is counted up to the last value of u64
abbrev pub with_rest : ℕ → Answers → Answers
with_rest seconds old = record { nows = old.nows; loads = old.loads; rested = min (old.rested + seconds) last_count }

-- what every source of readings reports: what it was made as, and how often no load could be read
pub record Readers : Type 0 where
  pub made_as : List ℕ
  pub load_faults : ℕ
