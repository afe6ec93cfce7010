-- How often calls have failed, by what the host was made as.
use Rattle.std.specs.Prelude.{◌≡◌, ◌+◌, ◌<◌, ◌≤◌, ◌&&◌, [], ◌∷◌, ℕ, Bool, List, None, map, nat_lt, not, if◌then◌else◌}
use Rattle.host_calls.specs.Clock.{last_count}
use Rattle.memory_host.specs.Plan.{IsFaultless, Progress, is_blown, is_planned}
use Rattle.memory_host.specs.declared.failing_list.Failing.{Failing}
use Rattle.memory_host.specs.declared.plan.Plan.{Plan}

-- whether the next call finds the lock taken if it is an `enter`: where the fuse lets it through
abbrev pub finds_taken : Progress → Bool
finds_taken at = not (is_blown at) && is_planned at.calls at.plan.taken

-- neither the plan nor a reboot has set a fuse
pub record HasNoFuse (plan : Plan) (fuses : List ℕ) : Type 0 where
  pub first : plan.fuse ≡ None
  pub later : fuses ≡ []

-- how many of the numbers are below this one
abbrev pub below_in : ℕ → List ℕ → ℕ
below_in limit [] = 0
below_in limit (number ∷ others) = (if nat_lt number limit then 1 else 0) + below_in limit others

-- the numbers of the failing calls
abbrev pub failing_calls : List Failing → List ℕ
failing_calls failing = map (λ one. one.call) failing

-- Where nothing is planned to fail, the counts are 0. Without a fuse, and before the count of calls has
-- stopped, each fault was planned for a call that has been: no more faults than such entries.
pub record AreFaultsPlanned (at : Progress) (fuses : List ℕ) (file_faults start_faults taken : ℕ) : Type 0 where
  pub no_fuse : HasNoFuse at.plan fuses → at.fuse ≡ None
  pub no_file_fault : IsFaultless at.plan → fuses ≡ [] → file_faults ≡ 0
  pub no_start_fault : IsFaultless at.plan → fuses ≡ [] → start_faults ≡ 0
  pub not_taken : IsFaultless at.plan → fuses ≡ [] → taken ≡ 0
  pub files_planned : HasNoFuse at.plan fuses → at.calls < last_count
      → file_faults ≤ below_in at.calls (failing_calls at.plan.failing)
  pub starts_planned : HasNoFuse at.plan fuses → at.calls < last_count
      → start_faults ≤ below_in at.calls (failing_calls at.plan.failing) + below_in at.starts at.plan.failing_starts
  pub lock_planned : HasNoFuse at.plan fuses → at.calls < last_count → taken ≤ below_in at.calls at.plan.taken
