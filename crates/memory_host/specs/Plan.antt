-- What is planned to fail, and how far a host has come in its plan (own).
use Rattle.std.specs.Prelude.{◌≡◌, ◌+◌, ◌==◌, ◌||◌, [], ◌∷◌, ℕ, Bool, false, List, Option, Some, None, Result, Ok, Err, is_some, min, nat_le, if◌then◌else◌}
use Rattle.std.specs.List.{list_any}
use Rattle.host_calls.specs.Clock.{last_count}
use Rattle.host_calls.specs.declared.child.Child.{Child}
use Rattle.host_calls.specs.declared.fault.EnterFault.{EnterFault}
use Rattle.host_calls.specs.declared.fault.EnterFault.TheVariants as enter
use Rattle.host_calls.specs.declared.fault.StartFault.{StartFault}
use Rattle.host_calls.specs.declared.fault.StartFault.TheVariants as start
use Rattle.memory_host.specs.declared.failing_list.Failing.{Failing}
use Rattle.memory_host.specs.declared.failing_list.Part.{Part}
use Rattle.memory_host.specs.declared.failing_list.Part.TheVariants.{Nothing}
use Rattle.memory_host.specs.declared.plan.Plan.{Plan}

-- nothing is planned to fail
pub record IsFaultless (plan : Plan) : Type 0 where
  pub failing : plan.failing ≡ []
  pub taken : plan.taken ≡ []
  pub failing_starts : plan.failing_starts ≡ []
  pub fuse : plan.fuse ≡ None

-- the plan by which nothing fails, and of no child
abbrev pub quiet_plan : Plan
quiet_plan = record { failing = []; taken = []; failing_starts = []; fuse = None; children = [] }

-- the plan, the fuse that is set, how many calls there were in all and since the last reboot, and how many starts
pub record Progress : Type 0 where
  pub plan : Plan
  pub fuse : Option ℕ
  pub calls : ℕ
  pub since_reboot : ℕ
  pub starts : ℕ

-- whether the list names this number
abbrev pub is_planned : ℕ → List ℕ → Bool
is_planned number numbers = list_any (λ named. named == number) numbers

-- the part that the first entry of this call names
abbrev pub part_of : List Failing → ℕ → Option Part
part_of [] call = None
part_of (failing ∷ others) call = if failing.call == call then Some failing.part else part_of others call

-- whether the fuse lets no call of this number through, counted since the last reboot
abbrev pub is_blown_by : Option ℕ → ℕ → Bool
is_blown_by None since_reboot = false
is_blown_by (Some first) since_reboot = nat_le first since_reboot

-- whether the fuse lets the next call not through
abbrev pub is_blown : Progress → Bool
is_blown at = is_blown_by at.fuse at.since_reboot

-- how much the next call does before it fails, if it fails: the fuse decides first
abbrev pub next_part : Progress → Option Part
next_part at = if is_blown at then Some Nothing else part_of at.plan.failing at.calls

-- what the next call answers if it is an `enter`: the fuse decides first, then the taken calls, then the failing ones
abbrev pub next_entry : Progress → Result (Unit {0}) EnterFault
next_entry at =
    if is_blown at then Err enter.Failed
    else if is_planned at.calls at.plan.taken then Err enter.Taken
    else if is_some (part_of at.plan.failing at.calls) then Err enter.Failed
    else Ok tt

-- whether the next call fails if it is a start: as any call does, or as the start of its number
abbrev pub next_start_fails : Progress → Bool
next_start_fails at = is_some (next_part at) || is_planned at.starts at.plan.failing_starts

-- what the next call answers if it is a start: the child of that number
abbrev pub next_start : Progress → Result Child StartFault
next_start at = if next_start_fails at then Err start.Failed else Ok (record { id = at.starts })

-- one more call was counted, up to the last value of u64
abbrev pub progress_after_call : Progress → Progress
progress_after_call at =
    record at { calls = min (at.calls + 1) last_count; since_reboot = min (at.since_reboot + 1) last_count }

-- one start more was counted
abbrev pub progress_after_start : Progress → Progress
progress_after_start at = record (progress_after_call at) { starts = at.starts + 1 }

-- the same with this fuse, which counts from 0 anew
abbrev pub progress_after_reboot : Option ℕ → Progress → Progress
progress_after_reboot fuse at = record at { fuse = fuse; since_reboot = 0 }

-- before the first call
abbrev pub first_progress : Plan → Progress
first_progress plan = record { plan = plan; fuse = plan.fuse; calls = 0; since_reboot = 0; starts = 0 }
