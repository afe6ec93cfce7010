-- What holds of each value that was made in memory, by what it was made as.
use Rattle.std.specs.Prelude.{◌≡◌, ◌+◌, ◌<◌, ◌≤◌, [], ℕ, Bool, List, Option, None, length}
use Rattle.host_calls.specs.Clock.{last_count}
use Rattle.host_calls.specs.Session.{Session}
use Rattle.memory_host.specs.Children.{AreAnswers}
use Rattle.memory_host.specs.Host.{calls_of, memory_session, memory_world}
use Rattle.memory_host.specs.Inputs.{KeepToContent, given_contents, inputs_spelling}
use Rattle.memory_host.specs.ListReadings.{answers_so_far, readers_so_far}
use Rattle.memory_host.specs.MemoryInputs.{contents_given, sources_so_far}
use Rattle.memory_host.specs.MemorySink.{outlet_so_far}
use Rattle.memory_host.specs.Plan.{IsFaultless}
use Rattle.memory_host.specs.Readings.{KeepToLists}
use Rattle.memory_host.specs.Sink.{KeepsToPuts}
use Rattle.memory_host.specs.Spelling.{spelled}
use Rattle.memory_host.specs.declared.inputs.MemoryInputs.{MemoryInputs}
use Rattle.memory_host.specs.declared.memory_host.MemoryHost.{MemoryHost}
use Rattle.memory_host.specs.declared.plan.Plan.{Plan}
use Rattle.memory_host.specs.declared.readings.ListReadings.{ListReadings}
use Rattle.memory_host.specs.declared.sink.MemorySink.{MemorySink}

-- no two plans with their fuses are spelled alike
abbrev pub SpellingsTellPlans : Type 0
SpellingsTellPlans = (plan other : Plan) (fuses others : List ℕ)
    → spelled plan fuses ≡ spelled other others → (plan ≡ other) × (fuses ≡ others)

-- no call has failed, and none has found the lock taken
pub record HasNoFault (session : Session) : Type 0 where
  pub file_faults : session.file_faults ≡ 0
  pub start_faults : session.start_faults ≡ 0
  pub taken : session.taken ≡ 0

-- a host that spells a quiet plan and no fuse of a reboot has no fault
abbrev pub QuietHostsHaveNoFault : Type 0
QuietHostsHaveNoFault = (host : MemoryHost) (plan : Plan)
    → (memory_session host).made_as ≡ spelled plan [] → IsFaultless plan → HasNoFault (memory_session host)

-- at most as many faults as entries of the plan
pub record HasFewFaults (plan : Plan) (session : Session) : Type 0 where
  pub file_faults : session.file_faults ≤ length plan.failing
  pub start_faults : session.start_faults ≤ length plan.failing + length plan.failing_starts
  pub taken : session.taken ≤ length plan.taken

-- a host that spells a plan and no fuse has few faults, while its calls can be counted
abbrev pub FaultsArePlanned : Type 0
FaultsArePlanned = (host : MemoryHost) (plan : Plan)
    → (memory_session host).made_as ≡ spelled plan [] → plan.fuse ≡ None → calls_of host < last_count
    → HasFewFaults plan (memory_session host)

-- each answer of a child is the one that the plans give after the questions before it
abbrev pub ChildrenAnswerAsPlanned : Type 0
ChildrenAnswerAsPlanned = (host : MemoryHost) (plan : Plan) (fuses : List ℕ)
    → (memory_session host).made_as ≡ spelled plan fuses → AreAnswers plan.children (memory_world host).asked

-- readings answer along the lists that they were made as
abbrev pub ReadingsKeepToLists : Type 0
ReadingsKeepToLists = (readings : ListReadings) → KeepToLists (readers_so_far readings).made_as (answers_so_far readings)

-- inputs have the content that they were made with
abbrev pub InputsHaveTheirContent : Type 0
InputsHaveTheirContent = (inputs : MemoryInputs) (standard : List ℕ) (file : Option (List ℕ)) (fails : Bool)
    → (sources_so_far inputs).made_as ≡ inputs_spelling standard file fails → contents_given inputs ≡ given_contents standard file

-- inputs that were made with a file and not to fail have never failed
abbrev pub InputsKeepToContent : Type 0
InputsKeepToContent = (inputs : MemoryInputs) → KeepToContent (sources_so_far inputs).made_as (sources_so_far inputs).input_faults

-- a sink that was made to fail at no put has never failed
abbrev pub SinksKeepToPuts : Type 0
SinksKeepToPuts = (sink : MemorySink) → KeepsToPuts (outlet_so_far sink).made_as (outlet_so_far sink).sink_faults
