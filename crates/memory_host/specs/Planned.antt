-- How the calls of the host in memory go as planned (own).
use Rattle.std.specs.Prelude.{◌≡◌, ◌≢◌, ℕ, List, Some, None, IsSome, Result, Err}
use Rattle.host_calls.specs.Causes.{HasCause}
use Rattle.host_calls.specs.Directory.{Directory}
use Rattle.host_calls.specs.Session.{CallsInside, Starts}
use Rattle.host_calls.specs.World.{FileCall, StartCall}
use Rattle.host_calls.specs.declared.child.Child.{Child}
use Rattle.host_calls.specs.declared.fault.HostFault.{HostFault}
use Rattle.host_calls.specs.declared.fault.HostFault.TheVariants.{Failed, Memory}
use Rattle.host_calls.specs.declared.fault.StartFault.{StartFault}
use Rattle.host_calls.specs.declared.fault.StartFault.TheVariants as start
use Rattle.memory_host.specs.Host.{memory_session, memory_world, progress_of}
use Rattle.memory_host.specs.Plan.{next_part, next_start, progress_after_call, progress_after_start}
use Rattle.memory_host.specs.declared.failing_list.Part.TheVariants.{Nothing, All}
use Rattle.memory_host.specs.declared.memory_host.MemoryHost.{MemoryHost}

-- the call is counted, unless it answers an out-of-memory error
pub record IsCallCounted {T E : Type 0} (memory : E) (old new : MemoryHost) (result : Result T E) : Type 0 where
  pub counted : result ≢ Err memory → progress_of new ≡ progress_after_call (progress_of old)
  pub uncounted : result ≡ Err memory → progress_of new ≡ progress_of old

-- a call that looks at the directory changes none of it, and fails where that is planned
pub record LooksAsPlanned {T : Type 0} (old new : MemoryHost) (result : Result T HostFault) : Type 0 where
  pub inside : CallsInside Failed (memory_session old) (memory_session new) result
  pub world : memory_world new ≡ memory_world old
  pub fails : IsSome (next_part (progress_of old)) → result ≡ Err Failed
  pub passes : next_part (progress_of old) ≡ None → result ≢ Err Failed
  pub count : IsCallCounted Memory old new result

-- a call that changes the directory fails where that is planned, and has done nothing or all by then
pub record ChangesAsPlanned {T : Type 0} (done part : Directory → Directory → Type 0) (old new : MemoryHost)
    (result : Result T HostFault) : Type 0 where
  pub inside : CallsInside Failed (memory_session old) (memory_session new) result
  pub files : FileCall done part (memory_world old) (memory_world new) result
  pub nothing : next_part (progress_of old) ≡ Some Nothing
      → (result ≡ Err Failed) × (memory_world new ≡ memory_world old)
  pub all : next_part (progress_of old) ≡ Some All → result ≢ Err Memory
      → (result ≡ Err Failed) × done (memory_world old).now.directory (memory_world new).now.directory
  pub passes : next_part (progress_of old) ≡ None → result ≢ Err Failed
  pub count : IsCallCounted Memory old new result

-- a start answers as planned, and is counted both as a call and as a start
pub record StartsAsPlanned (number : ℕ) (name : List ℕ) (nice : ℕ) (old new : MemoryHost)
    (result : Result Child StartFault) : Type 0 where
  pub starts : Starts (memory_session old) (memory_session new) result
  pub cause : HasCause start.Failed (memory_session old).start_faults (memory_session new).start_faults result
  pub handed : StartCall number name nice (memory_world old) (memory_world new) result
  pub answer : result ≢ Err start.Memory → result ≡ next_start (progress_of old)
  pub counted : result ≢ Err start.Memory → progress_of new ≡ progress_after_start (progress_of old)
  pub uncounted : result ≡ Err start.Memory → progress_of new ≡ progress_of old
