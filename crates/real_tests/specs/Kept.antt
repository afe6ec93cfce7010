-- What a witness who keeps a directory in memory knows (own).
use Rattle.std.specs.Prelude.{◌≡◌, ◌++◌, ◌∷◌, [], ℕ, Bool, List, Option, Some, None, Result, Ok, Err}
use Rattle.std.specs.FinMap as map
use Rattle.std.specs.List.{fold}
use Rattle.host_calls.specs.declared.child.Asked.{Asked}
use Rattle.host_calls.specs.declared.child.Child.{Child}
use Rattle.host_calls.specs.declared.child.Ending.{Ending}
use Rattle.host_calls.specs.declared.child.Handed.{Handed}
use Rattle.host_calls.specs.declared.fault.HostFault.{HostFault}
use Rattle.host_calls.specs.declared.fault.HostFault.TheVariants.{Failed}
use Rattle.host_calls.specs.Directory.{Directory, reading_of}
use Rattle.host_calls.specs.World.{Moment, World}
use Rattle.memory_host.specs.Host.{memory_world}
use Rattle.memory_host.specs.declared.memory_host.MemoryHost.{MemoryHost}
use Rattle.real_tests.specs.declared.step.Step.{Step}
use Rattle.real_tests.specs.declared.step.Step.TheVariants.{Changed, HandedOver}

-- the verdict on a call that is said to have gone well, by what the model answered to the same call
abbrev pub verdict : Result Unit HostFault → Result Unit HostFault
verdict (Ok value) = Ok value
verdict (Err fault) = Err Failed

-- the directory of the model
abbrev pub directory_of_model : MemoryHost → Directory
directory_of_model host = (memory_world host).now.directory

-- the bytes that were found, or none
abbrev pub bytes_or_none : Option (List ℕ) → List ℕ
bytes_or_none (Some bytes) = bytes
bytes_or_none None = []

-- what was started, and the moments before, the newest first
pub record Past : Type 0 where
  pub handed : List Handed
  pub before : List Moment

-- nothing was
abbrev pub no_past : Past
no_past = record { handed = []; before = [] }

-- the script of a name that reads so in this directory, started
abbrev pub handed_from : Directory → ℕ → List ℕ → ℕ → Bool → Handed
handed_from directory number name nice started =
    record { number = number; script = bytes_or_none (map.get (reading_of directory) name); nice = nice; started = started }

-- the past with the moment of one more step
abbrev pub past_after : Past → Step → Past
past_after past (Changed model) =
    record { handed = past.handed; before = record { directory = directory_of_model model.value; handed = past.handed } ∷ past.before }
past_after past (HandedOver model number name nice started) = record {
  handed = past.handed ++ handed_from (directory_of_model model.value) number name nice started ∷ [];
  before = record { directory = directory_of_model model.value; handed = past.handed } ∷ past.before;
}

-- the world: the model's directory now, after all steps, with the questions to children so far
abbrev pub world_with : MemoryHost → Past → List Asked → World
world_with model past asked =
    record { now = record { directory = directory_of_model model; handed = past.handed }; before = past.before; asked = asked }

abbrev pub kept_world : MemoryHost → List Step → List Asked → World
kept_world model steps asked = world_with model (fold past_after no_past steps) asked

-- an answer agrees with one before it: an ending that the child has given is given again
abbrev pub AgreesWith : Child → Option Ending → Asked → Type 0
AgreesWith child answer one = (ending : Ending) → one ≡ record { child = child; answer = Some ending } → answer ≡ Some ending
