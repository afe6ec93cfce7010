-- What the host in memory reports.
use Rattle.std.specs.Prelude.{◌≡◌, ◌++◌, [], ◌∷◌, ℕ, false, List, Option, length, option_to_list}
use Rattle.std.specs.FinMap as map
use Rattle.host_calls.specs.declared.child.Asked.{Asked}
use Rattle.host_calls.specs.Session.{Session}
use Rattle.host_calls.specs.World.{World, reading}
use Rattle.host_calls.specs.Directory.{Files, IsImage}
use Rattle.memory_host.specs.Crash.{rebooted}
use Rattle.memory_host.specs.Past.{CallLog, history_of, moment_of}
use Rattle.memory_host.specs.Plan.{Progress, first_progress, progress_after_reboot}
use Rattle.memory_host.specs.Spelling.{spelled}
use Rattle.memory_host.specs.declared.plan.Plan.{Plan}
use Rattle.memory_host.specs.declared.memory_host.MemoryHost.{MemoryHost}

-- what every host reports
abbrev pub memory_session : MemoryHost → Session
memory_session host =
    record {
      inside = host.is_inside;
      children = host.children.items;
      made_as = spelled host.plan host.fuses.items;
      file_faults = host.file_faults;
      start_faults = host.start_faults;
      taken = host.taken;
    }

-- the moments of a story, and the questions to children
abbrev pub world_of : CallLog → List Asked → World
world_of story asked = record { now = moment_of (history_of story).now; before = (history_of story).before; asked = asked }

-- its moments and questions
abbrev pub memory_world : MemoryHost → World
memory_world host = world_of host.past host.asked.items

-- its plan, and how far it has come in it
abbrev pub progress_of : MemoryHost → Progress
progress_of host =
    record {
      plan = host.plan;
      fuse = host.fuse;
      calls = host.turn.call;
      since_reboot = host.turn.since_reboot;
      starts = length host.waits.items;
    }

-- the fuses that its reboots have set
abbrev pub fuses_of : MemoryHost → List ℕ
fuses_of host = host.fuses.items

-- the bytes of a name as they read now
abbrev pub reading_at : MemoryHost → List ℕ → Option (List ℕ)
reading_at host name = map.get (reading (memory_world host)) name

-- how many calls there were, but for `leave`
abbrev pub calls_of : MemoryHost → ℕ
calls_of host = (progress_of host).calls

-- the session of a host before its first call
abbrev pub first_session : Plan → Session
first_session plan =
    record { inside = false; children = []; made_as = spelled plan []; file_faults = 0; start_faults = 0; taken = 0 }

-- a host with these files, all of them durable, before its first call
pub record IsNew (files : Files) (plan : Plan) (host : MemoryHost) : Type 0 where
  pub reading : reading (memory_world host) ≡ files
  pub settled : (image : Files) → IsImage (memory_world host).now.directory image → image ≡ files
  pub handed : (memory_world host).now.handed ≡ []
  pub before : (memory_world host).before ≡ []
  pub asked : (memory_world host).asked ≡ []
  pub session : memory_session host ≡ first_session plan
  pub progress : progress_of host ≡ first_progress plan

-- the world after the crash of this pick
abbrev pub after_reboot : ℕ → World → World
after_reboot pick world =
    record {
      now = record { directory = rebooted pick world.now.directory; handed = world.now.handed };
      before = world.now ∷ world.before;
      asked = world.asked;
    }

-- the host comes up again, outside a session and with no child
pub record IsRebooted (pick : ℕ) (fuse : Option ℕ) (old new : MemoryHost) : Type 0 where
  pub world : memory_world new ≡ after_reboot pick (memory_world old)
  pub image : IsImage (memory_world old).now.directory (reading (memory_world new))
  pub only : (image : Files) → IsImage (memory_world new).now.directory image → image ≡ reading (memory_world new)
  pub outside : (memory_session new).inside ≡ false
  pub children : (memory_session new).children ≡ []
  pub made_as : (memory_session new).made_as ≡ spelled (progress_of old).plan (fuses_of old ++ option_to_list fuse)
  pub file_faults : (memory_session new).file_faults ≡ (memory_session old).file_faults
  pub start_faults : (memory_session new).start_faults ≡ (memory_session old).start_faults
  pub taken : (memory_session new).taken ≡ (memory_session old).taken
  pub progress : progress_of new ≡ progress_after_reboot fuse (progress_of old)

-- nothing of the host has changed
pub record IsUnchanged (old new : MemoryHost) : Type 0 where
  pub world : memory_world new ≡ memory_world old
  pub session : memory_session new ≡ memory_session old
  pub progress : progress_of new ≡ progress_of old
