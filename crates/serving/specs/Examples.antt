-- Small servings, written down: two turns each and the rest between them (own). The host doesn't exposes its files.
use Rattle.std.specs.Prelude.{[], ◌∷◌, ℕ, ℤ, pos, Bool, true, false, List, Option, Some, None, codes}
use Rattle.host_calls.specs.declared.child.Child.{Child}
use Rattle.host_calls.specs.Session.{Session}
use Rattle.host_calls.specs.World.{World}
use Rattle.listing_text.specs.declared.cause.Cause.{Cause}
use Rattle.listing_text.specs.declared.cause.Cause.TheVariants as cause
use Rattle.tool_output.specs.Sinks.{SinkAt}
use Rattle.daemon_turn.specs.declared.kid.Kid.{Kid}
use Rattle.daemon_turn.specs.Daemons.{DaemonState}
use Rattle.serving.specs.Serves.{ServeState, serve_at}
use Rattle.tool_output.specs.Outside.{Telling, telling}
use Rattle.serving.specs.Serving.{Serving}

-- all but the files is reported
abbrev pub known : Telling
known = telling false false true false true true

-- the child of the first job
abbrev pub first_child : Child
first_child = record { id = 0 }

abbrev pub first_kid : Kid
first_kid = record { number = 1; child = first_child }

-- a host between two turns: its children, and how often its lock was taken
abbrev pub host_with : List Child → ℕ → Session
host_with children taken =
    record { inside = false; children = children; made_as = []; file_faults = 0; start_faults = 0; taken = taken }

-- a daemon with these children
abbrev pub daemon_with : List Kid → DaemonState
daemon_with kids = record { kids = kids; limit = 150; interval = 60 }

-- what the readings answered, for how many seconds a rest was asked, and how often no load could be read
abbrev pub served_with : World → List Child → ℕ → List Kid → List ℤ → List (Option ℕ) → ℕ → ℕ → ServeState
served_with world children taken kids nows loads rested unread =
    serve_at (host_with children taken) world (daemon_with kids)
    (record { nows = nows; loads = loads; rested = rested }) (record { made_as = []; load_faults = unread })

-- a sink that never failed
abbrev pub sink : List ℕ → SinkAt
sink content = record { content = content; faults = 0 }

-- Wed Jan 1 2025 00:00:00 UTC, a second later, and a minute later
abbrev pub midnight : ℤ
midnight = pos 1735689600

abbrev pub second_later : ℤ
second_later = pos 1735689601

abbrev pub minute_later : ℤ
minute_later = pos 1735689660

-- serving began with a daemon without children, and ended so: what is served with then, what was printed and said, and the
-- cause
abbrev pub ServesTwice : World → Bool → ServeState → List ℕ → List ℕ → Cause → Type 0
ServesTwice world once end printed said of =
    Serving known once 2 (served_with world [] 0 [] [] [] 0 0) end (sink []) (sink printed) (sink []) (sink said) of

-- Two turns each: at a full minute a job is started whose child exits with 3, which is reported at the next full
-- minute; only until no child is left, its child exits with 0 within a second; its child runs on; the spool is taken
-- at first.
pub record SmallServings : Type 0 where
  pub minutes : (world : World) → ServesTwice world false
      (served_with world (first_child ∷ []) 0 [] (midnight ∷ minute_later ∷ []) (Some 42 ∷ None ∷ []) 60 1)
      (codes "job 1 handed over\njob 1 exit 3\n") [] cause.Done
  pub until_alone : (world : World) → ServesTwice world true
      (served_with world (first_child ∷ []) 0 [] (midnight ∷ second_later ∷ []) (Some 42 ∷ Some 42 ∷ []) 1 0)
      (codes "job 1 handed over\njob 1 exit 0\n") [] cause.Done
  pub still_running : (world : World) → ServesTwice world true
      (served_with world (first_child ∷ []) 0 (first_kid ∷ []) (midnight ∷ second_later ∷ []) (Some 42 ∷ Some 42 ∷ []) 1 0)
      (codes "job 1 handed over\n") (codes "atd: jobs still running\n") cause.StillRunning
  pub taken_first : (world : World) → ServesTwice world false
      (served_with world (first_child ∷ []) 1 (first_kid ∷ []) (midnight ∷ second_later ∷ []) (Some 42 ∷ Some 42 ∷ []) 1 0)
      (codes "job 1 handed over\n") (codes "atd: spool busy\n") cause.Done
