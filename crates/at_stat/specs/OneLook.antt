-- One session, which looks at the spool (own): it changes nothing but what a recovery settles, and shows the same.
use Rattle.std.specs.Prelude.{◌≡◌, ◌⊎◌, List, ℕ, Bool, true, Some, None, Result, Ok, Err}
use Rattle.at_words.specs.declared.filter.Filter.{Filter}
use Rattle.tool_output.specs.Causes.{cause_in, cause_of_entry, error_of}
use Rattle.tool_output.specs.declared.command_error.CommandError.{CommandError}
use Rattle.command_rules.specs.Sessions.{IsNotOpened, IsStoreOpened}
use Rattle.host_calls.specs.Causes.{Rose}
use Rattle.host_calls.specs.declared.fault.EnterFault.{EnterFault}
use Rattle.host_calls.specs.Session.{IsLeft, Session}
use Rattle.host_calls.specs.World.{TimePasses, World}
use Rattle.listing_text.specs.declared.cause.Cause.{Cause}
use Rattle.listing_text.specs.declared.cause.Cause.TheVariants.{Busy, FileFault, Refused}
use Rattle.listing_text.specs.declared.refusal.Refusal.{Refusal}
use Rattle.step_runs.specs.Current.{Kept}
use Rattle.at_stat.specs.Checks.{which_check}

-- a spool at a moment: what its host tells always, and each moment so far
pub record SpoolAt : Type 0 where
  pub session : Session
  pub world : World

abbrev pub stat_spool_at : Session → World → SpoolAt
stat_spool_at session world = record { session = session; world = world }

-- The spool was opened for the user, and the table of the directory refuses none of the jobs. What is kept has that table,
-- but for its scripts.
pub record IsSeen (tells : Bool) (user : List ℕ) (which : Filter) (entered left : World) (kept : Kept) : Type 0 where
  pub opened : IsStoreOpened tells user entered left kept
  pub allowed : which_check user kept.table which ≡ None

-- The spool was opened, and the table of the directory refuses one of the jobs.
pub record IsDenied (tells : Bool) (user : List ℕ) (which : Filter) (entered left : World) (cause : Cause) : Type 0 where
  pub kept : Kept
  pub refusal : Refusal
  pub opened : IsStoreOpened tells user entered left kept
  pub checked : which_check user kept.table which ≡ Some refusal
  pub cause_is : cause ≡ Refused refusal

-- what the work of the session does, by its answer
abbrev pub LooksInside : Bool → List ℕ → Filter → World → World → Result Kept CommandError → Type 0
LooksInside tells user which entered left (Ok kept) = IsSeen tells user which entered left kept
LooksInside tells user which entered left (Err stopped) =
    IsNotOpened tells user entered left stopped.cause ⊎ IsDenied tells user which entered left stopped.cause

-- The session could not begin: the lock was taken, a call failed, or there was no memory.
pub record IsNotBegun (tells alone : Bool) (old new : World) (result : Result Kept CommandError) : Type 0 where
  pub fault : EnterFault
  pub is : result ≡ Err (error_of (cause_of_entry fault))
  pub same : tells ≡ true → alone ≡ true → new ≡ old

-- The session began at a moment, looked, and ended. Between the moments others may have changed the directory, unless
-- nobody else changes it.
pub record HasBegun (tells alone : Bool) (user : List ℕ) (which : Filter) (old new : World)
    (result : Result Kept CommandError) : Type 0 where
  pub entered : World
  pub left : World
  pub begun : tells ≡ true → TimePasses old entered
  pub begun_alone : tells ≡ true → alone ≡ true → entered ≡ old
  pub inside : LooksInside tells user which entered left result
  pub over : tells ≡ true → TimePasses left new
  pub over_alone : tells ≡ true → alone ≡ true → new ≡ left

-- A session that looks: after it none is on, no child was started; a fault comes only where its
-- count rose.
pub record LooksAtJobs (tells alone : Bool) (user : List ℕ) (which : Filter) (old new : SpoolAt)
    (result : Result Kept CommandError) : Type 0 where
  pub left : IsLeft old.session new.session
  pub goes_on : tells ≡ true → TimePasses old.world new.world
  pub file_fault : cause_in result ≡ FileFault → Rose old.session.file_faults new.session.file_faults
  pub busy : cause_in result ≡ Busy → Rose old.session.taken new.session.taken
  pub looks : IsNotBegun tells alone old.world new.world result ⊎ HasBegun tells alone user which old.world new.world result
