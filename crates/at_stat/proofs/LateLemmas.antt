-- Why a session that looks was stopped.
use Rattle.std.proofs.Common.{◌≡◌, Bool, true, false, ℕ, List, [], ◌∷◌, cond, refl, sym, subst, ap, inl, inr}
use Rattle.std.specs.Prelude.{◌&&◌, Option, Some, None, Err, map, nat_le}
use Rattle.at_words.specs.declared.filter.Filter.{Filter}
use Rattle.at_words.specs.declared.filter.Filter.TheVariants as filter
use Rattle.tool_output.specs.Causes.{cause_in, cause_of_entry}
use Rattle.tool_output.specs.declared.command_error.CommandError.{CommandError}
use Rattle.tool_output.specs.Outside.{Telling}
use Rattle.command_rules.specs.Checks.{check_of, is_earlier_check, of_lock}
use Rattle.command_rules.specs.Sessions.{IsNotOpened, faults, is_damaged, lacks_memory, lists_fault, lists_lack_memory, refuses}
use Rattle.command_rules.specs.Verdict.{first_refusal, live_row}
use Rattle.host_calls.specs.declared.fault.EnterFault.{EnterFault}
use Rattle.host_calls.specs.declared.fault.EnterFault.TheVariants as entry
use Rattle.host_calls.specs.World.{World}
use Rattle.listing_text.specs.declared.cause.Cause.{Cause}
use Rattle.listing_text.specs.declared.cause.Cause.TheVariants.{Busy, Damaged, FileFault, Memory, Refused}
use Rattle.listing_text.specs.declared.refusal.Refusal.{Refusal}
use Rattle.listing_text.specs.declared.refusal.Refusal.TheVariants.{NoSuchJob, NotYours}
use Rattle.listing_text.specs.Listing.{may_see}
use Rattle.spool_model.specs.declared.row.Row.{Row}
use Rattle.spool_model.specs.JobTable.{JobTable}
use Rattle.spool_session.specs.Sessions.{IsOfSession}
use Rattle.step_runs.specs.Current.{Kept}
use Rattle.at_stat.specs.Checks.{named_check, numbers_check, owner_check, which_check}
use Rattle.at_stat.specs.OneLook.{LooksInside}
use Rattle.at_stat.specs.WaitSessions.{HasStopped, LooksAt, StopsStatAfter, WaitAt, at_first, at_later}

-- a refusal within a session
abbrev IsLate : Option Refusal → Type 0
IsLate None = Unit {0}
IsLate (Some refusal) = is_earlier_check of_lock (check_of refusal) ≡ true

owner_late : (user : List ℕ) (number : ℕ) (row : Option Row) → IsLate (owner_check user number row)
owner_late user number None = tt
owner_late user number (Some row) = by_test (may_see user row) where
  by_test : (sees : Bool) → IsLate (cond sees None (Some (NotYours number)))
  by_test true = tt
  by_test false = refl

number_late : (user : List ℕ) (table : JobTable) (number : ℕ) → IsLate (named_check user table number)
number_late user table number = by_test (nat_le 1 number && nat_le number table.last) (owner_late user number (live_row table number)) where
  by_test : (drawn : Bool) → IsLate (owner_check user number (live_row table number))
      → IsLate (cond drawn (owner_check user number (live_row table number)) (Some (NoSuchJob number)))
  by_test true late = late
  by_test false late = refl

numbers_late : (user : List ℕ) (table : JobTable) (numbers : List ℕ) → IsLate (numbers_check user table numbers)
numbers_late user table [] = tt
numbers_late user table (number ∷ later) =
    by_first (named_check user table number) (number_late user table number) (numbers_late user table later)
  where
    by_first : (first : Option Refusal) → IsLate first → IsLate (numbers_check user table later)
        → IsLate (first_refusal (first ∷ map (λ one. named_check user table one) later))
    by_first None late others = others
    by_first (Some refusal) late others = late

which_late : (user : List ℕ) (table : JobTable) (which : Filter) → IsLate (which_check user table which)
which_late user table filter.All = tt
which_late user table (filter.Queue letter) = tt
which_late user table (filter.Numbers named) = numbers_late user table named

pub denied_comes : (user : List ℕ) (table : JobTable) (which : Filter) (refusal : Refusal) → Some refusal ≡ which_check user table which
    → IsOfSession (Refused refusal)
denied_comes user table which refusal is = subst IsLate (sym is) (which_late user table which)

-- a fault of the directory or of memory, a damage, a lock that was taken, or a refusal
abbrev pub IsOfSpool : Cause → Type 0
IsOfSpool FileFault = Unit {0}
IsOfSpool Memory = Unit {0}
IsOfSpool Busy = Unit {0}
IsOfSpool (Refused refusal) = Unit {0}
IsOfSpool (Damaged damage) = Unit {0}
IsOfSpool _ = ⊥

entry_of_spool : (fault : EnterFault) → IsOfSpool (cause_of_entry fault)
entry_of_spool entry.Taken = tt
entry_of_spool entry.Failed = tt
entry_of_spool entry.Memory = tt

not_opened_of_spool : (tells : Bool) (user : List ℕ) (old new : World) (cause : Cause)
    → IsNotOpened tells user old new cause → IsOfSpool cause
not_opened_of_spool tells user old new cause (lists_fault same) = tt
not_opened_of_spool tells user old new cause (lists_lack_memory same) = tt
not_opened_of_spool tells user old new cause (faults allow deny permits lists unbegun) = tt
not_opened_of_spool tells user old new cause (lacks_memory allow deny permits lists unbegun) = tt
not_opened_of_spool tells user old new cause (refuses allow deny refused lists same) = tt
not_opened_of_spool tells user old new cause (is_damaged damage allow deny permits lists shows) = tt

look_of_spool : (tells : Telling) (user : List ℕ) (which : Filter) (old new : WaitAt) (stopped : CommandError)
    → LooksAt tells user which old new (Err stopped) → IsOfSpool stopped.cause
look_of_spool tells user which old new stopped look = elim look.spool.looks [
  | inl none ↦ subst IsOfSpool (sym (ap cause_in none.is)) (entry_of_spool none.fault)
  | inr begun ↦ inside begun.entered begun.left begun.inside
] where
  inside : (entered left : World) → LooksInside tells.files user which entered left (Err stopped) → IsOfSpool stopped.cause
  inside entered left (inl closed) = not_opened_of_spool tells.files user entered left stopped.cause closed
  inside entered left (inr denied) = subst IsOfSpool (sym denied.cause_is) tt

after_of_spool : (tells : Telling) (user : List ℕ) (wait : Option ℕ) (which : Filter) (seen : Kept) (start new : WaitAt)
    (stopped : CommandError)
    → StopsStatAfter tells user wait which seen start new stopped → IsOfSpool stopped.cause
after_of_spool tells user None which seen start new stopped stops = absurd stops
after_of_spool tells user (Some turns) which seen start new stopped (inl memory) =
    subst (λ (one : CommandError). IsOfSpool one.cause) (sym memory.1) tt
after_of_spool tells user (Some turns) which seen start new stopped (inr stops) =
    look_of_spool tells user which stops.rested new stopped stops.stops

pub stopped_of_spool : (tells : Telling) (user : List ℕ) (wait : Option ℕ) (which : Filter) (old new : WaitAt) (stopped : CommandError)
    → HasStopped tells user wait which old new stopped → IsOfSpool stopped.cause
stopped_of_spool tells user wait which old new stopped (at_first look) = look_of_spool tells user which old new stopped look
stopped_of_spool tells user wait which old new stopped (at_later seen start look stops) =
    after_of_spool tells user wait which seen start new stopped stops
