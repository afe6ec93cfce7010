-- The checks within a session come after those before it.
use Rattle.std.proofs.Common.{◌≡◌, Bool, true, false, ℕ, List, [], ◌∷◌, refl, inl, inr, cond, arith}
use Rattle.std.proofs.lemmas.Bool.Decides.{nat_tests}
use Rattle.std.specs.Prelude.{◌&&◌, Option, Some, None, Result, Ok, Err, map, nat_le, nat_lt}
use Rattle.access_lists.specs.Access.{may_use}
use Rattle.at_words.specs.declared.filter.Filter.TheVariants as filter
use Rattle.at_words.specs.declared.tool_request.ToolRequest.{ToolRequest}
use Rattle.at_words.specs.declared.tool_request.ToolRequest.TheVariants as request
use Rattle.spool_model.specs.Lists.{is_running, live_count}
use Rattle.host_calls.specs.declared.damage.Damage.{Damage}
use Rattle.listing_text.specs.declared.cause.Cause.TheVariants.{Busy, FileFault, InputFault, Memory}
use Rattle.listing_text.specs.declared.refusal.Refusal.{Refusal}
use Rattle.listing_text.specs.declared.refusal.Refusal.TheVariants.{NotAllowed, NotYours, NumbersUsedUp, QueueFull, RunningJob}
use Rattle.listing_text.specs.Listing.{may_see}
use Rattle.spool_model.specs.declared.number.TheConstants.{LAST_NUMBER}
use Rattle.spool_model.specs.declared.row.Row.{Row}
use Rattle.spool_model.specs.JobTable.{JobTable}
use Rattle.spool_model.specs.declared.row.TheConstants.{MAX_LIVE}
use Rattle.tool_output.specs.declared.caller.Caller.{Caller}
use Rattle.command_rules.specs.Checks.{Check, ComesUpTo, check_of, is_earlier_check, of_spool, of_input, of_lists, of_lock, place_of_check}
use Rattle.command_rules.specs.Ends.{KeepsOrder}
use Rattle.command_rules.specs.Found.{Found}
use Rattle.command_rules.specs.Verdict.{first_refusal, jobs_check, number_check, room_check, live_row, row_check, spool_verdict, table_verdict}

-- a check within a session
pub record IsLate (check : Check) : Type 0 where
  pub input : is_earlier_check of_input check ≡ true
  pub lock : is_earlier_check of_lock check ≡ true

abbrev pub AllLate : Option Refusal → Type 0
AllLate None = Unit {0}
AllLate (Some refusal) = IsLate (check_of refusal)

-- a check on the table
abbrev pub OnTable : Option Refusal → Type 0
OnTable None = Unit {0}
OnTable (Some refusal) = IsLate (check_of refusal) × (is_earlier_check of_spool (check_of refusal) ≡ true)

at_test : (test : Bool) (refusal : Refusal) → OnTable (Some refusal) → OnTable (cond test (Some refusal) None)
at_test true refusal on = on
at_test false refusal on = tt

-- the first of two, each on the table
first_on : (one two : Option Refusal) → OnTable one → OnTable two → OnTable (first_refusal (one ∷ two ∷ []))
first_on (Some refusal) two on later = on
first_on None (Some refusal) on later = later
first_on None None on later = tt

alone_on : (one : Option Refusal) → OnTable one → OnTable (first_refusal (one ∷ []))
alone_on (Some refusal) on = on
alone_on None on = tt

row_on : (user : List ℕ) (removing : Bool) (number : ℕ) (row : Option Row) → OnTable (row_check user removing number row)
row_on user removing number None = (record { input = refl; lock = refl }, refl)
row_on user removing number (Some row) = by_tests (may_see user row) (removing && is_running row.state) where
  by_tests : (seen runs : Bool) → OnTable (cond seen (cond runs (Some (RunningJob number)) None) (Some (NotYours number)))
  by_tests true true = (record { input = refl; lock = refl }, refl)
  by_tests true false = tt
  by_tests false runs = (record { input = refl; lock = refl }, refl)

first_more : (one : Option Refusal) (later : List (Option Refusal)) → OnTable one → OnTable (first_refusal later)
    → OnTable (first_refusal (one ∷ later))
first_more (Some refusal) later on after = on
first_more None later on after = after

pub jobs_on : (user : List ℕ) (removing : Bool) (table : JobTable) (numbers : List ℕ) → OnTable (jobs_check user removing table numbers)
jobs_on user removing table [] = tt
jobs_on user removing table (number ∷ later) =
    first_more (row_check user removing number (live_row table number))
    (map (λ of. row_check user removing of (live_row table of)) later)
    (row_on user removing number (live_row table number)) (jobs_on user removing table later)

-- a refusal on the table comes of one of its checks
pub table_on : (asked : ToolRequest) (caller : Caller) (shown : Result JobTable Damage) → OnTable (table_verdict asked caller shown)
table_on asked caller (Err damage) = tt
table_on (request.Submit queue mail file when) caller (Ok table) =
    first_on (room_check table) (number_check table)
    (at_test (nat_le MAX_LIVE (live_count table)) QueueFull (record { input = refl; lock = refl }, refl))
    (at_test (nat_le LAST_NUMBER table.last) NumbersUsedUp (record { input = refl; lock = refl }, refl))
table_on (request.List filter.All) caller (Ok table) = tt
table_on (request.List (filter.Queue letter)) caller (Ok table) = tt
table_on (request.List (filter.Numbers numbers)) caller (Ok table) =
    alone_on (jobs_check caller.context.user false table numbers) (jobs_on caller.context.user false table numbers)
table_on (request.Remove numbers) caller (Ok table) =
    alone_on (jobs_check caller.context.user true table numbers) (jobs_on caller.context.user true table numbers)
table_on (request.Show numbers) caller (Ok table) =
    alone_on (jobs_check caller.context.user false table numbers) (jobs_on caller.context.user false table numbers)
table_on (request.Daemon limit interval once turns) caller (Ok table) = tt
table_on (request.Make count) caller (Ok table) = tt

-- a refusal within a session comes of a late check
spool_late_by : (permits : Bool) (verdict : Option Refusal) → OnTable verdict
    → AllLate (first_refusal (cond permits None (Some NotAllowed) ∷ verdict ∷ []))
spool_late_by false verdict on = record { input = refl; lock = refl }
spool_late_by true None on = tt
spool_late_by true (Some refusal) on = on.0

pub spool_late : (asked : ToolRequest) (caller : Caller) (found : Found) (shown : Result JobTable Damage)
    → AllLate (spool_verdict asked caller found shown)
spool_late asked caller found shown =
    spool_late_by (may_use caller.context.user found.allow found.deny) (table_verdict asked caller shown) (table_on asked caller shown)

-- Faults that come before each late check keep the order of such a verdict.

pub late_input : (verdict : Option Refusal) → AllLate verdict → KeepsOrder verdict InputFault
late_input None late = tt
late_input (Some refusal) late = inr (inr late.input)

pub late_busy : (verdict : Option Refusal) → AllLate verdict → KeepsOrder verdict Busy
late_busy None late = tt
late_busy (Some refusal) late = inr (inr late.lock)

pub late_file_fault : (verdict : Option Refusal) → AllLate verdict → KeepsOrder verdict FileFault
late_file_fault None late = tt
late_file_fault (Some refusal) late = inr (inr late.lock)

pub any_memory : (verdict : Option Refusal) → KeepsOrder verdict Memory
any_memory None = tt
any_memory (Some refusal) = inr (inl refl)

-- How far a command comes whose refusal is late.

-- a check after the lock is not before one that is not after it, nor before the lists
not_earlier : (place reached : ℕ) → nat_lt 11 place ≡ true → nat_lt reached 11 ≡ true → nat_lt place reached ≡ false
not_earlier place reached late ahead = grind (arith, nat_tests)

not_at_lock : (place : ℕ) → nat_lt 11 place ≡ true → nat_lt place 11 ≡ false
not_at_lock place late = grind (arith, nat_tests)

not_at_lists : (place : ℕ) → nat_lt 11 place ≡ true → nat_lt place 12 ≡ false
not_at_lists place late = grind (arith, nat_tests)

not_at_directory : (place : ℕ) → nat_lt 14 place ≡ true → nat_lt place 14 ≡ false
not_at_directory place after = grind (arith, nat_tests)

pub late_up_to : (verdict : Option Refusal) (reached : Check) → AllLate verdict → is_earlier_check reached of_lock ≡ true
    → ComesUpTo verdict reached
late_up_to None reached late ahead = tt
late_up_to (Some refusal) reached late ahead = not_earlier (place_of_check (check_of refusal)) (place_of_check reached) late.lock ahead

pub late_up_to_lock : (verdict : Option Refusal) → AllLate verdict → ComesUpTo verdict of_lock
late_up_to_lock None late = tt
late_up_to_lock (Some refusal) late = not_at_lock (place_of_check (check_of refusal)) late.lock

pub late_up_to_lists : (verdict : Option Refusal) → AllLate verdict → ComesUpTo verdict of_lists
late_up_to_lists None late = tt
late_up_to_lists (Some refusal) late = not_at_lists (place_of_check (check_of refusal)) late.lock

pub table_up_to_directory : (verdict : Option Refusal) → OnTable verdict → ComesUpTo verdict of_spool
table_up_to_directory None on = tt
table_up_to_directory (Some refusal) on = not_at_directory (place_of_check (check_of refusal)) on.1

-- where the lists permit the user, the table decides
pub permitted : (asked : ToolRequest) (caller : Caller) (found : Found) (shown : Result JobTable Damage) →
    may_use caller.context.user found.allow found.deny ≡ true → spool_verdict asked caller found shown ≡ table_verdict asked caller shown
permitted asked caller found shown permits = rw permits (by_verdict (table_verdict asked caller shown)) where
  by_verdict : (verdict : Option Refusal) → first_refusal (verdict ∷ []) ≡ verdict
  by_verdict None = refl
  by_verdict (Some refusal) = refl

-- and where they don't, they do
pub not_permitted : (asked : ToolRequest) (caller : Caller) (found : Found) (shown : Result JobTable Damage) →
    may_use caller.context.user found.allow found.deny ≡ false → spool_verdict asked caller found shown ≡ Some NotAllowed
not_permitted asked caller found shown refuses = rw refuses refl
