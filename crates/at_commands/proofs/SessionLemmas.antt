-- Why a session ended, by its parts.
use Rattle.std.proofs.Common.{◌≡◌, ◌≢◌, Bool, List, ℕ, ap, refl, sym, subst, arith, false}
use Rattle.std.specs.Prelude.{Option, Some, None, Result, Ok, Err, IfErr, IsErrOf}
use Rattle.host_calls.specs.declared.host.Host.{Ghosts}
use Rattle.host_calls.specs.Session.{IsOutside}
use Rattle.host_calls.specs.World.{World}
use Rattle.listing_text.specs.declared.cause.Cause.{Cause}
use Rattle.listing_text.specs.declared.cause.Cause.TheVariants.{Done, Refused, FileFault, InputFault, OutputFault, Busy, Memory}
use Rattle.host_calls.specs.declared.store_fault.StoreFault.{StoreFault}
use Rattle.host_calls.specs.declared.store_fault.StoreFault.TheVariants as store
use Rattle.tool_output.specs.declared.command_error.CommandError.{CommandError}
use Rattle.tool_output.specs.Causes.{cause_in, cause_of, error_of}
use Rattle.command_rules.specs.Sessions.{IsNotOpened, faults, is_damaged, lacks_memory, lists_fault, lists_lack_memory, refuses}
use Rattle.host_calls.proofs.WorldLemmas.{goes_on_none}
use Rattle.job_listing.specs.Scripts.{ComesOfShowing, IsOfShowing}
use Rattle.at_commands.specs.Removal.{ComesOfRemoving, IsRemovalCause}
use Rattle.spool_session.specs.Sessions.{ComesOfSession, HasRisenIn, IsOfSession, StaysQuiet}
use Rattle.at_words.specs.declared.filter.Filter.{Filter}
use Rattle.at_words.specs.declared.filter.Filter.TheVariants as filter
use Rattle.listing_text.specs.declared.refusal.Refusal.{Refusal}
use Rattle.spool_model.specs.JobTable.{JobTable}
use Rattle.command_rules.specs.Ends.{StopsBeforeLock}
use Rattle.command_rules.specs.Verdict.{filter_check, jobs_check}
use Rattle.at_commands.proofs.LateLemmas.{OnTable, jobs_on}
use Rattle.at_commands.specs.inside.Session.{IsNoOutput, IsSpoolCause}
use Rattle.at_commands.proofs.EntryLemmas.{IsOfEntry}

-- no store was had
pub not_opened_comes : (tells : Bool) (user : List ℕ) (old new : World) (cause : Cause)
    → IsNotOpened tells user old new cause → IsOfSession cause
not_opened_comes tells user old new cause (lists_fault same) = tt
not_opened_comes tells user old new cause (lists_lack_memory same) = tt
not_opened_comes tells user old new cause (faults allow deny permits lists unbegun) = tt
not_opened_comes tells user old new cause (lacks_memory allow deny permits lists unbegun) = tt
not_opened_comes tells user old new cause (refuses allow deny refused lists same) = refl
not_opened_comes tells user old new cause (is_damaged damage allow deny permits lists shows) = tt

-- the store stopped
pub store_comes : (fault : StoreFault) → IsOfSession (cause_of fault)
store_comes store.FileFault = tt
store_comes (store.Damaged damage) = tt
store_comes store.QueueFull = refl
store_comes store.NumbersUsedUp = refl
store_comes store.Memory = tt

-- nor does the output fail where none is put
pub not_opened_of_spool : (tells : Bool) (user : List ℕ) (old new : World) (cause : Cause)
    → IsNotOpened tells user old new cause → IsSpoolCause cause
not_opened_of_spool tells user old new cause (lists_fault same) = tt
not_opened_of_spool tells user old new cause (lists_lack_memory same) = tt
not_opened_of_spool tells user old new cause (faults allow deny permits lists unbegun) = tt
not_opened_of_spool tells user old new cause (lacks_memory allow deny permits lists unbegun) = tt
not_opened_of_spool tells user old new cause (refuses allow deny refused lists same) = tt
not_opened_of_spool tells user old new cause (is_damaged damage allow deny permits lists shows) = tt

pub store_of_spool : (fault : StoreFault) → IsSpoolCause (cause_of fault)
store_of_spool store.FileFault = tt
store_of_spool (store.Damaged damage) = tt
store_of_spool store.QueueFull = tt
store_of_spool store.NumbersUsedUp = tt
store_of_spool store.Memory = tt

pub entry_of_spool : (cause : Cause) → IsOfEntry cause → IsSpoolCause cause
entry_of_spool FileFault is = tt
entry_of_spool Busy is = tt
entry_of_spool Memory is = tt
entry_of_spool _ is = absurd is

pub work_of_spool : (cause : Cause) → IsRemovalCause cause → IsSpoolCause cause
work_of_spool FileFault is = tt
work_of_spool Memory is = tt
work_of_spool _ is = absurd is

pub work_of_session : (cause : Cause) → IsRemovalCause cause → IsOfSession cause
work_of_session FileFault is = tt
work_of_session Memory is = tt
work_of_session _ is = absurd is

pub showing_of_session : (cause : Cause) → IsOfShowing cause → IsOfSession cause
showing_of_session FileFault is = tt
showing_of_session OutputFault is = tt
showing_of_session Memory is = tt
showing_of_session _ is = absurd is

-- so neither the inputs nor the output
pub no_input_of_spool : (stopped : CommandError) → IsNoOutput stopped → stopped.cause ≢ InputFault
no_input_of_spool stopped is same = subst IsSpoolCause same is

pub no_output_of_spool : (stopped : CommandError) → IsNoOutput stopped → stopped.cause ≢ OutputFault
no_output_of_spool stopped is same = subst IsSpoolCause same is

pub comes_no_input : {T : Type 0} (result : Result T CommandError) → IfErr result ComesOfSession → cause_in result ≢ InputFault
comes_no_input (Ok value) comes same = let no : Done ≡ InputFault = same in cc
comes_no_input (Err stopped) comes same = subst IsOfSession same comes

pub removing_comes : (result : Result (Unit {0}) CommandError) → IfErr result ComesOfRemoving → IfErr result ComesOfSession
removing_comes (Ok value) comes = tt
removing_comes (Err stopped) comes = work_of_session stopped.cause comes

pub removing_no_output : (result : Result (Unit {0}) CommandError) → IfErr result ComesOfRemoving → IfErr result IsNoOutput
removing_no_output (Ok value) comes = tt
removing_no_output (Err stopped) comes = work_of_spool stopped.cause comes

pub showing_comes : (result : Result (Unit {0}) CommandError) → IfErr result ComesOfShowing → IfErr result ComesOfSession
showing_comes (Ok value) comes = tt
showing_comes (Err stopped) comes = showing_of_session stopped.cause comes

-- the cause of an answer, where it is that of a fault of the output
pub cause_output_fault : {T : Type 0} (result : Result T CommandError) → cause_in result ≡ OutputFault
    → IsErrOf result (error_of OutputFault)
cause_output_fault (Ok value) is = let no : Done ≡ OutputFault = is in cc
cause_output_fault (Err stopped) is = ap (λ (of : Cause). Err (error_of of)) is

-- where no output comes of the spool
pub no_input_in : {T : Type 0} (result : Result T CommandError) → IfErr result IsNoOutput → cause_in result ≢ InputFault
no_input_in (Ok value) is same = let no : Done ≡ InputFault = same in cc
no_input_in (Err stopped) is same = no_input_of_spool stopped is same

pub no_output_in : {T : Type 0} (result : Result T CommandError) → IfErr result IsNoOutput → cause_in result ≢ OutputFault
no_output_in (Ok value) is same = let no : Done ≡ OutputFault = same in cc
no_output_in (Err stopped) is same = no_output_of_spool stopped is same

-- an out-of-memory error comes of the spool
pub memory_comes : {T : Type 0} (result : Result T CommandError) → IfErr result (λ stopped. stopped ≡ error_of Memory)
    → IfErr result ComesOfSession
memory_comes (Ok value) lacks = tt
memory_comes (Err stopped) lacks = subst (λ (of : CommandError). IsOfSession of.cause) (sym lacks) tt

pub memory_no_output : {T : Type 0} (result : Result T CommandError) → IfErr result (λ stopped. stopped ≡ error_of Memory)
    → IfErr result IsNoOutput
memory_no_output (Ok value) lacks = tt
memory_no_output (Err stopped) lacks = subst (λ (of : CommandError). IsSpoolCause of.cause) (sym lacks) tt

-- where the spool stopped the session, its output did not fail
pub no_output_error : {T : Type 0} (result : Result T CommandError) → IfErr result IsNoOutput → IsErrOf result (error_of OutputFault) → ⊥
no_output_error (Ok value) comes is = let no : ◌≡◌ {A = Result _ CommandError} (Ok value) (Err (error_of OutputFault)) = is in cc
no_output_error (Err stopped) comes is =
    let same : stopped ≡ error_of OutputFault = cc in subst (λ (of : CommandError). IsSpoolCause of.cause) same comes

pub no_output_of_stopped : (stopped : CommandError) → IsNoOutput stopped
    → ◌≡◌ {A = Result (Unit {0}) CommandError} (Err stopped) (Err (error_of OutputFault)) → ⊥
no_output_of_stopped stopped of_spool is = no_output_error (Err stopped) of_spool is

-- where nothing was done, the spool stays as it is
pub quiet_none : {H : Type 0} (g : Ghosts H) (at : H) → IsOutside (g.session at) → StaysQuiet g at at
quiet_none g at outside = record {
  left = record {
    outside = outside;
    children = refl;
    counts = record { made_as = refl; file_faults = omega arith; start_faults = omega arith; taken = omega arith };
  };
  goes_on = λ known. goes_on_none (g.world at) (g.world at) refl;
}

-- and no fault came of it, where the cause is none
pub risen_none : {H : Type 0} (g : Ghosts H) (old new : H) (cause : Cause) → (cause ≡ FileFault → ⊥) → (cause ≡ Busy → ⊥) →
    (StopsBeforeLock cause → g.session new ≡ g.session old) → HasRisenIn g old new cause
risen_none g old new cause no_file_fault no_busy same_session = record {
  file_fault = λ same. absurd (no_file_fault same);
  busy = λ same. absurd (no_busy same);
  before_lock = same_session;
}

-- a refusal of the jobs that are requested comes within the session
pub jobs_come : (user : List ℕ) (removing : Bool) (table : JobTable) (numbers : List ℕ) (refusal : Refusal) →
    Some refusal ≡ jobs_check user removing table numbers → IsOfSession (Refused refusal)
jobs_come user removing table numbers refusal is = (subst OnTable (sym is) (jobs_on user removing table numbers)).0.lock

pub filter_comes : (user : List ℕ) (table : JobTable) (which : Filter) (refusal : Refusal) → Some refusal ≡ filter_check user table which
    → IsOfSession (Refused refusal)
filter_comes user table filter.All refusal is = absurd (let no : ◌≡◌ {A = Option Refusal} (Some refusal) None = is in cc)
filter_comes user table (filter.Queue letter) refusal is = absurd (let no : ◌≡◌ {A = Option Refusal} (Some refusal) None = is in cc)
filter_comes user table (filter.Numbers numbers) refusal is = jobs_come user false table numbers refusal is
