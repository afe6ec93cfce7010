-- How the spool is opened, exit by exit.
use Rattle.std.proofs.Common.{◌≡◌, Bool, true, false, List, ℕ, sym, ap, subst, ◌∙◌, refl, inl, inr}
use Rattle.std.specs.Prelude.{Option, Err}
use Rattle.host_calls.specs.World.{World, reading}
use Rattle.whole_file.specs.Others.{ChangesFiles}
use Rattle.access_lists.specs.Access.{may_use}
use Rattle.spool_shows.specs.Shown.{shown_by}
use Rattle.step_runs.specs.Calls.{ShowsAsBefore}
use Rattle.step_runs.specs.Current.{Kept}
use Rattle.step_runs.proofs.AttemptLemmas.{recoveries_begin_nothing}
use Rattle.host_calls.specs.Damages.{IfDamaged}
use Rattle.host_calls.specs.declared.fault.HostFault.{HostFault}
use Rattle.host_calls.specs.declared.fault.HostFault.TheVariants as host
use Rattle.host_calls.specs.declared.store_fault.StoreFault.{StoreFault}
use Rattle.host_calls.specs.declared.store_fault.StoreFault.TheVariants as store
use Rattle.host_calls.specs.StoreFaults.{IsReadingFault}
use Rattle.spool_store.specs.Recovery.{IsRecovered, Recovered}
use Rattle.tool_output.specs.Causes.{cause_of, cause_of_host}
use Rattle.command_rules.specs.Sessions.{AreListsIn, IsNotOpened, IsStoreOpened, faults, lists_lack_memory, is_damaged, lacks_memory, lists_fault}

-- a list could not be read
pub lists_unread : (tells : Bool) (user : List ℕ) (old new : World) (fault : HostFault) → (tells ≡ true → new ≡ old) →
    IsNotOpened tells user old new (cause_of_host fault)
lists_unread tells user old new host.Failed same = lists_fault same
lists_unread tells user old new host.Memory same = lists_lack_memory same

module _ (tells : Bool) (user : List ℕ) (allow deny : Option (List ℕ)) (old middle new : World)
    (permits : may_use user allow deny ≡ true) (looks : tells ≡ true → middle ≡ old)
    (lists : tells ≡ true → AreListsIn (reading old) allow deny)
    (changes : tells ≡ true → ChangesFiles (ShowsAsBefore middle.now.directory) middle new) where
  changed : tells ≡ true → ChangesFiles (ShowsAsBefore old.now.directory) old new
  changed known = subst (λ (from : World). ChangesFiles (ShowsAsBefore from.now.directory) from new) (looks known) (changes known)

  -- no store was recovered
  pub unrecovered : (fault : StoreFault) → IsReadingFault fault
      → (tells ≡ true → Recovered middle.now.directory new.now.directory (Err fault)) →
      (tells ≡ true → IfDamaged {T = Kept} store.Damaged (λ damage. reading new ≡ reading middle) (Err fault)) →
      IsNotOpened tells user old new (cause_of fault)
  unrecovered store.FileFault of_reading recovered untouched =
      faults allow deny permits lists (λ known. recoveries_begin_nothing old new (changed known))
  unrecovered store.Memory of_reading recovered untouched =
      lacks_memory allow deny permits lists (λ known. recoveries_begin_nothing old new (changed known))
  unrecovered (store.Damaged damage) of_reading recovered untouched =
      is_damaged damage allow deny permits lists (λ known. record {
        shown = sym (ap (λ (world : World). shown_by (reading world)) (looks known)) ∙ recovered known;
        unbegun = recoveries_begin_nothing old new (changed known);
        same = untouched known damage refl ∙ ap reading (looks known);
      })
  unrecovered _ of_reading recovered untouched = absurd of_reading

-- the store was recovered: its table is the one that the reading showed, or, where no files are exposed, the one that is
-- kept
pub store_opened : (tells : Bool) (user : List ℕ) (allow deny : Option (List ℕ)) (old middle new : World) (kept : Kept) →
    may_use user allow deny ≡ true → (tells ≡ true → middle ≡ old) → (tells ≡ true → AreListsIn (reading old) allow deny) →
    (tells ≡ true → ChangesFiles (ShowsAsBefore middle.now.directory) middle new) →
    (tells ≡ true → IsRecovered middle.now.directory new.now.directory kept) → IsStoreOpened tells user old new kept
store_opened true user allow deny old middle new kept permits looks lists changes recovered =
    let is : IsRecovered old.now.directory new.now.directory kept =
    subst (λ (from : World). IsRecovered from.now.directory new.now.directory kept) (looks refl) (recovered refl) in
    record {
      allow = allow;
      deny = deny;
      table = is.table;
      permits = permits;
      keeps = inl is.current.without_scripts_is;
      lists = lists;
      recovered = λ known. record {
        shown = is.shown;
        changes = subst (λ (from : World). ChangesFiles (ShowsAsBefore from.now.directory) from new) (looks refl) (changes refl);
        others = is.others;
        current = is.current;
      };
    }
store_opened false user allow deny old middle new kept permits looks lists changes recovered = record {
  allow = allow;
  deny = deny;
  table = kept.table;
  permits = permits;
  keeps = inr refl;
  lists = lists;
  recovered = λ known. let no : false ≡ true = known in cc;
}
