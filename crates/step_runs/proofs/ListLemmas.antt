-- The lists of a table without scripts are those of the table.
use Rattle.std.proofs.Common.{◌≡◌, ℕ, suc, Bool, true, false, cond, List, [], ◌∷◌, length, sym, ap, subst, ◌∙◌, refl}
use Rattle.std.specs.Prelude.{◌&&◌, T, Option}
use Rattle.std.specs.Cmp.{nat_cmp_total}
use Rattle.std.specs.FinMap.{entries, entries_sorted, from_entries, get-entries, get-from_entries, nat_cmp-IsAntisymmetric}
use Rattle.std.specs.FinMap.Entries.{below_all, is_sorted, same_entries}
use Rattle.std.specs.List.{cons_option, filter, filter_map}
use Rattle.std.specs.Ordering.{is_lt, nat_cmp}
use Rattle.spool_model.specs.declared.entry.Entry.TheVariants.{Live, Done}
use Rattle.spool_model.specs.JobTable.{JobEntries, JobEntry}
use Rattle.spool_model.specs.Lists.{done_under, is_done, is_live, row_under}
use Rattle.step_runs.specs.WithoutScripts.{without_scripts, entries_without_scripts, entry_without_script}
use Rattle.step_runs.specs.Laws.{ListsAsOnTheTable}

below_without_scripts : (key : ℕ) (list : List (ℕ × JobEntry))
    → below_all nat_cmp key (entries_without_scripts list) ≡ below_all nat_cmp key list
below_without_scripts key [] = refl
below_without_scripts key (first ∷ later) = ap (λ rest. is_lt (nat_cmp key first.0) && rest) (below_without_scripts key later)

sorted_without_scripts : (list : List (ℕ × JobEntry)) → is_sorted nat_cmp (entries_without_scripts list) ≡ is_sorted nat_cmp list
sorted_without_scripts [] = refl
sorted_without_scripts (first ∷ later) = ap (λ below. below && is_sorted nat_cmp (entries_without_scripts later))
    (below_without_scripts first.0 later) ∙ ap (λ rest. below_all nat_cmp first.0 later && rest) (sorted_without_scripts later)

-- the entries of a table without scripts are its entries without them
listed_without_scripts : (list : JobEntries)
    → entries (from_entries {R = nat_cmp} (entries_without_scripts (entries list))) ≡ entries_without_scripts (entries list)
listed_without_scripts list =
    same_entries nat_cmp nat_cmp_total nat_cmp-IsAntisymmetric (entries (from_entries (entries_without_scripts (entries list))))
    (entries_without_scripts (entries list))
    (entries_sorted (from_entries (entries_without_scripts (entries list))))
    (subst T (sym (sorted_without_scripts (entries list))) (entries_sorted list))
    (λ number. sym (get-entries (from_entries (entries_without_scripts (entries list))) number)
    ∙ get-from_entries nat_cmp_total (entries_without_scripts (entries list)) number)

-- what is made of each entry, and is the same without its script
alike : {B : Type 0} (make : ℕ × JobEntry → Option B) → ((number : ℕ) (entry : JobEntry) → make (number, entry_without_script entry)
    ≡ make (number, entry)) → (list : List (ℕ × JobEntry)) → filter_map make (entries_without_scripts list) ≡ filter_map make list
alike make same [] = refl
alike make same (first ∷ later) = ap (λ made. cons_option made (filter_map make (entries_without_scripts later))) (same first.0 first.1)
    ∙ ap (cons_option (make first)) (alike make same later)

-- and as many entries pass a test that does not look at scripts
counted_alike : (test : JobEntry → Bool) → ((entry : JobEntry) → test (entry_without_script entry) ≡ test entry)
    → (list : List (ℕ × JobEntry)) → length (filter (λ (e : ℕ × JobEntry). test e.1) (entries_without_scripts list))
    ≡ length (filter (λ (e : ℕ × JobEntry). test e.1) list)
counted_alike test same [] = refl
counted_alike test same (first ∷ later) = by_test (test first.1) (same first.1) (counted_alike test same later) where
  by_test : (passes : Bool) → test (entry_without_script first.1) ≡ passes → length
      (filter (λ (e : ℕ × JobEntry). test e.1) (entries_without_scripts later)) ≡ length (filter (λ (e : ℕ × JobEntry). test e.1) later)
      → length (filter (λ (e : ℕ × JobEntry). test e.1) (entries_without_scripts (first ∷ later)))
      ≡ length (cond passes (first ∷ filter (λ (e : ℕ × JobEntry). test e.1) later) (filter (λ (e : ℕ × JobEntry). test e.1) later))
  by_test true is rest = rw is (ap suc rest)
  by_test false is rest = rw is rest

same_row : (number : ℕ) (entry : JobEntry) → row_under number (entry_without_script entry) ≡ row_under number entry
same_row number (Live job state) = refl
same_row number (Done fate) = refl

same_done : (number : ℕ) (entry : JobEntry) → done_under number (entry_without_script entry) ≡ done_under number entry
same_done number (Live job state) = refl
same_done number (Done fate) = refl

lives_alike : (entry : JobEntry) → is_live (entry_without_script entry) ≡ is_live entry
lives_alike (Live job state) = refl
lives_alike (Done fate) = refl

done_alike : (entry : JobEntry) → is_done (entry_without_script entry) ≡ is_done entry
done_alike (Live job state) = refl
done_alike (Done fate) = refl

pub lists_as_on_the_table : ListsAsOnTheTable
unfolding without_scripts
lists_as_on_the_table table =
    let listed : entries (without_scripts table).entries ≡ entries_without_scripts (entries table.entries) =
    listed_without_scripts table.entries in
    record {
      rows = ap (filter_map (λ (entry : ℕ × JobEntry). row_under entry.0 entry.1)) listed
          ∙ alike (λ (entry : ℕ × JobEntry). row_under entry.0 entry.1) same_row (entries table.entries);
      done = ap (filter_map (λ (entry : ℕ × JobEntry). done_under entry.0 entry.1)) listed
          ∙ alike (λ (entry : ℕ × JobEntry). done_under entry.0 entry.1) same_done (entries table.entries);
      live_counted = ap (λ (list : List (ℕ × JobEntry)). length (filter (λ (e : ℕ × JobEntry). is_live e.1) list)) listed
          ∙ counted_alike is_live lives_alike (entries table.entries);
      done_counted = ap (λ (list : List (ℕ × JobEntry)). length (filter (λ (e : ℕ × JobEntry). is_done e.1) list)) listed
          ∙ counted_alike is_done done_alike (entries table.entries);
    }
