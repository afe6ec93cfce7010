-- How many jobs live after one more entry was put.
use Rattle.std.proofs.Common.{ℕ, ◌+◌, ◌≤◌, Bool, true, false, cond, List, [], ◌∷◌, length, sym, subst, arith}
use Rattle.std.specs.Cmp.{nat_cmp_total}
use Rattle.std.specs.FinMap.{entries, entries-insert}
use Rattle.std.specs.FinMap.Entries.{by_order, put}
use Rattle.std.specs.List.{filter}
use Rattle.std.specs.Ordering.{nat_cmp}
use Rattle.std.specs.declared.cmp.Ordering.{Ordering}
use Rattle.std.specs.declared.cmp.Ordering.TheVariants.{Less, Equal, Greater}
use Rattle.spool_model.specs.declared.entry.Entry.TheVariants.{Live}
use Rattle.spool_model.specs.declared.state.State.TheVariants.{Pending}
use Rattle.spool_model.specs.JobTable.{JobEntry}
use Rattle.spool_model.specs.Lists.{is_live}
use Rattle.spool_store.specs.Laws.{SubmissionsAddOneJob}

-- how many of the entries live
abbrev live_in : List (ℕ × JobEntry) → ℕ
live_in list = length (filter (λ (e : ℕ × JobEntry). is_live e.1) list)

-- one more entry is at most one more, and never one less
at_most_one : (entry : ℕ × JobEntry) (list : List (ℕ × JobEntry)) → live_in (entry ∷ list) ≤ live_in list + 1
at_most_one entry list = by_test (is_live entry.1) where
  by_test : (lives : Bool) → length (cond lives (entry ∷ filter (λ (e : ℕ × JobEntry). is_live e.1) list)
      (filter (λ (e : ℕ × JobEntry). is_live e.1) list)) ≤ live_in list + 1
  by_test true = omega arith
  by_test false = omega arith

no_fewer : (entry : ℕ × JobEntry) (list : List (ℕ × JobEntry)) → live_in list ≤ live_in (entry ∷ list)
no_fewer entry list = by_test (is_live entry.1) where
  by_test : (lives : Bool) → live_in list
      ≤ length (cond lives (entry ∷ filter (λ (e : ℕ × JobEntry). is_live e.1) list) (filter (λ (e : ℕ × JobEntry). is_live e.1) list))
  by_test true = omega arith
  by_test false = omega arith

same_first : (entry : ℕ × JobEntry) (list other : List (ℕ × JobEntry)) → live_in list ≤ live_in other + 1
    → live_in (entry ∷ list) ≤ live_in (entry ∷ other) + 1
same_first entry list other few = by_test (is_live entry.1) where
  by_test : (lives : Bool)
      → length (cond lives (entry ∷ filter (λ (e : ℕ × JobEntry). is_live e.1) list) (filter (λ (e : ℕ × JobEntry). is_live e.1) list))
      ≤ length (cond lives (entry ∷ filter (λ (e : ℕ × JobEntry). is_live e.1) other) (filter (λ (e : ℕ × JobEntry). is_live e.1) other))
      + 1
  by_test true = omega (arith, few)
  by_test false = few

-- so it is of an entry that is put
put_adds_one : (number : ℕ) (entry : JobEntry) (list : List (ℕ × JobEntry)) → live_in (put nat_cmp number entry list) ≤ live_in list + 1
put_adds_one number entry [] = at_most_one (number, entry) []
put_adds_one number entry (first ∷ later) = by_cmp (nat_cmp number first.0) (put_adds_one number entry later) where
  by_cmp : (order : Ordering) → live_in (put nat_cmp number entry later) ≤ live_in later + 1
      → live_in (by_order order ((number, entry) ∷ first ∷ later) ((first.0, entry) ∷ later) (first ∷ put nat_cmp number entry later))
      ≤ live_in (first ∷ later) + 1
  by_cmp Less rest = at_most_one (number, entry) (first ∷ later)
  by_cmp Equal rest = omega (arith, at_most_one (first.0, entry) later, no_fewer first later)
  by_cmp Greater rest = same_first first (put nat_cmp number entry later) later rest

pub submissions_add_one_job : SubmissionsAddOneJob
submissions_add_one_job table job =
    subst (λ (list : List (ℕ × JobEntry)). live_in list ≤ live_in (entries table.entries) + 1)
    (sym (entries-insert nat_cmp_total table.entries (table.last + 1) (Live job Pending)))
    (put_adds_one (table.last + 1) (Live job Pending) (entries table.entries))
