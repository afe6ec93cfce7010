-- Rows and finished numbers in their order are lists that a store keeps.
use Rattle.std.proofs.Common.{◌≡◌, ℕ, true, false, List, Option, Some, None, [], ◌∷◌, map, sym, ap, subst, ◌∙◌, refl}
use Rattle.std.specs.Prelude.{IsSome}
use Rattle.std.specs.declared.cmp.Ordering.TheVariants.{Less}
use Rattle.std.specs.FinMap.Entries.{below_all, is_sorted}
use Rattle.std.specs.List.{AllByRecursion}
use Rattle.std.specs.List.Sorted.{IsStrictlySortedBy}
use Rattle.std.specs.Ordering.{is_lt, nat_cmp}
use Rattle.std.proofs.lemmas.Map.Keys.{sorted_head, sorted_tail}
use Rattle.std.proofs.lemmas.Map.Lookups.{exact_unsigned}
use Rattle.spool_model.specs.declared.decided.Decided.{Decided}
use Rattle.spool_model.specs.declared.row.Row.{Row}
use Rattle.spool_model.specs.JobTable.{JobEntry}
use Rattle.start_journal.specs.declared.mark.Mark.{Mark}
use Rattle.std.proofs.lemmas.Bool.{and_from}
use Rattle.spool_shows.specs.JobFiles.{JobFile}
use Rattle.spool_shows.proofs.EntryLists.{key_has}
use Rattle.spool_shows.proofs.Membership.{Has, contained, made_has}
use Rattle.spool_store.specs.Listed.{AreListed, AreSortedEntries, entry_under}
use Rattle.spool_store.specs.inside.JobRows.{IsInOrder, rows_by_number}
use Rattle.spool_store.specs.Rows.{decided_entry, row_entry}
use Rattle.spool_store.specs.inside.Tables.{IsDrawnBy, ListsDrawn, ListsTable}
use Rattle.spool_store.proofs.Listing.{found_in_both, or_else}

below_from : (low : ℕ) (entries : List (ℕ × JobEntry))
    → AllByRecursion (λ other. nat_cmp low other ≡ Less) (map (λ (e : ℕ × JobEntry). e.0) entries) → below_all nat_cmp low entries ≡ true
below_from low [] below = refl
below_from low (entry ∷ later) below =
    and_from (is_lt (nat_cmp low entry.0)) (below_all nat_cmp low later) (ap is_lt below.0) (below_from low later below.1)

rises_from : (entries : List (ℕ × JobEntry)) → IsStrictlySortedBy nat_cmp (map (λ (e : ℕ × JobEntry). e.0) entries)
    → is_sorted nat_cmp entries ≡ true
rises_from [] sorted = refl
rises_from (entry ∷ later) sorted =
    and_from (below_all nat_cmp entry.0 later) (is_sorted nat_cmp later) (below_from entry.0 later (sorted_head nat_cmp _ _ sorted))
    (rises_from later (sorted_tail nat_cmp _ _ sorted))

row_keys : (rows : List Row) → map (λ (row : Row). row.number) rows ≡ map (λ (e : ℕ × JobEntry). e.0) (map row_entry rows)
row_keys [] = refl
row_keys (row ∷ later) = ap (λ keys. row.number ∷ keys) (row_keys later)

numbered_keys : (rows : List Row) → map (λ (e : ℕ × Row). e.0) (rows_by_number rows) ≡ map (λ (e : ℕ × JobEntry). e.0) (map row_entry rows)
numbered_keys [] = refl
numbered_keys (row ∷ later) = ap (λ keys. row.number ∷ keys) (numbered_keys later)

-- the entries of rows in order rise
pub rows_in_order : (rows : List Row) → IsInOrder (rows_by_number rows) → AreSortedEntries (map row_entry rows)
rows_in_order rows rise = rises_from (map row_entry rows) (subst (IsStrictlySortedBy nat_cmp) (numbered_keys rows) rise)

decided_keys : (decided : List Decided)
    → map (λ (one : Decided). one.number) decided ≡ map (λ (e : ℕ × JobEntry). e.0) (map decided_entry decided)
decided_keys [] = refl
decided_keys (one ∷ later) = ap (λ keys. one.number ∷ keys) (decided_keys later)

-- what is found under a number was made of an element of that number
made_under : {X : Type 0} → (make : X → ℕ × JobEntry) (xs : List X) (number : ℕ) (entry : JobEntry)
    → entry_under (map make xs) number ≡ Some entry → (x : X) × Has xs x × ((make x).0 ≡ number)
made_under {X} make xs number entry found =
    let made : (x : X) × Has xs x × (make x ≡ (number, entry)) =
    made_has make xs (number, entry) (key_has nat_cmp exact_unsigned (map make xs) number entry found) in
    (made.0, made.1, ap (λ (pair : ℕ × JobEntry). pair.0) made.2)

none_is_none : IsSome (let none : Option JobEntry = None in none) → ⊥
none_is_none some = let impossible : false ≡ true = some in cc

module _ (last : ℕ) (rows : List Row) (decided : List Decided) (drawn : ListsDrawn last rows decided) where
  live_drawn : (number : ℕ) (entry : JobEntry) → entry_under (map row_entry rows) number ≡ Some entry → IsDrawnBy last number
  live_drawn number entry found =
      let made : (row : Row) × Has rows row × (row.number ≡ number) = made_under row_entry rows number entry found in
      subst (IsDrawnBy last) made.2 (drawn.rows_drawn made.0 (contained rows made.0 made.1))

  done_drawn : (number : ℕ) (entry : JobEntry) → entry_under (map decided_entry decided) number ≡ Some entry → IsDrawnBy last number
  done_drawn number entry found =
      let made : (one : Decided) × Has decided one × (one.number ≡ number) = made_under decided_entry decided number entry found in
      subst (IsDrawnBy last) made.2 (drawn.decided_drawn made.0 (contained decided made.0 made.1))

  each_drawn : (number : ℕ) (live ended : Option JobEntry) → entry_under (map row_entry rows) number ≡ live
      → entry_under (map decided_entry decided) number ≡ ended → IsSome (or_else live ended) → IsDrawnBy last number
  each_drawn number (Some entry) ended found other some = live_drawn number entry found
  each_drawn number None (Some entry) none found some = done_drawn number entry found
  each_drawn number None None none other some = absurd (none_is_none some)

  in_one : (number : ℕ) (live ended : Option JobEntry) → entry_under (map row_entry rows) number ≡ live
      → entry_under (map decided_entry decided) number ≡ ended → IsSome live → ended ≡ None
  in_one number live None found other some = refl
  in_one number None (Some entry) found other some = absurd (none_is_none some)
  in_one number (Some entry) (Some done) found other some =
      let of_row : (row : Row) × Has rows row × (row.number ≡ number) = made_under row_entry rows number entry found in
      let of_one : (one : Decided) × Has decided one × (one.number ≡ number) = made_under decided_entry decided number done other in
      absurd (drawn.apart of_row.0 of_one.0 (contained rows of_row.0 of_row.1) (contained decided of_one.0 of_one.1)
      (of_row.2 ∙ sym of_one.2))

  pub are_listed : (marks : List Mark) (files : List JobFile) → ListsTable last marks files rows decided
      → AreListed last (map row_entry rows) (map decided_entry decided)
  are_listed marks files lists = record {
    live_rise = rises_from (map row_entry rows) (subst (IsStrictlySortedBy nat_cmp) (row_keys rows) lists.rows_rise);
    decided_rise = rises_from (map decided_entry decided) (subst (IsStrictlySortedBy nat_cmp) (decided_keys decided) lists.decided_rise);
    apart = λ number some.
        in_one number (entry_under (map row_entry rows) number) (entry_under (map decided_entry decided) number) refl refl some;
    drawn = λ number some. each_drawn number (entry_under (map row_entry rows) number) (entry_under (map decided_entry decided) number) refl
        refl (subst IsSome (found_in_both (map row_entry rows) (map decided_entry decided) number) some);
  }
