-- The two lists of a store: what is under a number, and one change of both.
use Rattle.std.proofs.Common.{◌≡◌, ℕ, ◌+◌, ◌≤◌, ◌<◌, Bool, true, false, cond, List, [], ◌∷◌, ◌++◌, map, refl, sym, ap, subst, ◌∙◌, inl, inr, arith}
use Rattle.std.specs.Prelude.{ℤ, Option, Some, None, IsSome, nat_eq}
use Rattle.std.specs.Cmp.{nat_cmp_total}
use Rattle.std.specs.Ordering.{eq_by_cmp, nat_cmp}
use Rattle.std.specs.FinMap as finite
use Rattle.std.specs.FinMap.{from_entries, get-from_entries, nat_cmp-IsAntisymmetric, same_map}
use Rattle.std.proofs.lemmas.Bool.Decides.{eqb_tells}
use Rattle.std.proofs.lemmas.Map.Lookups.{exact_unsigned}
use Rattle.spool_model.specs.declared.decided.Decided.{Decided}
use Rattle.spool_model.specs.declared.entry.Entry.TheVariants.{Live, Done}
use Rattle.spool_model.specs.declared.fate.Fate.{Fate}
use Rattle.spool_model.specs.declared.job.Job.{Job}
use Rattle.spool_model.specs.declared.row.Row.{Row}
use Rattle.spool_model.specs.JobTable.{JobEntry, JobState, JobTable, entry_at, table_of}
use Rattle.spool_model.specs.Steps.{IsFree}
use Rattle.spool_model.proofs.TableLemmas.{get-put, get-taken}
use Rattle.spool_store.specs.Listed.{AreListed, IsEdited, ListsDecided, ListsLive, AreSortedEntries, entry_under}
use Rattle.spool_store.specs.Rows.{decided_entry, listed_table, row_entry}
use Rattle.spool_shows.proofs.EntryLists.{has_key, key_has}
use Rattle.spool_shows.proofs.Membership.{Has, contained, has_contained, has_made, made_has, none_some}
use Rattle.spool_store.proofs.Edits.{test_from}

-- the first of two that there is
abbrev pub or_else : Option JobEntry → Option JobEntry → Option JobEntry
or_else (Some entry) other = Some entry
or_else None other = other

pub found_in_both : (live decided : List (ℕ × JobEntry)) (number : ℕ)
    → entry_under (live ++ decided) number ≡ or_else (entry_under live number) (entry_under decided number)
found_in_both [] decided number = refl
found_in_both (e ∷ later) decided number = by_test (eq_by_cmp nat_cmp number e.0) (found_in_both later decided number) where
  by_test : (b : Bool) → entry_under (later ++ decided) number ≡ or_else (entry_under later number) (entry_under decided number)
      → cond b (Some e.1) (entry_under (later ++ decided) number)
      ≡ or_else (cond b (Some e.1) (entry_under later number)) (entry_under decided number)
  by_test true rest = refl
  by_test false rest = rest

-- a list in order that has nothing under a number, and still has nothing there
pub unedited : (entries : List (ℕ × JobEntry)) (number : ℕ) → AreSortedEntries entries → entry_under entries number ≡ None
    → IsEdited entries entries number None
unedited entries number rise absent = record {
  rise = rise;
  finds = λ other. elim (eqb_tells other number) [
    | inl same ↦ ap (entry_under entries) same.1 ∙ absent ∙ sym (ap (λ b. cond b None (entry_under entries other)) same.0)
    | inr apart ↦ sym (ap (λ b. cond b None (entry_under entries other)) apart.0)
  ];
}

-- what an edited list has under the number, and under another
here_is : (old new : List (ℕ × JobEntry)) (number other : ℕ) (put : Option JobEntry) → IsEdited old new number put
    → nat_eq other number ≡ true → entry_under new other ≡ put
here_is old new number other put edit same = edit.finds other ∙ ap (λ b. cond b put (entry_under old other)) same

others_are : (old new : List (ℕ × JobEntry)) (number other : ℕ) (put : Option JobEntry) → IsEdited old new number put
    → nat_eq other number ≡ false → entry_under new other ≡ entry_under old other
others_are old new number other put edit apart = edit.finds other ∙ ap (λ b. cond b put (entry_under old other)) apart

-- both lists after one edit of each, of which at most one puts something there
module _ (live decided new_live new_decided : List (ℕ × JobEntry)) (number : ℕ) (here there : Option JobEntry)
    (of_live : IsEdited live new_live number here) (of_decided : IsEdited decided new_decided number there) where
  found_after : (other : ℕ)
      → entry_under (new_live ++ new_decided) other ≡ cond (nat_eq other number) (or_else here there) (entry_under (live ++ decided) other)
  found_after other =
      found_in_both new_live new_decided other ∙ (λ i. or_else (of_live.finds other i) (of_decided.finds other i))
      ∙ by_test (nat_eq other number)
      ∙ ap (λ held. cond (nat_eq other number) (or_else here there) held) (sym (found_in_both live decided other)) where
        by_test : (b : Bool) → or_else (cond b here (entry_under live other)) (cond b there (entry_under decided other))
            ≡ cond b (or_else here there) (or_else (entry_under live other) (entry_under decided other))
        by_test true = refl
        by_test false = refl

  pub still_listed : (last : ℕ) → AreListed last live decided → (IsSome here → there ≡ None) → (1 ≤ number) × (number ≤ last)
      → AreListed last new_live new_decided
  still_listed last listed one drawn = record {
    live_rise = of_live.rise;
    decided_rise = of_decided.rise;
    apart = λ other some. elim (eqb_tells other number) [
      | inl same ↦ here_is decided new_decided number other there of_decided same.0
          ∙ one (subst IsSome (here_is live new_live number other here of_live same.0) some)
      | inr apart ↦ others_are decided new_decided number other there of_decided apart.0
          ∙ listed.apart other (subst IsSome (others_are live new_live number other here of_live apart.0) some)
    ];
    drawn = λ other some. elim (eqb_tells other number) [
      | inl same ↦ subst (λ at. (1 ≤ at) × (at ≤ last)) (sym same.1) drawn
      | inr apart ↦ listed.drawn other
          (subst IsSome (found_after other ∙ ap (λ b. cond b (or_else here there) (entry_under (live ++ decided) other)) apart.0) some)
    ];
  }

  pub entries_put : (entry : JobEntry) → or_else here there ≡ Some entry
      → from_entries {R = nat_cmp} (new_live ++ new_decided) ≡ finite.insert (from_entries (live ++ decided)) number entry
  entries_put entry put = same_map nat_cmp_total nat_cmp-IsAntisymmetric _ _ (λ other.
      get-from_entries nat_cmp_total (new_live ++ new_decided) other ∙ found_after other
      ∙ (λ i. cond (nat_eq other number) (put i) (sym (get-from_entries nat_cmp_total (live ++ decided) other) i))
      ∙ sym (get-put (from_entries (live ++ decided)) number other entry))

  pub entries_taken : or_else here there ≡ None
      → from_entries {R = nat_cmp} (new_live ++ new_decided) ≡ finite.remove (from_entries (live ++ decided)) number
  entries_taken none = same_map nat_cmp_total nat_cmp-IsAntisymmetric _ _ (λ other.
      get-from_entries nat_cmp_total (new_live ++ new_decided) other ∙ found_after other
      ∙ (λ i. cond (nat_eq other number) (none i) (sym (get-from_entries nat_cmp_total (live ++ decided) other) i))
      ∙ sym (get-taken (from_entries (live ++ decided)) number other))

-- a greater last number
pub still_drawn : (last : ℕ) (live decided : List (ℕ × JobEntry)) → AreListed last live decided → AreListed (last + 1) live decided
still_drawn last live decided listed = record {
  live_rise = listed.live_rise;
  decided_rise = listed.decided_rise;
  apart = listed.apart;
  drawn = λ number some. let drawn : (1 ≤ number) × (number ≤ last) = listed.drawn number some in (drawn.0, omega (arith, drawn.1));
}

-- nothing is not an entry
pub no_entry : IsSome (let none : Option JobEntry = None in none) → ⊥
no_entry some = let impossible : false ≡ true = some in cc

-- no finished number is live, and no row is done
live_not_done : (decided : List Decided) (number : ℕ) (job : Job) (state : JobState)
    → entry_under (map decided_entry decided) number ≡ Some (Live job state) → ⊥
live_not_done decided number job state found =
    let made : (done : Decided) × Has decided done × (decided_entry done ≡ (number, Live job state)) = made_has decided_entry decided
    (number, Live job state) (key_has nat_cmp exact_unsigned (map decided_entry decided) number (Live job state) found) in
    let impossible : Done made.0.fate ≡ Live job state = ap (λ (pair : ℕ × JobEntry). pair.1) made.2 in
    cc

done_not_live : (rows : List Row) (number : ℕ) (fate : Fate) → entry_under (map row_entry rows) number ≡ Some (Done fate) → ⊥
done_not_live rows number fate found =
    let made : (row : Row) × Has rows row × (row_entry row ≡ (number, Done fate)) =
    made_has row_entry rows (number, Done fate) (key_has nat_cmp exact_unsigned (map row_entry rows) number (Done fate) found) in
    let impossible : (row_entry made.0).1 ≡ Done fate = ap (λ (pair : ℕ × JobEntry). pair.1) made.2 in
    cc

module _ (last : ℕ) (rows : List Row) (decided : List Decided) (last_batch : Option ℤ) (table : JobTable)
    (is : listed_table last rows decided last_batch ≡ table) where
  pub in_table : (number : ℕ)
      → entry_at table number ≡ or_else (entry_under (map row_entry rows) number) (entry_under (map decided_entry decided) number)
  in_table number =
      sym (ap (λ at. entry_at at number) is) ∙ get-from_entries nat_cmp_total (map row_entry rows ++ map decided_entry decided) number
      ∙ found_in_both (map row_entry rows) (map decided_entry decided) number

  pub in_listed : (number : ℕ) → entry_at table number ≡ entry_under (map row_entry rows ++ map decided_entry decided) number
  in_listed number = in_table number ∙ sym (found_in_both (map row_entry rows) (map decided_entry decided) number)

  pub is_drawn : AreListed last (map row_entry rows) (map decided_entry decided) → (number : ℕ) → IsSome (entry_at table number)
      → (1 ≤ number) × (number ≤ last)
  is_drawn listed number some = listed.drawn number (subst IsSome (in_listed number) some)

  -- a live job has a row
  pub live_has_row : (number : ℕ) (job : Job) (state : JobState) → entry_at table number ≡ Some (Live job state)
      → entry_under (map row_entry rows) number ≡ Some (Live job state)
  live_has_row number job state held = by_scanned (entry_under (map row_entry rows) number) refl (sym (in_table number) ∙ held) where
    by_scanned : (found : Option JobEntry) → entry_under (map row_entry rows) number ≡ found
        → or_else found (entry_under (map decided_entry decided) number) ≡ Some (Live job state) → found ≡ Some (Live job state)
    by_scanned None none later = absurd (live_not_done decided number job state later)
    by_scanned (Some entry) some same = same

  pub row_is_live : (number : ℕ) (entry : JobEntry) → entry_under (map row_entry rows) number ≡ Some entry
      → entry_at table number ≡ Some entry
  row_is_live number entry found = in_table number ∙ ap (λ held. or_else held (entry_under (map decided_entry decided) number)) found

  -- a number that is done is a finished one, and has no row
  pub done_is_decided : (number : ℕ) (fate : Fate) → entry_at table number ≡ Some (Done fate)
      → (entry_under (map row_entry rows) number ≡ None) × (entry_under (map decided_entry decided) number ≡ Some (Done fate))
  done_is_decided number fate held = by_scanned (entry_under (map row_entry rows) number) refl (sym (in_table number) ∙ held) where
    by_scanned : (found : Option JobEntry) → entry_under (map row_entry rows) number ≡ found
        → or_else found (entry_under (map decided_entry decided) number) ≡ Some (Done fate)
        → (found ≡ None) × (entry_under (map decided_entry decided) number ≡ Some (Done fate))
    by_scanned None none later = (refl, later)
    by_scanned (Some entry) some same = absurd (done_not_live rows number fate (some ∙ same))

  pub absent_in_both : (number : ℕ) → entry_at table number ≡ None → (entry_under (map row_entry rows) number ≡ None)
      × (entry_under (map decided_entry decided) number ≡ None)
  absent_in_both number none = by_scanned (entry_under (map row_entry rows) number) (sym (in_table number) ∙ none) where
    by_scanned : (found : Option JobEntry) → or_else found (entry_under (map decided_entry decided) number) ≡ None
        → (found ≡ None) × (entry_under (map decided_entry decided) number ≡ None)
    by_scanned None later = (refl, later)
    by_scanned (Some entry) some = absurd (none_some entry (sym some))

  pub decided_is_done : AreListed last (map row_entry rows) (map decided_entry decided) → (number : ℕ) (entry : JobEntry)
      → entry_under (map decided_entry decided) number ≡ Some entry → entry_at table number ≡ Some entry
  decided_is_done listed number entry found = in_table number ∙ by_scanned (entry_under (map row_entry rows) number) refl where
    by_scanned : (held : Option JobEntry) → entry_under (map row_entry rows) number ≡ held
        → or_else held (entry_under (map decided_entry decided) number) ≡ Some entry
    by_scanned None none = found
    by_scanned (Some other) some = absurd (none_some entry (sym (listed.apart number (subst IsSome (sym some) refl)) ∙ found))

  -- a live number is not among the finished ones
  pub live_is_undecided : AreListed last (map row_entry rows) (map decided_entry decided) → (number : ℕ) (job : Job) (state : JobState)
      → entry_at table number ≡ Some (Live job state) → entry_under (map decided_entry decided) number ≡ None
  live_is_undecided listed number job state held = listed.apart number (subst IsSome (sym (live_has_row number job state held)) refl)

  pub lists_live : AreListed last (map row_entry rows) (map decided_entry decided) → ListsLive table rows
  lists_live listed = record {
    rise = listed.live_rise;
    each = λ row has. row_is_live row.number (row_entry row).1 (has_key nat_cmp nat_cmp_total (map row_entry rows) row.number
        (row_entry row).1 (test_from _ listed.live_rise) (has_made row_entry rows row (has_contained rows row has)));
    all = λ number job state held.
        let made : (row : Row) × Has rows row × (row_entry row ≡ (number, Live job state)) =
        made_has row_entry rows (number, Live job state)
        (key_has nat_cmp exact_unsigned (map row_entry rows) number (Live job state) (live_has_row number job state held)) in
        (made.0, contained rows made.0 made.1, made.2);
  }

  pub lists_decided : AreListed last (map row_entry rows) (map decided_entry decided) → ListsDecided table decided
  lists_decided listed = record {
    rise = listed.decided_rise;
    each = λ done has.
        decided_is_done listed done.number (Done done.fate) (has_key nat_cmp nat_cmp_total (map decided_entry decided) done.number
        (Done done.fate) (test_from _ listed.decided_rise) (has_made decided_entry decided done (has_contained decided done has)));
    all = λ number fate held.
        let made : (done : Decided) × Has decided done × (decided_entry done ≡ (number, Done fate)) =
        made_has decided_entry decided (number, Done fate)
        (key_has nat_cmp exact_unsigned (map decided_entry decided) number (Done fate) (done_is_decided number fate held).1) in
        (made.0, contained decided made.0 made.1, made.2);
  }

  -- the number that was drawn last is above those of all rows, where no job has it
  pub above_rows : AreListed last (map row_entry rows) (map decided_entry decided) → (number : ℕ) → IsFree table number → (other : ℕ)
      → IsSome (entry_under (map row_entry rows) other) → other < number
  above_rows listed number free other some =
      let among : other ≤ last = (listed.drawn other (subst IsSome (sym
      (found_in_both (map row_entry rows) (map decided_entry decided) other)) (still (entry_under (map row_entry rows) other) some))).1 in
      let last_is : last ≡ table.last = ap (λ (at : JobTable). at.last) is in
      let number_is : number ≡ table.last = free.last in
      let apart : other ≡ number → ⊥ = λ same. none_held (entry_under (map row_entry rows) number) (absent_in_both number free.absent).0
      (subst (λ at. IsSome (entry_under (map row_entry rows) at)) same some) in
      omega arith where
        still : (held : Option JobEntry) → IsSome held → IsSome (or_else held (entry_under (map decided_entry decided) other))
        still None some = let impossible : false ≡ true = some in cc
        still (Some entry) some = some

        none_held : (held : Option JobEntry) → held ≡ None → IsSome held → ⊥
        none_held held none some = let impossible : false ≡ true = subst IsSome none some in cc

  pub free_is_drawn : (number : ℕ) → IsFree table number → (1 ≤ number) × (number ≤ last)
  free_is_drawn number free =
      let last_is : last ≡ table.last = ap (λ (at : JobTable). at.last) is in
      let number_is : number ≡ table.last = free.last in
      (free.some, omega arith)

  -- the table after one edit of each list
  pub table_put : (new_rows : List Row) (new_decided : List Decided) (number : ℕ) (here there : Option JobEntry) (entry : JobEntry)
      → IsEdited (map row_entry rows) (map row_entry new_rows) number here → IsEdited (map decided_entry decided)
      (map decided_entry new_decided) number there → or_else here there ≡ Some entry → (batch new_batch : Option ℤ) → batch ≡ new_batch
      → listed_table last new_rows new_decided batch ≡ table_of table.last (finite.insert table.entries number entry) new_batch
  table_put new_rows new_decided number here there entry of_rows of_decided put batch new_batch same =
      let entries : from_entries {R = nat_cmp} (map row_entry new_rows ++ map decided_entry new_decided)
      ≡ finite.insert table.entries number entry =
      entries_put (map row_entry rows) (map decided_entry decided) (map row_entry new_rows) (map decided_entry new_decided) number here
      there of_rows of_decided entry put
      ∙ ap (λ (at : JobTable). finite.insert at.entries number entry) is in
      λ i. table_of (is i).last (entries i) (same i)

  pub table_taken : (new_rows : List Row) (new_decided : List Decided) (number : ℕ) (here there : Option JobEntry)
      → IsEdited (map row_entry rows) (map row_entry new_rows) number here
      → IsEdited (map decided_entry decided) (map decided_entry new_decided) number there → or_else here there ≡ None
      → listed_table last new_rows new_decided last_batch ≡ table_of table.last (finite.remove table.entries number) table.last_batch
  table_taken new_rows new_decided number here there of_rows of_decided none =
      let entries : from_entries {R = nat_cmp} (map row_entry new_rows ++ map decided_entry new_decided)
      ≡ finite.remove table.entries number =
      entries_taken (map row_entry rows) (map decided_entry decided) (map row_entry new_rows) (map decided_entry new_decided) number here
      there of_rows of_decided none
      ∙ ap (λ (at : JobTable). finite.remove at.entries number) is in
      λ i. table_of (is i).last (entries i) (is i).last_batch
