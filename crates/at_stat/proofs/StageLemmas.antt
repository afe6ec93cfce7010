-- The stage of a number, by what a search for it finds.
use Rattle.std.proofs.Common.{◌≡◌, ◌∙◌, ℕ, List, map, ap, sym, subst, refl}
use Rattle.std.specs.Prelude.{Option, Some, None, option_map}
use Rattle.std.specs.Cmp.{nat_cmp_total}
use Rattle.std.specs.Ordering.{nat_cmp}
use Rattle.std.proofs.lemmas.Map.Lookups.{exact_unsigned}
use Rattle.spool_model.specs.declared.decided.Decided.{Decided}
use Rattle.spool_model.specs.declared.entry.Entry.TheVariants as entry
use Rattle.spool_model.specs.declared.fate.Fate.{Fate}
use Rattle.spool_model.specs.declared.job.Job.{Job}
use Rattle.spool_model.specs.declared.row.Row.{Row}
use Rattle.spool_model.specs.JobTable.{JobEntry, JobState, JobTable, entry_at}
use Rattle.spool_shows.proofs.EntryLists.{has_key, key_has}
use Rattle.spool_shows.proofs.Membership.{Has, contained, has_contained, has_made, made_has, none_some}
use Rattle.spool_store.specs.Listed.{ListsDecided, ListsLive, entry_under}
use Rattle.spool_store.specs.Rows.{decided_entry, row_entry}
use Rattle.spool_store.proofs.Edits.{test_from}
use Rattle.step_runs.specs.WithoutScripts.{entry_without_script, without_scripts}
use Rattle.step_runs.proofs.WithoutScriptsLemmas.{entries_are_without_scripts}
use Rattle.at_stat.specs.declared.stage.JobStage.{JobStage}
use Rattle.at_stat.specs.declared.stage.JobStage.TheVariants.{Live, Done, Forgotten}
use Rattle.at_stat.specs.Stages.{stage_of_number, stage_under}
use Rattle.at_stat.specs.inside.StageSearch.{IsDoneStage}

-- an entry has the same stage without its script
stage_without_script : (number : ℕ) (found : Option JobEntry)
    → stage_under number (option_map entry_without_script found) ≡ stage_under number found
stage_without_script number None = refl
stage_without_script number (Some (entry.Live job state)) = refl
stage_without_script number (Some (entry.Done fate)) = refl

pub stage_of-without_scripts : (table : JobTable) (number : ℕ)
    → stage_of_number (without_scripts table) number ≡ stage_of_number table number
stage_of-without_scripts table number =
    ap (stage_under number) (entries_are_without_scripts table number) ∙ stage_without_script number (entry_at table number)

-- a row that is found is that of the number's stage
pub live_stage : (table : JobTable) (rows : List Row) (number : ℕ) (row : Row) → ListsLive table rows
    → entry_under (map row_entry rows) number ≡ Some (row_entry row).1
    → row.number ≡ number → Live row ≡ stage_of_number table number
live_stage table rows number row lists found named =
    let has : Has (map row_entry rows) (number, (row_entry row).1) =
    key_has nat_cmp exact_unsigned (map row_entry rows) number (row_entry row).1 found in
    let made : (one : Row) × Has rows one × (row_entry one ≡ (number, (row_entry row).1)) =
    made_has row_entry rows (number, (row_entry row).1) has in
    let held : entry_at table number ≡ Some (row_entry row).1 =
    sym (ap (λ (pair : ℕ × JobEntry). entry_at table pair.0) made.2) ∙ lists.each made.0 (contained rows made.0 made.1)
    ∙ ap (λ (pair : ℕ × JobEntry). Some pair.1) made.2 in
    let numbered : stage_under row.number (Some (row_entry row).1) ≡ stage_under number (Some (row_entry row).1) =
    ap (λ (one : ℕ). stage_under one (Some (row_entry row).1)) named in
    numbered ∙ sym (ap (stage_under number) held)

-- a number that is not among the rows is that of no live job
not_live : (table : JobTable) (rows : List Row) (number : ℕ) → ListsLive table rows → entry_under (map row_entry rows) number ≡ None
    → (job : Job) (state : JobState) → entry_at table number ≡ Some (entry.Live job state) → ⊥
not_live table rows number lists absent job state held =
    let row = lists.all number job state held in
    let has : Has (map row_entry rows) (number, entry.Live job state) =
    subst (Has (map row_entry rows)) row.2 (has_made row_entry rows row.0 (has_contained rows row.0 row.1)) in
    none_some (entry.Live job state)
    (sym absent ∙ has_key nat_cmp nat_cmp_total (map row_entry rows) number (entry.Live job state) (test_from _ lists.rise) has)

-- and one that is not among the numbers of jobs that are done, is not done
not_done : (table : JobTable) (decided : List Decided) (number : ℕ) → ListsDecided table decided
    → entry_under (map decided_entry decided) number ≡ None
    → (fate : Fate) → entry_at table number ≡ Some (entry.Done fate) → ⊥
not_done table decided number lists absent fate held =
    let done = lists.all number fate held in
    let has : Has (map decided_entry decided) (number, entry.Done fate) =
    subst (Has (map decided_entry decided)) done.2 (has_made decided_entry decided done.0 (has_contained decided done.0 done.1)) in
    none_some (entry.Done fate)
    (sym absent ∙ has_key nat_cmp nat_cmp_total (map decided_entry decided) number (entry.Done fate) (test_from _ lists.rise) has)

-- a fate that is found is that of the number
is_done : (table : JobTable) (decided : List Decided) (number : ℕ) (fate : Fate) → ListsDecided table decided
    → entry_under (map decided_entry decided) number ≡ Some (entry.Done fate) → entry_at table number ≡ Some (entry.Done fate)
is_done table decided number fate lists found =
    let has : Has (map decided_entry decided) (number, entry.Done fate) =
    key_has nat_cmp exact_unsigned (map decided_entry decided) number (entry.Done fate) found in
    let made : (one : Decided) × Has decided one × (decided_entry one ≡ (number, entry.Done fate)) =
    made_has decided_entry decided (number, entry.Done fate) has in
    sym (ap (λ (pair : ℕ × JobEntry). entry_at table pair.0) made.2) ∙ lists.each made.0 (contained decided made.0 made.1)
    ∙ ap (λ (pair : ℕ × JobEntry). Some pair.1) made.2

-- the stage of a number that is not among the rows
pub done_stage : (table : JobTable) (rows : List Row) (decided : List Decided) (number : ℕ) (result : JobStage) → ListsLive table rows
    → ListsDecided table decided
    → entry_under (map row_entry rows) number ≡ None → IsDoneStage decided number result → result ≡ stage_of_number table number
done_stage table rows decided number (Live row) live done absent is = absurd is
done_stage table rows decided number (Done fate) live done absent is =
    sym (ap (stage_under number) (is_done table decided number fate done is))
done_stage table rows decided number Forgotten live done absent is = sym (ap (stage_under number) (nothing (entry_at table number) refl))
  where
    nothing : (found : Option JobEntry) → entry_at table number ≡ found → entry_at table number ≡ None
    nothing None found = found
    nothing (Some (entry.Live job state)) found = absurd (not_live table rows number live absent job state found)
    nothing (Some (entry.Done fate)) found = absurd (not_done table decided number done is fate found)
