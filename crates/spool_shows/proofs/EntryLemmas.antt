-- The entries of the table that a directory shows.
use Rattle.std.proofs.Common.{◌≡◌, ◌⊎◌, ℕ, Bool, true, false, List, sym, ap, subst, ◌∙◌, refl, inl, inr}
use Rattle.std.specs.Prelude.{◌==◌, Option, Some, None, MatchBool, if◌then◌else◌}
use Rattle.std.specs.Cmp.{nat_cmp_total}
use Rattle.std.specs.Ordering.{nat_cmp}
use Rattle.std.specs.FinMap.Entries.{find}
use Rattle.std.proofs.lemmas.Map.Lookups.{exact_unsigned}
use Rattle.host_calls.specs.Directory.{Files}
use Rattle.spool_model.specs.declared.entry.Entry.TheVariants.{Done}
use Rattle.spool_model.specs.declared.fate.Fate.{Fate}
use Rattle.spool_model.specs.declared.fate.Fate.TheVariants as fate
use Rattle.spool_model.specs.JobTable.{JobEntry}
use Rattle.start_journal.specs.declared.mark.Mark.{Mark}
use Rattle.start_journal.specs.declared.mark.Mark.TheVariants.{Removed, Started, Ended, Interrupted, Forgotten, Batch}
use Rattle.start_journal.specs.Marks.{decides, is_decided, is_forgotten}
use Rattle.std.proofs.lemmas.Bool.{eqb-true}
use Rattle.spool_shows.specs.ByName.{IsJobFile, ShowsDone, ShowsEntry, ShowsLive}
use Rattle.spool_shows.specs.JobFiles.{JobFile}
use Rattle.spool_shows.specs.Shown.{done_as, done_entry, entries_shown, live_entry}
use Rattle.spool_shows.proofs.EntryLists.{key_has, no_key}
use Rattle.spool_shows.proofs.FileLemmas.{counted_is_file, file_is_counted, files_that_count}
use Rattle.spool_shows.proofs.Membership.{Has, any_passes, contained, given_has, has_either, has_given, has_left, has_made, has_right, made_has, none_some, one_passes}
use Rattle.spool_shows.proofs.StartLemmas.{number_passes}

-- the entry of a number with this fate
abbrev done_at : ℕ → Fate → ℕ × JobEntry
done_at of with = (of, Done with)

-- a number that is finished, by its fate
done_as_says : (marks : List Mark) (of : ℕ) (with : Fate) (number : ℕ) (entry : JobEntry) → done_as marks of with ≡ Some (number, entry)
    → (of ≡ number) × (is_forgotten of marks ≡ false)
done_as_says marks of with number entry is = by_test (is_forgotten of marks) refl is where
  by_test : (b : Bool) → is_forgotten of marks ≡ b → (if b then None else Some (done_at of with)) ≡ Some (number, entry)
      → (of ≡ number) × (is_forgotten of marks ≡ false)
  by_test true forgotten same = absurd (none_some (number, entry) same)
  by_test false kept same =
      let pairs : ◌≡◌ {A = ℕ × JobEntry} (of, Done with) (number, entry) = cc in
      (ap (λ (pair : ℕ × JobEntry). pair.0) pairs, kept)

decides_by : (marks : List Mark) (of : ℕ) (with : Fate) (number : ℕ) (entry : JobEntry) → done_as marks of with ≡ Some (number, entry)
    → ((of == number) ≡ true) × (is_forgotten number marks ≡ false)
decides_by marks of with number entry is =
    let says : (of ≡ number) × (is_forgotten of marks ≡ false) = done_as_says marks of with number entry is in
    (number_passes of number says.0, subst (λ at. is_forgotten at marks ≡ false) says.0 says.1)

-- the mark of a done entry decides its number
pub done_decides : (marks : List Mark) (mark : Mark) (number : ℕ) (entry : JobEntry) → done_entry marks mark ≡ Some (number, entry)
    → (decides number mark ≡ true) × (is_forgotten number marks ≡ false)
done_decides marks (Removed of) number entry is = decides_by marks of fate.Removed number entry is
done_decides marks (Ended of ending) number entry is = decides_by marks of (fate.Finished ending) number entry is
done_decides marks (Interrupted of) number entry is = decides_by marks of fate.Interrupted number entry is
done_decides marks (Started of queue second) number entry is = absurd (none_some (number, entry) is)
done_decides marks (Forgotten of) number entry is = absurd (none_some (number, entry) is)
done_decides marks (Batch second) number entry is = absurd (none_some (number, entry) is)

done_by : (marks : List Mark) (of : ℕ) (with : Fate) (number : ℕ) → (of == number) ≡ true → is_forgotten number marks ≡ false
    → (entry : JobEntry) × (done_as marks of with ≡ Some (number, entry))
done_by marks of with number test kept =
    let same : of ≡ number = eqb-true of number test in
    let here : is_forgotten of marks ≡ false = ap (λ at. is_forgotten at marks) same ∙ kept in
    (Done with, rw here (λ i. Some (same i, Done with)))

-- a mark that decides a number leaves an entry, unless the number was forgotten
pub decides_done : (marks : List Mark) (mark : Mark) (number : ℕ) → decides number mark ≡ true → is_forgotten number marks ≡ false
    → (entry : JobEntry) × (done_entry marks mark ≡ Some (number, entry))
decides_done marks (Removed of) number is kept = done_by marks of fate.Removed number is kept
decides_done marks (Ended of ending) number is kept = done_by marks of (fate.Finished ending) number is kept
decides_done marks (Interrupted of) number is kept = done_by marks of fate.Interrupted number is kept
decides_done marks (Started of queue second) number is kept = let impossible : false ≡ true = is in cc
decides_done marks (Forgotten of) number is kept = let impossible : false ≡ true = is in cc
decides_done marks (Batch second) number is kept = let impossible : false ≡ true = is in cc

-- where an entry of the list is from
from_file_or_mark : (marks : List Mark) (files : Files) (number : ℕ) (entry : JobEntry)
    → Has (entries_shown marks (files_that_count marks files)) (number, entry) → ((file : JobFile) × IsJobFile marks files file
    × (live_entry marks file ≡ (number, entry))) ⊎ ((mark : Mark) × Has marks mark × (done_entry marks mark ≡ Some (number, entry)))
from_file_or_mark marks files number entry has = elim (has_either _ _ (number, entry) has) [
  | inl live ↦
      let from : (file : JobFile) × Has (files_that_count marks files) file × (live_entry marks file ≡ (number, entry)) =
      made_has (live_entry marks) (files_that_count marks files) (number, entry) live in
      inl (from.0, counted_is_file marks files from.0 from.1, from.2)
  | inr done ↦ inr (given_has (done_entry marks) marks (number, entry) done)
]

number_of_live : (marks : List Mark) (file : JobFile) (number : ℕ) (entry : JobEntry) → live_entry marks file ≡ (number, entry)
    → file.job.number ≡ number
number_of_live marks file number entry is = ap (λ (pair : ℕ × JobEntry). pair.0) is

-- a file that counts has an undecided number
live_undecided : (marks : List Mark) (files : Files) (file : JobFile) (number : ℕ) (entry : JobEntry) → IsJobFile marks files file
    → live_entry marks file ≡ (number, entry) → is_decided number marks ≡ true → ⊥
live_undecided marks files file number entry is same decided =
    let impossible : false ≡ true = sym is.undecided
    ∙ ap (λ at. is_decided at marks) (number_of_live marks file number entry same) ∙ decided in
    cc

-- a mark that leaves an entry decides it
done_decided : (marks : List Mark) (mark : Mark) (number : ℕ) (entry : JobEntry) → Has marks mark
    → done_entry marks mark ≡ Some (number, entry) → is_decided number marks ≡ true
done_decided marks mark number entry has is = any_passes (decides number) marks mark has (done_decides marks mark number entry is).0

-- the entry that the list has under a number, by whether it is finished
by_decided : (marks : List Mark) (files : Files) (number : ℕ) (found : Option JobEntry) (decided : Bool)
    → is_decided number marks ≡ decided → find nat_cmp number (entries_shown marks (files_that_count marks files)) ≡ found
    → MatchBool decided (ShowsDone marks number found) (ShowsLive marks files number found)
by_decided marks files number None true decided found = by_test (is_forgotten number marks) refl where
  by_test : (b : Bool) → is_forgotten number marks ≡ b → is_forgotten number marks ≡ true
  by_test true forgotten = forgotten
  by_test false kept =
      let mark : (mark : Mark) × Has marks mark × (decides number mark ≡ true) = one_passes (decides number) marks decided in
      let entry : (entry : JobEntry) × (done_entry marks mark.0 ≡ Some (number, entry)) = decides_done marks mark.0 number mark.2 kept in
      absurd (no_key nat_cmp nat_cmp_total (entries_shown marks (files_that_count marks files)) number entry.0 found
      (has_right _ _ (number, entry.0) (has_given (done_entry marks) marks mark.0 (number, entry.0) mark.1 entry.1)))
by_decided marks files number (Some entry) true decided found =
    elim (from_file_or_mark marks files number entry (key_has nat_cmp exact_unsigned _ number entry found)) [
      | inl live ↦ absurd (live_undecided marks files live.0 number entry live.1 live.2 decided)
      | inr done ↦ (done.0, contained marks done.0 done.1, done.2)
    ]
by_decided marks files number None false undecided found = λ file is same.
    no_key nat_cmp nat_cmp_total (entries_shown marks (files_that_count marks files)) number (live_entry marks file).1 found
    (subst (λ at. Has (entries_shown marks (files_that_count marks files)) (at, (live_entry marks file).1)) same
    (has_left _ _ (live_entry marks file)
    (has_made (live_entry marks) (files_that_count marks files) file (file_is_counted marks files file is))))
by_decided marks files number (Some entry) false undecided found =
    elim (from_file_or_mark marks files number entry (key_has nat_cmp exact_unsigned _ number entry found)) [
      | inl live ↦ (live.0, live.1, live.2)
      | inr done ↦ let impossible : true ≡ false = sym (done_decided marks done.0 number entry done.1 done.2) ∙ undecided in cc
    ]

-- the entry that the list has under a number is the one that the directory shows
pub shows_found : (marks : List Mark) (files : Files) (number : ℕ)
    → ShowsEntry marks files number (find nat_cmp number (entries_shown marks (files_that_count marks files)))
shows_found marks files number =
    by_test (is_decided number marks) refl where
      by_test : (b : Bool) → is_decided number marks ≡ b → MatchBool (is_decided number marks)
          (ShowsDone marks number (find nat_cmp number (entries_shown marks (files_that_count marks files))))
          (ShowsLive marks files number (find nat_cmp number (entries_shown marks (files_that_count marks files))))
      by_test b is =
          subst (λ test. MatchBool test (ShowsDone marks number (find nat_cmp number (entries_shown marks (files_that_count marks files))))
          (ShowsLive marks files number (find nat_cmp number (entries_shown marks (files_that_count marks files))))) (sym is)
          (by_decided marks files number (find nat_cmp number (entries_shown marks (files_that_count marks files))) b is refl)
