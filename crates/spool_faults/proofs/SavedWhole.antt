-- The files and the marks that are saved have no damage.
use Rattle.std.proofs.Common.{◌≡◌, ℕ, ℤ, Bool, true, false, cond, List, [], ◌∷◌, ◌++◌, sym, ap, ◌∙◌, refl, inl, inr, eq-eqb}
use Rattle.std.specs.Prelude.{◌==◌, ◌||◌, not, Option, Some, None, Result, option_map, if◌then◌else◌}
use Rattle.std.specs.List.{filter, filter_map, list_any}
use Rattle.std.specs.Option.{option_or}
use Rattle.std.proofs.lemmas.Bool.{eqb-true}
use Rattle.std.proofs.lemmas.List.Folds.{list_any-append}
use Rattle.host_calls.specs.declared.damage.Damage.{Damage}
use Rattle.spool_shows.specs.ByName.{IsWholeFile}
use Rattle.spool_shows.specs.JobFiles.{JobFile, file_of, job_files}
use Rattle.spool_shows.specs.Shown.{damage_of_jobs, mark_damage, start_damage, starts_damage}
use Rattle.spool_shows.proofs.Membership.{Has, any_passes, filtered_has, given_has, has_either, has_given, has_left, has_right, made_has}
use Rattle.spool_shows.proofs.SoundLemmas.{AreFine, fine_is_no_damage}
use Rattle.spool_shows.proofs.StartLemmas.{whole_starts}
use Rattle.start_journal.specs.declared.mark.Mark.{Mark}
use Rattle.start_journal.specs.declared.mark.Mark.TheVariants.{Removed, Started, Ended, Interrupted, Forgotten, Batch}
use Rattle.start_journal.specs.Marks.{decides, is_decided}
use Rattle.start_journal.specs.Taken.{marks_taken}
use Rattle.spool_faults.specs.Faults.{files_taken, first_files, has_header}
use Rattle.spool_faults.specs.Salvaged.{given_up, is_left, is_unnamed, loses_marks, removal_mark, saved_files, saved_last, saved_marks, taken_back}
use Rattle.spool_faults.proofs.AddedMarks.{IsGivenUp, is_given_up}
use Rattle.spool_faults.proofs.FilesFirst.{start_elsewhere}
use Rattle.spool_faults.proofs.SavedNumbers.{file_at_most}

-- no number of the second list is missing in the first one
abbrev HasAll : List ℕ → List ℕ → Type 0
HasAll before seen = (number : ℕ) → list_any (λ one. one == number) before ≡ false → list_any (λ one. one == number) seen ≡ false

-- whole files, the first of each number, have no fault, and so have those of them that pass a test
first_fine : (last : ℕ) (test : JobFile → Bool) (before seen : List ℕ) (files : List JobFile) → ((file : JobFile) → Has files file
    → IsWholeFile last file) → HasAll before seen → AreFine last seen (filter test (first_files before files))
first_fine last test before seen [] whole all = tt
first_fine last test before seen (file ∷ later) whole all =
    by_before (list_any (λ number. number == file.job.number) before) refl
    (first_fine last test before seen later later_whole all)
    (first_fine last test (file.job.number ∷ before) (file.job.number ∷ seen) later later_whole both_more)
    (first_fine last test (file.job.number ∷ before) seen later later_whole one_more) where
      later_whole : (other : JobFile) → Has later other → IsWholeFile last other
      later_whole other has = whole other (inr has)

      by_or : (same old new : Bool) → (old ≡ false → new ≡ false) → (same || old) ≡ false → (same || new) ≡ false
      by_or true old new rest is = is
      by_or false old new rest is = rest is

      by_second : (same old new : Bool) → (old ≡ false → new ≡ false) → (same || old) ≡ false → new ≡ false
      by_second true old new rest is = let impossible : true ≡ false = is in cc
      by_second false old new rest is = rest is

      both_more : HasAll (file.job.number ∷ before) (file.job.number ∷ seen)
      both_more number none = by_or (file.job.number == number) _ _ (all number) none

      one_more : HasAll (file.job.number ∷ before) seen
      one_more number none = by_second (file.job.number == number) _ _ (all number) none

      by_pass : (pass : Bool) → list_any (λ number. number == file.job.number) before ≡ false
          → AreFine last (file.job.number ∷ seen) (filter test (first_files (file.job.number ∷ before) later))
          → AreFine last seen (filter test (first_files (file.job.number ∷ before) later)) → AreFine last seen (cond pass
          (file ∷ filter test (first_files (file.job.number ∷ before) later)) (filter test (first_files (file.job.number ∷ before) later)))
      by_pass true new kept left = (whole file (inl refl), all file.job.number new, kept)
      by_pass false new kept left = left

      by_before : (is : Bool) → list_any (λ number. number == file.job.number) before ≡ is
          → AreFine last seen (filter test (first_files before later))
          → AreFine last (file.job.number ∷ seen) (filter test (first_files (file.job.number ∷ before) later))
          → AreFine last seen (filter test (first_files (file.job.number ∷ before) later))
          → AreFine last seen (filter test (if is then first_files before later else file ∷ first_files (file.job.number ∷ before) later))
      by_before true old rest kept left = rest
      by_before false new rest kept left = by_pass (test file) new kept left

-- the first file of a number is found among those that pass a test which all of that number pass
found_left : (number : ℕ) (test : JobFile → Bool) (files : List JobFile)
    → ((file : JobFile) → (file.job.number == number) ≡ true → test file ≡ true) → file_of number (filter test files) ≡ file_of number files
found_left number test [] pass = refl
found_left number test (file ∷ later) pass = by_number (file.job.number == number) refl (found_left number test later pass) where
  by_test : (kept : Bool) → file_of number (filter test later) ≡ file_of number later → (file.job.number == number) ≡ false
      → file_of number (cond kept (file ∷ filter test later) (filter test later)) ≡ file_of number later
  by_test true rest apart = ap (λ b. cond b (Some file) (file_of number (filter test later))) apart ∙ rest
  by_test false rest apart = rest

  by_number : (same : Bool) → (file.job.number == number) ≡ same → file_of number (filter test later) ≡ file_of number later
      → file_of number (cond (test file) (file ∷ filter test later) (filter test later)) ≡ cond same (Some file) (file_of number later)
  by_number true is rest =
      ap (λ b. file_of number (cond b (file ∷ filter test later) (filter test later))) (pass file is)
      ∙ ap (λ b. cond b (Some file) (file_of number (filter test later))) is
  by_number false is rest = by_test (test file) rest is

module _ (last : Result ℕ Damage) (journal : Option (List ℕ)) (files : List (List ℕ × List ℕ)) where
  abbrev taken : List JobFile
  taken = files_taken (marks_taken journal) files

  abbrev ups : List Mark
  ups = filter_map (given_up (marks_taken journal) taken) (marks_taken journal)

  abbrev backs : List Mark
  backs = taken_back (marks_taken journal) taken (loses_marks last journal taken)

  -- no start is among the marks that are added
  not_given_up : (number queue : ℕ) (second : ℤ) → Has ups (Started number queue second) → ⊥
  not_given_up number queue second has =
      let from : (start : Mark) × Has (marks_taken journal) start
      × (given_up (marks_taken journal) taken start ≡ Some (Started number queue second)) =
      given_has (given_up (marks_taken journal) taken) (marks_taken journal) (Started number queue second) has in
      let is : IsGivenUp (marks_taken journal) from.0 (Started number queue second) =
      is_given_up (marks_taken journal) taken from.0 (Started number queue second) from.2 in
      let impossible : Started number queue second ≡ Interrupted is.number = is.gives in
      cc

  not_taken_back : (lost : Bool) (number queue : ℕ) (second : ℤ)
      → Has (taken_back (marks_taken journal) taken lost) (Started number queue second) → ⊥
  not_taken_back false number queue second has = has
  not_taken_back true number queue second has =
      let from : (file : JobFile) × Has (filter (is_unnamed (marks_taken journal)) taken) file × (removal_mark file ≡ Started number queue
      second) = made_has removal_mark (filter (is_unnamed (marks_taken journal)) taken) (Started number queue second) has in
      let impossible : Removed from.0.job.number ≡ Started number queue second = from.2 in
      cc

  start_taken : (number queue : ℕ) (second : ℤ) → Has (saved_marks last journal files) (Started number queue second)
      → Has (marks_taken journal) (Started number queue second)
  start_taken number queue second has = elim (has_either (marks_taken journal) (ups ++ backs) (Started number queue second) has) [
    | inl in_taken ↦ in_taken
    | inr added ↦ elim (has_either ups backs (Started number queue second) added) [
      | inl up ↦ absurd (not_given_up number queue second up)
      | inr back ↦ absurd (not_taken_back (loses_marks last journal taken) number queue second back)
    ]
  ]

  -- a number that a saved mark decides
  decided_by : (number : ℕ) (mark : Mark) → Has (saved_marks last journal files) mark → decides number mark ≡ true
      → is_decided number (saved_marks last journal files) ≡ false → ⊥
  decided_by number mark has is undecided =
      let impossible : true ≡ false = sym (any_passes (decides number) (saved_marks last journal files) mark has is) ∙ undecided in
      cc

  -- a start whose number no saved mark decides was not given up
  start_kept : (number queue : ℕ) (second : ℤ) → Has (marks_taken journal) (Started number queue second) → is_decided number
      (saved_marks last journal files) ≡ false → mark_damage (marks_taken journal) taken 0 (Started number queue second) ≡ None
  start_kept number queue second has undecided = by_damage (mark_damage (marks_taken journal) taken 0 (Started number queue second)) refl
    where
      by_damage : (damage : Option Damage) → mark_damage (marks_taken journal) taken 0 (Started number queue second) ≡ damage
          → mark_damage (marks_taken journal) taken 0 (Started number queue second) ≡ None
      by_damage None none = none
      by_damage (Some damage) some =
          let gives : given_up (marks_taken journal) taken (Started number queue second) ≡ Some (Interrupted number) =
          ap (option_map (λ (d : Damage). Interrupted number)) some in
          let in_ups : Has ups (Interrupted number) = has_given (given_up (marks_taken journal) taken) (marks_taken journal)
          (Started number queue second) (Interrupted number) has gives in
          absurd (decided_by number (Interrupted number) (has_right (marks_taken journal) (ups ++ backs) (Interrupted number)
          (has_left ups backs (Interrupted number) in_ups)) (eq-eqb number number refl) undecided)

  undecided_before : (number : ℕ) → is_decided number (saved_marks last journal files) ≡ false
      → is_decided number (marks_taken journal) ≡ false
  undecided_before number undecided = first_fails (is_decided number (marks_taken journal)) (is_decided number (ups ++ backs))
      (sym (list_any-append (decides number) (marks_taken journal) (ups ++ backs)) ∙ undecided)
    where
      first_fails : (one other : Bool) → (one || other) ≡ false → one ≡ false
      first_fails true other is = let impossible : true ≡ false = is in cc
      first_fails false other is = refl

  start_whole : (at number queue : ℕ) (second : ℤ) (decided : Bool) → Has (saved_marks last journal files) (Started number queue second)
      → is_decided number (saved_marks last journal files) ≡ decided
      → (if decided then None else start_damage at queue (file_of number (saved_files last journal files))) ≡ None
  start_whole at number queue second true has decided = refl
  start_whole at number queue second false has undecided =
      let whole : mark_damage (marks_taken journal) taken 0 (Started number queue second) ≡ None =
      start_kept number queue second (start_taken number queue second has) undecided in
      let here : start_damage 0 queue (file_of number taken) ≡ None =
      sym (ap (λ b. if b then None else start_damage 0 queue (file_of number taken)) (undecided_before number undecided)) ∙ whole in
      let same : file_of number (saved_files last journal files) ≡ file_of number taken =
      found_left number (is_left (saved_marks last journal files)) taken
      (λ file is. ap (λ n. not (is_decided n (saved_marks last journal files))) (eqb-true file.job.number number is) ∙ ap not undecided) in
      ap (start_damage at queue) same ∙ start_elsewhere 0 at queue (file_of number taken) here

  mark_whole : (at : ℕ) (mark : Mark) → Has (saved_marks last journal files) mark
      → mark_damage (saved_marks last journal files) (saved_files last journal files) at mark ≡ None
  mark_whole at (Started number queue second) has =
      start_whole at number queue second (is_decided number (saved_marks last journal files)) has refl
  mark_whole at (Removed number) has = refl
  mark_whole at (Ended number ending) has = refl
  mark_whole at (Interrupted number) has = refl
  mark_whole at (Forgotten number) has = refl
  mark_whole at (Batch second) has = refl

  -- each file that is saved is whole
  file_whole : (file : JobFile) → Has (filter has_header (job_files (marks_taken journal) files)) file
      → IsWholeFile (saved_last last journal files) file
  file_whole file has =
      let holds : Has (job_files (marks_taken journal) files) file × (has_header file ≡ true) =
      filtered_has has_header (job_files (marks_taken journal) files) file has in
      record { drawn = file_at_most last journal files (marks_taken journal) file holds.0; header = holds.1 }

  -- no file and no start that is saved has damage
  pub saved_undamaged : damage_of_jobs (saved_last last journal files) (saved_marks last journal files)
      (saved_files last journal files) ≡ None
  saved_undamaged =
      ap (λ found.
      option_or found (starts_damage (saved_marks last journal files) (saved_files last journal files) 0 (saved_marks last journal files)))
      (fine_is_no_damage (saved_last last journal files) [] (saved_files last journal files)
      (first_fine (saved_last last journal files) (is_left (saved_marks last journal files)) [] []
      (filter has_header (job_files (marks_taken journal) files)) file_whole (λ number none. none)))
      ∙ whole_starts (saved_marks last journal files) (saved_files last journal files) 0 (saved_marks last journal files) mark_whole
