-- What the old form alone shows, next to what both forms show.
use Rattle.std.proofs.Common.{◌≡◌, ℕ, Bool, true, false, cond, List, [], ◌∷◌, length, sym, ap, ◌∙◌, refl, inl, inr, arith}
use Rattle.std.specs.Prelude.{◌==◌, Option, Some, None, Result, Ok, Err, slice_index, slice_range, if◌then◌else◌}
use Rattle.std.specs.FinMap as map
use Rattle.std.specs.FinMap.{entries, find, get-entries}
use Rattle.std.specs.List.{cons_option, filter, filter_map}
use Rattle.std.specs.Option.{option_or}
use Rattle.std.proofs.lemmas.Bool.{eqb-true}
use Rattle.text_reader.specs.HexValues.{number_in}
use Rattle.host_calls.specs.declared.damage.Damage.{Damage}
use Rattle.host_calls.specs.Directory.{Files, name_cmp}
use Rattle.job_name.specs.JobName.{NamedJob, SpellsJobName, job_in_range, job_named, job_spelled}
use Rattle.job_name.proofs.NamedJobs.{name_spelled}
use Rattle.sequence_file.specs.LastNumber.{last_in}
use Rattle.sequence_file.specs.Sequence.{sequence_file}
use Rattle.sequence_file.proofs.LastNumbers.{last_given, spelled_as}
use Rattle.start_journal.specs.declared.mark.Mark.{Mark}
use Rattle.start_journal.specs.Journals.{JournalRead, journal_file, journal_in}
use Rattle.spool_shows.specs.JobFiles.{JobFile, counts, counts_as, file_named, job_file, job_files}
use Rattle.spool_shows.specs.OldForm.{HasNoNewFormName, OldFormDirectoriesShowTheSame, OldFormTablesAreShown, old_form_after_journal, old_form_after_last, old_form_job_file, old_form_job_files, old_form_job_named, old_form_last_in, old_form_number_or_damage, old_form_sequence_in, old_form_shown_by}
use Rattle.spool_shows.specs.Shown.{Shows, shown_after_journal, shown_after_last, shown_by, shown_by_files}
use Rattle.spool_shows.proofs.EntryLists.{entry_is_file}
use Rattle.spool_shows.proofs.Membership.{Has}

-- a name that is read in the new form has 17 bytes
new_form_counted : (name : List ℕ) (job : NamedJob) → job_spelled true name ≡ Some job → length name ≡ 17
new_form_counted name job is = by_test (length name == 17) refl is where
  by_test : (counted : Bool) → (length name == 17) ≡ counted → (if counted then job_in_range true (slice_index name 0)
      (number_in (slice_range name 1 9)) (number_in (slice_range name 9 17)) else None) ≡ Some job → length name ≡ 17
  by_test true counted found = eqb-true (length name) 17 counted
  by_test false counted found = cc

-- in a directory without names in the new form no name of a file is read in the new form
not_new_form : (files : Files) (name bytes : List ℕ) → HasNoNewFormName files → map.get files name ≡ Some bytes
    → job_spelled true name ≡ None
not_new_form files name bytes none held = by_found (job_spelled true name) refl where
  by_form : (job : NamedJob) (new_form : Bool) → job_spelled true name ≡ Some job
      → SpellsJobName name job.queue job.number job.minute new_form → ⊥
  by_form job true is spelled = let impossible : Some bytes ≡ None = sym held ∙ none name job.queue job.number job.minute spelled in cc
  by_form job false is spelled = let new_form : length name ≡ 17 = new_form_counted name job is in omega (arith, new_form, spelled.counted)

  by_found : (found : Option NamedJob) → job_spelled true name ≡ found → job_spelled true name ≡ None
  by_found None is = is
  by_found (Some job) is =
      absurd (by_form job job.new_form is (name_spelled name job (ap (λ found. option_or found (job_spelled false name)) is)))

-- so it is read by the old form alone
named_old_form : (files : Files) (name bytes : List ℕ) → HasNoNewFormName files → map.get files name ≡ Some bytes
    → job_named name ≡ old_form_job_named name
named_old_form files name bytes none held = ap (λ found. option_or found (job_spelled false name)) (not_new_form files name bytes none held)

-- what is given of the elements that pass, at the first of them
given_first : {X Y : Type 0} → (give : X → Option Y) (passes : Bool) (x : X) (later : List X)
    → filter_map give (cond passes (x ∷ later) later) ≡ cond passes (cons_option (give x) (filter_map give later)) (filter_map give later)
given_first give true x later = refl
given_first give false x later = refl

-- files whose names are read alike count alike
same_files : (marks : List Mark) (files : List (List ℕ × List ℕ)) → ((file : List ℕ × List ℕ) → Has files file
    → job_named file.0 ≡ old_form_job_named file.0) → job_files marks files ≡ old_form_job_files marks files
same_files marks [] same = refl
same_files marks (file ∷ later) same =
    let with_file : Option NamedJob → List JobFile
    → List JobFile = λ named files. cond (counts_as marks named) (cons_option (file_named file.0 file.1 named) files) files in
    given_first job_file (counts marks file.0) file (filter (λ (e : List ℕ × List ℕ). counts marks e.0) later)
    ∙ ap (λ named. with_file named (job_files marks later)) (same file (inl refl))
    ∙ ap (with_file (old_form_job_named file.0)) (same_files marks later (λ other has. same other (inr has)))
    ∙ sym (given_first old_form_job_file (counts_as marks (old_form_job_named file.0)) file
    (filter (λ (e : List ℕ × List ℕ). counts_as marks (old_form_job_named e.0)) later))

-- a last number in the old form is the last number
last_old_form : (content : Option (List ℕ)) (last : ℕ) → old_form_last_in content ≡ Ok last → last_in content ≡ Ok last
last_old_form None last is = is
last_old_form (Some bytes) last is =
    last_given (Some bytes) last (false, spelled_as false bytes last (given_number (old_form_sequence_in bytes) is))
  where
    given_number : (found : Option ℕ) → old_form_number_or_damage bytes found ≡ Ok last → found ≡ Some last
    given_number (Some other) same = cc
    given_number None same = cc

shown_after : (files : Files) → shown_by files ≡ shown_after_last (last_in (map.get files sequence_file)) (entries files)
unfolding shown_by
shown_after files = ap (λ content. shown_after_last (last_in content) (entries files)) (sym (get-entries files sequence_file))

old_form_after : (files : Files)
    → old_form_shown_by files ≡ old_form_after_last (old_form_last_in (map.get files sequence_file)) (entries files)
unfolding old_form_shown_by
old_form_after files =
    ap (λ content. old_form_after_last (old_form_last_in content) (entries files)) (sym (get-entries files sequence_file))

pub old_form_directories_show_the_same : OldFormDirectoriesShowTheSame
old_form_directories_show_the_same files last none is =
    shown_after files
    ∙ ap (λ found. shown_after_last found (entries files)) (last_old_form (map.get files sequence_file) last is)
    ∙ by_journal (journal_in last (find name_cmp journal_file (entries files)))
    ∙ sym (old_form_after files ∙ ap (λ found. old_form_after_last found (entries files)) is) where
      by_journal : (read : Result JournalRead Damage)
          → shown_after_journal last read (entries files) ≡ old_form_after_journal last read (entries files)
      by_journal (Err damage) = refl
      by_journal (Ok read) = ap (shown_by_files last read.marks) (same_files read.marks (entries files)
          (λ file has. named_old_form files file.0 file.1 none (entry_is_file files file.0 file.1 has)))

pub old_form_tables_are_shown : OldFormTablesAreShown
old_form_tables_are_shown files table none shows = by_last (old_form_last_in (map.get files sequence_file)) refl where
  by_last : (found : Result ℕ Damage) → old_form_last_in (map.get files sequence_file) ≡ found → Shows files table
  by_last (Ok last) is = old_form_directories_show_the_same files last none is ∙ shows
  by_last (Err damage) is =
      let impossible : Err damage ≡ Ok table =
      sym (old_form_after files ∙ ap (λ found. old_form_after_last found (entries files)) is) ∙ shows in
      cc
