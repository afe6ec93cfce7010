-- Where a directory has no fault, no number in it is above the last one.
use Rattle.std.proofs.Common.{◌≡◌, ◌≤◌, ℕ, Bool, true, false, List, [], ◌∷◌, Option, Some, None, sym, ap, ◌∙◌, refl, arith}
use Rattle.std.specs.Prelude.{◌==◌, ◌||◌, Ok, nat_le, nat_lt, not, if◌then◌else◌}
use Rattle.std.specs.List.{cons_option, filter, filter_map}
use Rattle.std.proofs.lemmas.Bool.{and_parts}
use Rattle.std.proofs.lemmas.Bool.Decides.{nat_tests}
use Rattle.host_calls.specs.declared.damage.Damage.{Damage}
use Rattle.job_name.specs.JobName.{NamedJob, job_named}
use Rattle.sequence_file.proofs.LastNumbers.{last_numbers_are_given}
use Rattle.sequence_file.specs.LastNumber.{last_in}
use Rattle.spool_model.specs.declared.number.TheConstants.{LAST_NUMBER}
use Rattle.spool_shows.specs.JobFiles.{JobFile, counts, damage_of, file_place, job_file, job_files}
use Rattle.spool_shows.proofs.SoundLemmas.{no_fault}
use Rattle.spool_shows.proofs.SoundTables.{few_of}
use Rattle.start_journal.specs.declared.mark.Mark.{Mark}
use Rattle.start_journal.specs.declared.mark.Mark.TheVariants.{Removed, Started, Ended, Interrupted, Forgotten, Batch}
use Rattle.start_journal.specs.Journals.{are_drawn, is_drawn}
use Rattle.start_journal.specs.Marks.{decides, is_decided, number_of_mark}
use Rattle.spool_faults.specs.Faults.{files_faults}
use Rattle.spool_faults.specs.Salvaged.{greatest, name_numbers}

-- a last number is one of a job
pub few_last : (content : Option (List ℕ)) (last : ℕ) → last_in content ≡ Ok last → last ≤ LAST_NUMBER
few_last content last is = few_of content last ((last_numbers_are_given content last).0 is)

-- a number that is not above the greatest one leaves it
pub greatest_same : (least number : ℕ) (later : List ℕ) → nat_lt least number ≡ false
    → greatest least (number ∷ later) ≡ greatest least later
greatest_same least number later is = ap (λ b. greatest (if b then number else least) later) is

-- a drawn number is not above the last
not_above : (last number : ℕ) → nat_le number last ≡ true → nat_lt last number ≡ false
not_above last number is = grind (arith, nat_tests)

pub marks_small : (last : ℕ) (marks : List Mark) → are_drawn last marks ≡ true → greatest last (filter_map number_of_mark marks) ≡ last
marks_small last [] drawn = refl
marks_small last (mark ∷ later) drawn =
    by_mark mark (and_parts (is_drawn last mark) _ drawn).0 (marks_small last later (and_parts (is_drawn last mark) _ drawn).1)
  where
    by_mark : (mark : Mark) → is_drawn last mark ≡ true → greatest last (filter_map number_of_mark later) ≡ last
        → greatest last (cons_option (number_of_mark mark) (filter_map number_of_mark later)) ≡ last
    by_mark (Removed number) is rest = greatest_same last number (filter_map number_of_mark later) (not_above last number is) ∙ rest
    by_mark (Started number queue second) is rest =
        greatest_same last number (filter_map number_of_mark later) (not_above last number is) ∙ rest
    by_mark (Ended number ending) is rest = greatest_same last number (filter_map number_of_mark later) (not_above last number is) ∙ rest
    by_mark (Interrupted number) is rest = greatest_same last number (filter_map number_of_mark later) (not_above last number is) ∙ rest
    by_mark (Forgotten number) is rest = greatest_same last number (filter_map number_of_mark later) (not_above last number is) ∙ rest
    by_mark (Batch second) is rest = rest

-- a number that is finished was drawn
same_not_above : (last number other : ℕ) → nat_le other last ≡ true → (other == number) ≡ true → nat_lt last number ≡ false
same_not_above last number other drawn same = grind (arith, nat_tests)

decides_drawn : (last number : ℕ) (mark : Mark) → is_drawn last mark ≡ true → decides number mark ≡ true → nat_lt last number ≡ false
decides_drawn last number (Removed other) drawn decides_it = same_not_above last number other drawn decides_it
decides_drawn last number (Started other queue second) drawn decides_it = let impossible : false ≡ true = decides_it in cc
decides_drawn last number (Ended other ending) drawn decides_it = same_not_above last number other drawn decides_it
decides_drawn last number (Interrupted other) drawn decides_it = same_not_above last number other drawn decides_it
decides_drawn last number (Forgotten other) drawn decides_it = let impossible : false ≡ true = decides_it in cc
decides_drawn last number (Batch second) drawn decides_it = let impossible : false ≡ true = decides_it in cc

decided_drawn : (last number : ℕ) (marks : List Mark) → are_drawn last marks ≡ true → is_decided number marks ≡ true
    → nat_lt last number ≡ false
decided_drawn last number [] drawn decided = let impossible : false ≡ true = decided in cc
decided_drawn last number (mark ∷ later) drawn decided =
    by_test (decides number mark) refl decided (decided_drawn last number later (and_parts (is_drawn last mark) _ drawn).1)
  where
    by_test : (b : Bool) → decides number mark ≡ b → (b || is_decided number later) ≡ true
        → (is_decided number later ≡ true → nat_lt last number ≡ false) → nat_lt last number ≡ false
    by_test true here is rest = decides_drawn last number mark (and_parts (is_drawn last mark) _ drawn).0 here
    by_test false here is rest = rest is

-- no name has a number above the last, where no file has a fault
late_fault : (last : ℕ) (before : List ℕ) (file : JobFile) (later : List Damage)
    → cons_option (damage_of file (file_place last before file)) later ≡ [] → (nat_lt last file.job.number ≡ false) × (later ≡ [])
late_fault last before file later none = by_place (file_place last before file) refl none where
  by_place : (place : Option ℕ) → file_place last before file ≡ place → cons_option (damage_of file place) later ≡ []
      → (nat_lt last file.job.number ≡ false) × (later ≡ [])
  by_place None is rest =
      let drawn : file.job.number ≤ last = (no_fault last before file is).0.drawn in
      (grind (arith, nat_tests), rest)
  by_place (Some place) is rest = cc

pub names_small : (last : ℕ) (marks : List Mark) (before : List ℕ) (files : List (List ℕ × List ℕ)) → are_drawn last marks ≡ true
    → files_faults last before (job_files marks files) ≡ [] → greatest last (name_numbers files) ≡ last
names_small last marks before [] drawn none = refl
names_small last marks before (file ∷ later) drawn none =
    by_name (job_named file.0) refl none (λ others. names_small last marks others later drawn)
  where
    -- what is left of the files, by whether the first one counts
    rest_of : Option NamedJob → Bool → List JobFile
    rest_of named b = filter_map job_file (if b then file
        ∷ filter (λ (f : List ℕ × List ℕ). counts marks f.0) later else filter (λ (f : List ℕ × List ℕ). counts marks f.0) later)

    by_decided : (job : NamedJob) (decided : Bool) → job_named file.0 ≡ Some job
        → is_decided job.number marks ≡ decided → files_faults last before (job_files marks (file ∷ later)) ≡ []
        → ((others : List ℕ) → files_faults last others (job_files marks later) ≡ [] → greatest last (name_numbers later) ≡ last)
        → greatest last (job.number ∷ name_numbers later) ≡ last
    by_decided job true named decided all rest =
        let passed : counts marks file.0 ≡ false = ap (λ n. Rattle.spool_shows.specs.JobFiles.counts_as marks n) named ∙ ap not decided in
        greatest_same last job.number (name_numbers later) (decided_drawn last job.number marks drawn decided)
        ∙ rest before (sym (ap (λ b. files_faults last before (rest_of None b)) passed) ∙ all)
    by_decided job false named decided all rest =
        let counted : counts marks file.0 ≡ true = ap (λ n. Rattle.spool_shows.specs.JobFiles.counts_as marks n) named ∙ ap not decided in
        let one : JobFile = record { name = file.0; job = job; bytes = file.1 } in
        let here : job_file file ≡ Some one = ap (λ n. Rattle.spool_shows.specs.JobFiles.file_named file.0 file.1 n) named in
        let there : files_faults last before (cons_option (job_file file) (job_files marks later)) ≡ [] =
        sym (ap (λ b. files_faults last before (rest_of None b)) counted) ∙ all in
        let both : (nat_lt last job.number ≡ false) × (files_faults last (job.number ∷ before) (job_files marks later) ≡ []) =
        late_fault last before one (files_faults last (job.number ∷ before) (job_files marks later))
        (sym (ap (λ o. files_faults last before (cons_option o (job_files marks later))) here) ∙ there) in
        greatest_same last job.number (name_numbers later) both.0 ∙ rest (job.number ∷ before) both.1

    by_name : (named : Option NamedJob) → job_named file.0 ≡ named → files_faults last before (job_files marks (file ∷ later)) ≡ []
        → ((others : List ℕ) → files_faults last others (job_files marks later) ≡ [] → greatest last (name_numbers later) ≡ last)
        → greatest last (name_numbers (file ∷ later)) ≡ last
    by_name None named all rest =
        let passed : counts marks file.0 ≡ false = ap (λ n. Rattle.spool_shows.specs.JobFiles.counts_as marks n) named in
        ap (λ n. greatest last (cons_option (Rattle.std.specs.Prelude.option_map (λ (job : NamedJob). job.number) n) (name_numbers later)))
        named
        ∙ rest before (sym (ap (λ b. files_faults last before (rest_of None b)) passed) ∙ all)
    by_name (Some job) named all rest =
        ap (λ n. greatest last (cons_option (Rattle.std.specs.Prelude.option_map (λ (job : NamedJob). job.number) n) (name_numbers later)))
        named
        ∙ by_decided job (is_decided job.number marks) named refl all rest
