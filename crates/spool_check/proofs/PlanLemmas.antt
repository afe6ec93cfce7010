-- What is written by a plan.
use Rattle.std.proofs.Common.{◌≡◌, ℕ, zero, suc, ◌<◌, Bool, true, false, arith, List, [], ◌∷◌, map, get_or, length, sym, ap, subst, ◌∙◌, refl, inl, inr}
use Rattle.std.specs.Prelude.{◌==◌, ◌||◌, Option, Some, None, IsSome, if◌then◌else◌}
use Rattle.std.specs.FinMap as finite
use Rattle.std.specs.FinMap.{entries, find}
use Rattle.std.specs.List.{filter, list_any}
use Rattle.std.specs.Ordering.{eq_by_cmp}
use Rattle.std.specs.Str.{bytes_eq}
use Rattle.std.proofs.lemmas.Bool.{false_from_ne_true}
use Rattle.std.proofs.lemmas.List.Elements.{All-from_get_or, All-map}
use Rattle.std.proofs.lemmas.Slice.Eq.{bytes_eq-Decides}
use Rattle.host_calls.specs.Directory.{Files, name_cmp}
use Rattle.host_calls.proofs.DirectoryLemmas.{eq_by_cmp-other, eq_by_cmp-same}
use Rattle.job_name.specs.JobName.{job_named}
use Rattle.sequence_file.specs.LastNumber.{last_in}
use Rattle.sequence_file.specs.Sequence.{sequence_file}
use Rattle.sequence_file.proofs.LastNumbers.{last_given}
use Rattle.spool_faults.specs.Faults.{files_taken, first_files, has_header}
use Rattle.spool_faults.specs.Plan.{IsPlanOf, spare_slots, name_of_file}
use Rattle.spool_faults.specs.Salvaged.{files_of_salvage, is_left, last_of_salvage, marks_of_salvage, salvaged}
use Rattle.spool_faults.specs.Salvages.{IsSalvageOf, named_bytes}
use Rattle.spool_faults.proofs.AddedMarks.{saved_sound}
use Rattle.spool_faults.proofs.SalvageShown.{salvages_show_what_is_taken}
use Rattle.spool_check.specs.inside.CopiedFiles.{AreHeld, AreJobNames, HasCopies, copied}
use Rattle.spool_shows.specs.ByName.{IsJobFile}
use Rattle.spool_shows.specs.JobFiles.{JobFile, job_files}
use Rattle.spool_shows.specs.Shown.{Shows}
use Rattle.spool_shows.proofs.FileLemmas.{counted_is_file}
use Rattle.spool_shows.proofs.Membership.{Has, filtered_has}
use Rattle.start_journal.specs.Journals.{GivesMarks, journal_file}
use Rattle.start_journal.specs.Taken.{marks_taken}
use Rattle.start_journal.proofs.ChangeLemmas.{text_gives}
use Rattle.whole_file.proofs.OthersLemmas.{one_or_other}

-- Files that are saved are there.

first_has : (before : List ℕ) (files : List JobFile) (file : JobFile) → Has (first_files before files) file → Has files file
first_has before [] file has = has
first_has before (one ∷ later) file has = by_test (list_any (λ number. number == one.job.number) before) has (first_has before later file)
    (first_has (one.job.number ∷ before) later file)
  where
    by_test : (b : Bool) → Has (if b then first_files before later else one ∷ first_files (one.job.number ∷ before) later) file
        → (Has (first_files before later) file → Has later file) → (Has (first_files (one.job.number ∷ before) later) file → Has later file)
        → Has (one ∷ later) file
    by_test true in_list skipped kept = inr (skipped in_list)
    by_test false (inl is) skipped kept = inl is
    by_test false (inr in_list) skipped kept = inr (kept in_list)

saved_file : (files : Files) (file : JobFile) → Has (files_of_salvage files) file
    → IsJobFile (marks_taken (find name_cmp journal_file (entries files))) files file
saved_file files file has =
    let marks = marks_taken (find name_cmp journal_file (entries files)) in
    let left : Has (files_taken marks (entries files)) file × (is_left (marks_of_salvage files) file ≡ true) =
    filtered_has (is_left (marks_of_salvage files)) (files_taken marks (entries files)) file has in
    let headed : Has (job_files marks (entries files)) file × (has_header file ≡ true) = filtered_has has_header
    (job_files marks (entries files)) file (first_has [] (filter has_header (job_files marks (entries files))) file left.0) in
    counted_is_file marks files file headed.0

pub saved_held : (files : Files) (file : JobFile) → Has (files_of_salvage files) file → finite.get files file.name ≡ Some file.bytes
saved_held files file has = (saved_file files file has).held

-- so the names of a plan are those of files
has_at : (list : List JobFile) (place : ℕ) (file : JobFile) → place < length list → Has list (get_or list place file)
has_at [] place file inside = absurd (omega arith)
has_at (first ∷ later) zero file inside = inl refl
has_at (first ∷ later) (suc place) file inside = inr (has_at later place file (omega arith))

all_held : (files : Files) (list : List JobFile) → ((file : JobFile) → Has list file → finite.get files file.name ≡ Some file.bytes)
    → AreHeld (map name_of_file list) files
all_held files [] held = λ place name inside. absurd (omega arith)
all_held files (first ∷ later) held =
    All-map (λ (name : List ℕ). IsSome (finite.get files name)) name_of_file (first ∷ later)
    (All-from_get_or (λ (file : JobFile). IsSome (finite.get files file.name)) (first ∷ later) first
    (λ place inside. subst IsSome (sym (held (get_or (first ∷ later) place first) (has_at (first ∷ later) place first inside))) refl))

pub plan_held : (files : Files) (names : List (List ℕ)) (journal sequence : List ℕ)
    → IsPlanOf files names journal sequence → AreHeld names files
plan_held files names journal sequence plan =
    subst (λ (list : List (List ℕ)). AreHeld list files) (sym plan.names_are) (all_held files (files_of_salvage files) (saved_held files))

-- and of jobs
all_named : (files : Files) (list : List JobFile) → ((file : JobFile) → Has list file → job_named file.name ≡ Some file.job)
    → AreJobNames (map name_of_file list)
all_named files [] named = λ place name inside. absurd (omega arith)
all_named files (first ∷ later) named =
    All-map (λ (name : List ℕ). IsSome (job_named name)) name_of_file (first ∷ later)
    (All-from_get_or (λ (file : JobFile). IsSome (job_named file.name)) (first ∷ later) first
    (λ place inside. subst IsSome (sym (named (get_or (first ∷ later) place first) (has_at (first ∷ later) place first inside))) refl))

pub plan_named : (files : Files) (names : List (List ℕ)) (journal sequence : List ℕ)
    → IsPlanOf files names journal sequence → AreJobNames names
plan_named files names journal sequence plan =
    subst AreJobNames (sym plan.names_are) (all_named files (files_of_salvage files) (λ file has. (saved_file files file has).named))

-- A directory that was written by a plan has what is saved.

-- the copies of files are what is found among them
same_test : (name other : List ℕ) → eq_by_cmp name_cmp name other ≡ bytes_eq other name
same_test name other = elim (one_or_other name other) [
  | inl same ↦ ap (eq_by_cmp name_cmp name) (sym same) ∙ eq_by_cmp-same name ∙ sym ((bytes_eq-Decides other name).1 (sym same))
  | inr differ ↦ eq_by_cmp-other other name differ
      ∙ sym (false_from_ne_true _ (λ same. differ (sym ((bytes_eq-Decides other name).0 same))))
]

same_name : (one name : List ℕ) → bytes_eq one name ≡ true → one ≡ name
same_name one name is = (bytes_eq-Decides one name).0 is

abbrev any_of : Files → List ℕ → List JobFile → Bool → Option (List ℕ)
any_of files name later b = if b || list_any (λ other. bytes_eq other name) (map name_of_file later) then finite.get files name else None

found_by : (files : Files) (name : List ℕ) (file : JobFile) (later : List JobFile) (rest : Option (List ℕ)) (b : Bool)
    → bytes_eq file.name name ≡ b → finite.get files file.name ≡ Some file.bytes → any_of files name later false ≡ rest
    → any_of files name later b ≡ (if b then Some file.bytes else rest)
found_by files name file later rest true is held tail = ap (finite.get files) (sym (same_name file.name name is)) ∙ held
found_by files name file later rest false is held tail = tail

found_copy : (files : Files) (list : List JobFile) → ((file : JobFile) → Has list file → finite.get files file.name ≡ Some file.bytes)
    → (name : List ℕ) → copied (map name_of_file list) files name ≡ find name_cmp name (map named_bytes list)
found_copy files [] held name = refl
found_copy files (file ∷ later) held name =
    let rest : Option (List ℕ) = find name_cmp name (map named_bytes later) in
    found_by files name file later rest (bytes_eq file.name name) refl (held file (inl refl))
    (found_copy files later (λ one has. held one (inr has)) name)
    ∙ ap (λ b. if b then Some file.bytes else rest) (sym (same_test name file.name))

pub is_salvage : (files : Files) (names : List (List ℕ)) (journal sequence : List ℕ) (image : Files) → IsPlanOf files names journal sequence
    → finite.get image sequence_file ≡ Some sequence → finite.get image journal_file ≡ Some journal → HasCopies files names image
    → IsSalvageOf files image
is_salvage files names journal sequence image plan has_sequence has_journal copies = record {
  number = ap last_in has_sequence ∙ last_given (Some sequence) (last_of_salvage files) (true, plan.sequence_is);
  free = spare_slots;
  journal = subst (λ content. GivesMarks content (marks_of_salvage files) spare_slots) (sym has_journal)
      (text_gives journal (record { marks = marks_of_salvage files; free = spare_slots }) plan.journal_is
      (saved_sound (last_in (find name_cmp sequence_file (entries files))) (find name_cmp journal_file (entries files)) (entries files)));
  jobs = λ name job named.
      copies name job named
      ∙ ap (λ (list : List (List ℕ)). copied list files name) plan.names_are
      ∙ found_copy files (files_of_salvage files) (saved_held files) name;
}

-- and so it shows the table that is saved
pub salvages_show : (files salvage : Files) → IsSalvageOf files salvage → Shows salvage (salvaged files)
salvages_show = salvages_show_what_is_taken
