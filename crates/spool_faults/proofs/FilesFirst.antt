-- The first fault of the files of jobs and of starts is the one that recovery answers; without one all files are taken.
use Rattle.std.proofs.Common.{◌≡◌, ℕ, ◌+◌, Bool, true, false, List, [], ◌∷◌, Option, Some, None, sym, ap, ◌∙◌, refl}
use Rattle.std.specs.Prelude.{◌==◌, ◌&&◌, ◌||◌, is_some, nat_lt, not, option_map, if◌then◌else◌}
use Rattle.std.specs.List.{cons_option, filter, filter_map, list_any}
use Rattle.std.specs.Option.{option_or}
use Rattle.host_calls.specs.declared.damage.Damage.{Damage}
use Rattle.job_name.specs.JobName.{NamedJob, job_named}
use Rattle.spool_shows.specs.JobFiles.{JobFile, counts, counts_as, damage_of, file_named, file_of, file_place, files_damage, job_file, job_files}
use Rattle.spool_shows.specs.Shown.{mark_damage, start_damage, starts_damage}
use Rattle.spool_shows.proofs.SoundLemmas.{no_fault, no_place}
use Rattle.start_journal.specs.declared.mark.Mark.{Mark}
use Rattle.start_journal.specs.declared.mark.Mark.TheVariants.{Removed, Started, Ended, Interrupted, Forgotten, Batch}
use Rattle.start_journal.specs.declared.take_marks.TakenMark.{TakenMark}
use Rattle.start_journal.specs.Journals.{gate_damage, queue_damage}
use Rattle.start_journal.specs.Marks.{is_decided}
use Rattle.start_journal.specs.Taken.{marks_of}
use Rattle.spool_faults.specs.Faults.{files_faults, first_files, has_header, starts_faults}
use Rattle.spool_faults.specs.Salvaged.{given_up, is_left, is_orphan}
use Rattle.spool_faults.proofs.JournalFirst.{numbered}

-- the first of a list
abbrev pub head_of : List Damage → Option Damage
head_of [] = None
head_of (fault ∷ later) = Some fault

head_cons : (one : Option Damage) (later : List Damage) → head_of (cons_option one later) ≡ option_or one (head_of later)
head_cons None later = refl
head_cons (Some fault) later = refl

-- the first fault of files
pub files_first : (last : ℕ) (before : List ℕ) (files : List JobFile)
    → files_damage last before files ≡ head_of (files_faults last before files)
files_first last before [] = refl
files_first last before (file ∷ later) =
    ap (option_or (damage_of file (file_place last before file))) (files_first last (file.job.number ∷ before) later)
    ∙ sym (head_cons (damage_of file (file_place last before file)) (files_faults last (file.job.number ∷ before) later))

-- what makes up a list that is empty
none_first : {X : Type 0} → (one : Option X) (later : List X) → cons_option one later ≡ [] → (one ≡ None) × (later ≡ [])
none_first None later none = (refl, none)
none_first (Some x) later none = let impossible : x ∷ later ≡ [] = none in cc

-- files without a fault are all taken
pub files_kept : (last : ℕ) (before : List ℕ) (files : List JobFile) → files_faults last before files ≡ []
    → first_files before (filter has_header files) ≡ files
files_kept last before [] none = refl
files_kept last before (file ∷ later) none =
    let both : (damage_of file (file_place last before file) ≡ None)
    × (files_faults last (file.job.number ∷ before) later ≡ []) = none_first _ _ none in
    let fine = no_fault last before file (no_place file _ both.0) in
    ap (λ b. first_files before (if b then file ∷ filter has_header later else filter has_header later)) fine.0.header
    ∙ ap (λ b. if b then first_files before (filter has_header later) else file
    ∷ first_files (file.job.number ∷ before) (filter has_header later)) fine.1
    ∙ ap (λ list. file ∷ list) (files_kept last (file.job.number ∷ before) later both.1)

-- the first fault of starts
pub starts_first : (marks : List Mark) (files : List JobFile) (place : ℕ) (list : List Mark)
    → starts_damage marks files place list ≡ head_of (starts_faults marks files (numbered place list))
starts_first marks files place [] = refl
starts_first marks files place (mark ∷ later) =
    ap (option_or (mark_damage marks files place mark)) (starts_first marks files (place + 1) later)
    ∙ sym (head_cons (mark_damage marks files place mark) (starts_faults marks files (numbered (place + 1) later)))

-- a start without damage at one place has none at another
pub start_elsewhere : (place other queue : ℕ) (found : Option JobFile) → start_damage place queue found ≡ None
    → start_damage other queue found ≡ None
start_elsewhere place other queue None is = let impossible : ◌≡◌ {A = Option Damage} (Some (gate_damage place)) None = is in cc
start_elsewhere place other queue (Some file) is = by_test (file.job.queue == queue) is where
  by_test : (b : Bool) → (if b then None else Some (queue_damage place queue)) ≡ None
      → (if b then None else Some (queue_damage other queue)) ≡ None
  by_test true none = refl
  by_test false none = let impossible : Some (queue_damage place queue) ≡ None = none in cc

whole_elsewhere : (marks : List Mark) (files : List JobFile) (place other : ℕ) (mark : Mark) → mark_damage marks files place mark ≡ None
    → mark_damage marks files other mark ≡ None
whole_elsewhere marks files place other (Removed number) is = refl
whole_elsewhere marks files place other (Ended number ending) is = refl
whole_elsewhere marks files place other (Interrupted number) is = refl
whole_elsewhere marks files place other (Forgotten number) is = refl
whole_elsewhere marks files place other (Batch second) is = refl
whole_elsewhere marks files place other (Started number queue second) is = by_test (is_decided number marks) is where
  by_test : (b : Bool) → (if b then None else start_damage place queue (file_of number files)) ≡ None
      → (if b then None else start_damage other queue (file_of number files)) ≡ None
  by_test true none = refl
  by_test false none = start_elsewhere place other queue (file_of number files) none

not_given_up : (marks : List Mark) (files : List JobFile) (mark : Mark) → mark_damage marks files 0 mark ≡ None
    → given_up marks files mark ≡ None
not_given_up marks files (Removed number) is = refl
not_given_up marks files (Ended number ending) is = refl
not_given_up marks files (Interrupted number) is = refl
not_given_up marks files (Forgotten number) is = refl
not_given_up marks files (Batch second) is = refl
not_given_up marks files (Started number queue second) is = ap (option_map (λ damage. Interrupted number)) is

-- no start is given up where none has a fault
pub none_given_up : (marks : List Mark) (files : List JobFile) (taken : List TakenMark) → starts_faults marks files taken ≡ []
    → filter_map (given_up marks files) (marks_of taken) ≡ []
none_given_up marks files [] none = refl
none_given_up marks files (one ∷ later) none =
    let both : (mark_damage marks files one.place one.mark ≡ None) × (starts_faults marks files later ≡ []) = none_first _ _ none in
    ap (λ o. cons_option o (filter_map (given_up marks files) (marks_of later)))
    (not_given_up marks files one.mark (whole_elsewhere marks files one.place 0 one.mark both.0))
    ∙ none_given_up marks files later both.1

-- a start whose job has a file that is taken is no orphan
not_orphan : (last : ℕ) (marks : List Mark) (files : List JobFile) (mark : Mark) → mark_damage marks files 0 mark ≡ None
    → is_orphan last marks files mark ≡ false
not_orphan last marks files (Removed number) is = refl
not_orphan last marks files (Ended number ending) is = refl
not_orphan last marks files (Interrupted number) is = refl
not_orphan last marks files (Forgotten number) is = refl
not_orphan last marks files (Batch second) is = refl
not_orphan last marks files (Started number queue second) is =
    by_tests (nat_lt last number) (is_decided number marks) (file_of number files) is
  where
    by_tests : (above decided : Bool) (found : Option JobFile) → (if decided then None else start_damage 0 queue found) ≡ None
        → (above && (not decided && not (is_some found))) ≡ false
    by_tests false decided found none = refl
    by_tests true true found none = refl
    by_tests true false (Some file) none = refl
    by_tests true false None none = let impossible : ◌≡◌ {A = Option Damage} (Some (gate_damage 0)) None = none in cc

-- there is no orphan where no start has a fault
pub no_orphan : (last : ℕ) (marks : List Mark) (files : List JobFile) (taken : List TakenMark) → starts_faults marks files taken ≡ []
    → list_any (is_orphan last marks files) (marks_of taken) ≡ false
no_orphan last marks files [] none = refl
no_orphan last marks files (one ∷ later) none =
    let both : (mark_damage marks files one.place one.mark ≡ None) × (starts_faults marks files later ≡ []) = none_first _ _ none in
    ap (λ b. b || list_any (is_orphan last marks files) (marks_of later))
    (not_orphan last marks files one.mark (whole_elsewhere marks files one.place 0 one.mark both.0))
    ∙ no_orphan last marks files later both.1

-- each file of a job that counts is left
counts_left : (marks : List Mark) (file : List ℕ × List ℕ) (of : JobFile) → counts marks file.0 ≡ true → job_file file ≡ Some of
    → is_left marks of ≡ true
counts_left marks file of counted is = by_name (job_named file.0) counted is where
  by_name : (named : Option NamedJob) → counts_as marks named ≡ true → file_named file.0 file.1 named ≡ Some of → is_left marks of ≡ true
  by_name None counts_so made = let impossible : false ≡ true = counts_so in cc
  by_name (Some job) counts_so made =
      let same : record { name = file.0; job = job; bytes = file.1 } ≡ of = cc in
      ap (λ (f : JobFile). not (is_decided f.job.number marks)) (sym same) ∙ counts_so

pub all_left : (marks : List Mark) (files : List (List ℕ × List ℕ)) → filter (is_left marks) (job_files marks files) ≡ job_files marks files
all_left marks [] = refl
all_left marks (file ∷ later) = by_test (counts marks file.0) refl (all_left marks later) where
  later_files : List (List ℕ × List ℕ)
  later_files = filter (λ (f : List ℕ × List ℕ). counts marks f.0) later

  by_file : (found : Option JobFile) → counts marks file.0 ≡ true → job_file file ≡ found
      → filter (is_left marks) (filter_map job_file later_files) ≡ filter_map job_file later_files
      → filter (is_left marks) (cons_option found (filter_map job_file later_files)) ≡ cons_option found (filter_map job_file later_files)
  by_file None counted is rest = rest
  by_file (Some of) counted is rest =
      ap (λ b. if b then of ∷ filter (is_left marks) (filter_map job_file later_files) else filter (is_left marks)
      (filter_map job_file later_files)) (counts_left marks file of counted is)
      ∙ ap (λ list. of ∷ list) rest

  by_test : (b : Bool) → counts marks file.0 ≡ b → filter (is_left marks) (filter_map job_file later_files)
      ≡ filter_map job_file later_files → filter (is_left marks) (filter_map job_file (if b then file ∷ later_files else later_files))
      ≡ filter_map job_file (if b then file ∷ later_files else later_files)
  by_test true counted rest = by_file (job_file file) counted refl rest
  by_test false passed rest = rest
