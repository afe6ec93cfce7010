-- The first bytes of files show of their faults what the whole files do.
use Rattle.std.proofs.Common.{◌≡◌, ℕ, Bool, true, false, cond, List, Option, Some, None, [], ◌∷◌, map, sym, ap, ◌∙◌, refl}
use Rattle.std.specs.Prelude.{◌==◌, ◌||◌, is_some, option_map}
use Rattle.std.specs.List.{cons_option, filter, list_any}
use Rattle.std.proofs.lemmas.Bool.{eqb-true}
use Rattle.job_script.proofs.HeaderInLemmas.{header_in-take}
use Rattle.spool_shows.specs.JobFiles.{JobFile, file_of}
use Rattle.spool_shows.proofs.CutFiles.{cut, damage_same}
use Rattle.spool_faults.specs.Faults.{files_faults, first_files, has_header}

pub faults_cut : (last : ℕ) (before : List ℕ) (files : List JobFile)
    → files_faults last before (map cut files) ≡ files_faults last before files
faults_cut last before [] = refl
faults_cut last before (file ∷ later) =
    λ i. cons_option (damage_same last before file i) (faults_cut last (file.job.number ∷ before) later i)

-- the queue of a file
abbrev pub queue_in : Option JobFile → Option ℕ
queue_in file = option_map (λ (f : JobFile). f.job.queue) file

-- the first file of a number, among those that begin with a header
pub queue_cut : (number : ℕ) (files : List JobFile)
    → queue_in (file_of number (filter has_header (map cut files))) ≡ queue_in (file_of number (filter has_header files))
queue_cut number [] = refl
queue_cut number (file ∷ later) =
    ap (λ read. queue_in (file_of number
    (cond (is_some read) (cut file ∷ filter has_header (map cut later)) (filter has_header (map cut later))))) (header_in-take file.bytes)
    ∙ by_test (has_header file) (file.job.number == number) (queue_cut number later) where
      by_number : (same : Bool) → queue_in (file_of number (filter has_header (map cut later))) ≡ queue_in (file_of number
          (filter has_header later)) → queue_in (cond same (Some (cut file)) (file_of number (filter has_header (map cut later))))
          ≡ queue_in (cond same (Some file) (file_of number (filter has_header later)))
      by_number true rest = refl
      by_number false rest = rest

      by_test : (whole same : Bool)
          → queue_in (file_of number (filter has_header (map cut later))) ≡ queue_in (file_of number (filter has_header later))
          → queue_in (file_of number (cond whole (cut file ∷ filter has_header (map cut later)) (filter has_header (map cut later))))
          ≡ queue_in (file_of number (cond whole (file ∷ filter has_header later) (filter has_header later)))
      by_test true same rest = by_number (file.job.number == number) rest
      by_test false same rest = rest

-- the first file of each number is the first one of that number
pub first_of : (number : ℕ) (before : List ℕ) (files : List JobFile) → list_any (λ one. one == number) before ≡ false
    → file_of number (first_files before files) ≡ file_of number files
first_of number before [] new = refl
first_of number before (file ∷ later) new = by_seen (list_any (λ one. one == file.job.number) before) refl (first_of number before later
    new) (λ apart. first_of number (file.job.number ∷ before) later (ap (λ b. b || list_any (λ one. one == number) before) apart ∙ new))
  where
    -- the file of another number
    apart_seen : list_any (λ one. one == file.job.number) before ≡ true → (file.job.number == number) ≡ false
    apart_seen seen = by_same (file.job.number == number) refl where
      by_same : (same : Bool) → (file.job.number == number) ≡ same → (file.job.number == number) ≡ false
      by_same false is = is
      by_same true is = let impossible : true ≡ false = sym seen ∙ ap (λ n. list_any (λ one. one == n) before) (eqb-true _ _ is) ∙ new in cc

    by_number : (same : Bool) → (file.job.number == number) ≡ same
        → ((file.job.number == number) ≡ false → file_of number (first_files (file.job.number ∷ before) later) ≡ file_of number later)
        → cond same (Some file) (file_of number (first_files (file.job.number ∷ before) later))
        ≡ cond same (Some file) (file_of number later)
    by_number true is rest = refl
    by_number false is rest = rest is

    by_seen : (seen : Bool) → list_any (λ one. one == file.job.number) before ≡ seen → file_of number (first_files before later)
        ≡ file_of number later → ((file.job.number == number) ≡ false → file_of number (first_files (file.job.number ∷ before) later)
        ≡ file_of number later)
        → file_of number (cond seen (first_files before later) (file ∷ first_files (file.job.number ∷ before) later))
        ≡ cond (file.job.number == number) (Some file) (file_of number later)
    by_seen true seen rest other = rest ∙ ap (λ b. cond b (Some file) (file_of number later)) (sym (apart_seen seen))
    by_seen false seen rest other = by_number (file.job.number == number) refl other

pub queues_cut : (number : ℕ) (files : List JobFile)
    → queue_in (file_of number (filter has_header (map cut files))) ≡ queue_in (file_of number (first_files [] (filter has_header files)))
queues_cut number files = queue_cut number files ∙ ap queue_in (sym (first_of number [] (filter has_header files) refl))
