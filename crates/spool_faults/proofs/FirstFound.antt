-- The first files of each number, one file after the other.
use Rattle.std.proofs.Common.{◌≡◌, ℕ, ◌<◌, ◌≤◌, ◌+◌, Bool, true, false, cond, List, Option, Some, None, [], ◌∷◌, ◌++◌, length, get_or, map, take, sym, ap, subst, ◌∙◌, refl}
use Rattle.std.specs.Prelude.{◌==◌, ◌||◌, is_some}
use Rattle.std.specs.BTreeMap.{Updates, get}
use Rattle.std.specs.List.{filter, list_any}
use Rattle.std.specs.Ordering.{nat_cmp}
use Rattle.std.proofs.lemmas.Bool.{eqb-true}
use Rattle.std.proofs.lemmas.List.{append-nil, map-append, take_all}
use Rattle.std.proofs.lemmas.List.Elements.{filter-append}
use Rattle.job_script.specs.HeaderIn.{header_in}
use Rattle.job_script.proofs.HeaderInLemmas.{header_in-take}
use Rattle.spool_shows.specs.JobFiles.{JobFile, file_of, header_fault_in, job_files}
use Rattle.start_journal.specs.declared.mark.Mark.{Mark}
use Rattle.spool_faults.specs.declared.first_files.FirstFile.{FirstFile}
use Rattle.spool_faults.specs.declared.first_files.FirstFiles.{FirstFiles}
use Rattle.spool_faults.specs.declared.found_file.FoundFile.{FoundFile}
use Rattle.spool_faults.specs.Faults.{first_files, has_header}
use Rattle.spool_faults.specs.inside.FoundFiles.{AreFirstFiles, bare, file_first, file_found, files_found, prefix_of}
use Rattle.spool_shows.proofs.CutFiles.{cut, files_cut}
use Rattle.spool_faults.proofs.CutFiles.{queue_cut, queue_in}
use Rattle.spool_faults.proofs.JobFaults.{found_take, headed, queues_known, queues_more, queues_same, unheaded}

-- the file, unless one of its number comes before it
abbrev unless_seen : Bool → JobFile → List JobFile
unless_seen seen one = cond seen [] (one ∷ [])

-- one more file
first_more : (before : List ℕ) (files : List JobFile) (one : JobFile) → first_files before (files ++ one ∷ [])
    ≡ first_files before files ++ unless_seen (list_any (λ n. n == one.job.number) before || is_some (file_of one.job.number files)) one
first_more before [] one = by_seen (list_any (λ n. n == one.job.number) before) where
  by_seen : (seen : Bool) → cond seen [] (one ∷ []) ≡ unless_seen (seen || false) one
  by_seen true = refl
  by_seen false = refl
first_more before (file ∷ later) one =
    by_seen (list_any (λ n. n == file.job.number) before) refl (first_more before later one)
    (first_more (file.job.number ∷ before) later one) where
      -- the number of the new file comes before, and that of one after
      among : Bool
      among = list_any (λ n. n == one.job.number) before

      found : Bool
      found = is_some (file_of one.job.number later)

      by_old : (same old : Bool) → (same ≡ true → old ≡ true)
          → unless_seen (old || found) one ≡ unless_seen (old || is_some (cond same (Some file) (file_of one.job.number later))) one
      by_old true true is = refl
      by_old true false is = let impossible : false ≡ true = is refl in cc
      by_old false old is = refl

      by_new : (same old : Bool) → unless_seen ((same || old) || found) one
          ≡ unless_seen (old || is_some (cond same (Some file) (file_of one.job.number later))) one
      by_new true true = refl
      by_new true false = refl
      by_new false old = refl

      by_seen : (seen : Bool) → list_any (λ n. n == file.job.number) before ≡ seen
          → first_files before (later ++ one ∷ []) ≡ first_files before later ++ unless_seen (among || found) one
          → first_files (file.job.number ∷ before) (later ++ one ∷ [])
          ≡ first_files (file.job.number ∷ before) later ++ unless_seen ((file.job.number == one.job.number || among) || found) one
          → cond seen (first_files before (later ++ one ∷ [])) (file ∷ first_files (file.job.number ∷ before) (later ++ one ∷ []))
          ≡ cond seen (first_files before later) (file ∷ first_files (file.job.number ∷ before) later)
          ++ unless_seen (among || is_some (cond (file.job.number == one.job.number) (Some file) (file_of one.job.number later))) one
      by_seen true seen rest other =
          rest ∙ ap (λ list. first_files before later ++ list) (by_old (file.job.number == one.job.number) among
          (λ same. sym (ap (λ n. list_any (λ m. m == n) before) (eqb-true _ _ same)) ∙ seen))
      by_seen false new rest other =
          ap (λ list. file ∷ list) other
          ∙ ap (λ list. file ∷ (first_files (file.job.number ∷ before) later ++ list)) (by_new (file.job.number == one.job.number) among)

-- whether a file of the number was found
queue_there : (found : Option JobFile) → is_some (queue_in found) ≡ is_some found
queue_there None = refl
queue_there (Some file) = refl

-- one more file that has no header
pub first_same : (files : List JobFile) (one : JobFile) (firsts : FirstFiles)
    → true ≡ is_some (header_fault_in one.bytes (header_in one.bytes)) → AreFirstFiles files firsts
    → AreFirstFiles (files ++ filter has_header (one ∷ [])) firsts
first_same files one firsts fault are = record {
  queues = queues_same files one firsts.queues fault are.queues;
  files_are = are.files_are ∙ ap (λ list. map bare (first_files [] list)) (sym (unheaded files one fault));
}

-- one whose number has a file
pub first_known : (files : List JobFile) (one : JobFile) (firsts : FirstFiles)
    → false ≡ is_some (header_fault_in one.bytes (header_in one.bytes)) → true ≡ is_some (get nat_cmp firsts.queues one.job.number)
    → AreFirstFiles files firsts → AreFirstFiles (files ++ filter has_header (one ∷ [])) firsts
first_known files one firsts fault known are =
    let seen : is_some (file_of one.job.number files) ≡ true = sym (queue_there (file_of one.job.number files))
    ∙ ap is_some (sym (are.queues one.job.number)) ∙ sym known in
    record {
      queues = queues_known files one firsts.queues fault known are.queues;
      files_are =
          are.files_are
          ∙ ap (map bare) (sym (append-nil (first_files [] files)) ∙ ap (λ b. first_files [] files ++ unless_seen b one) (sym seen)
          ∙ sym (first_more [] files one))
          ∙ ap (λ list. map bare (first_files [] list)) (sym (headed files one fault));
    }

-- one whose number has none yet
pub first_new : (files : List JobFile) (one : JobFile) (first : FirstFile) (old new : FirstFiles)
    → false ≡ is_some (header_fault_in one.bytes (header_in one.bytes)) → false ≡ is_some (get nat_cmp old.queues one.job.number)
    → Updates nat_cmp old.queues new.queues one.job.number (Some one.job.queue)
    → file_first first ≡ bare one → new.files.items ≡ old.files.items ++ first ∷ [] → AreFirstFiles files old
    → AreFirstFiles (files ++ filter has_header (one ∷ [])) new
first_new files one first old new fault unknown updates is more are =
    let fresh : is_some (file_of one.job.number files) ≡ false = sym (queue_there (file_of one.job.number files))
    ∙ ap is_some (sym (are.queues one.job.number)) ∙ sym unknown in
    record {
      queues = queues_more files one old.queues new.queues fault unknown updates are.queues;
      files_are =
          ap (map file_first) more
          ∙ map-append file_first old.files.items (first ∷ [])
          ∙ ap (λ list. list ++ file_first first ∷ []) are.files_are
          ∙ ap (λ file. map bare (first_files [] files) ++ file ∷ []) is
          ∙ sym (map-append bare (first_files [] files) (one ∷ []))
          ∙ ap (map bare) (ap (λ b. first_files [] files ++ unless_seen b one) (sym fresh) ∙ sym (first_more [] files one))
          ∙ ap (λ list. map bare (first_files [] list)) (sym (headed files one fault));
    }

pub first_at : (files : List FoundFile) (place : ℕ) (one : FoundFile) (firsts : FirstFiles) → place < length files → one ≡ get_or files
    place one → AreFirstFiles (filter has_header (files_found (take place files)) ++ filter has_header (file_found one ∷ [])) firsts
    → AreFirstFiles (filter has_header (files_found (take (place + 1) files))) firsts
first_at files place one firsts inside is are =
    subst (λ list. AreFirstFiles list firsts)
    (ap (λ (f : FoundFile). filter has_header (files_found (take place files)) ++ filter has_header (file_found f ∷ [])) is
    ∙ sym (filter-append has_header (files_found (take place files)) (file_found (get_or files place one) ∷ []))
    ∙ ap (filter has_header) (sym (found_take files place one inside)))
    are

pub first_end : (files : List FoundFile) (place : ℕ) (firsts : FirstFiles) → length files ≤ place → AreFirstFiles
    (filter has_header (files_found (take place files))) firsts → AreFirstFiles (filter has_header (files_found files)) firsts
first_end files place firsts past are =
    subst (λ list. AreFirstFiles (filter has_header (files_found list)) firsts) (take_all place files past) are

-- the first bytes of files tell which are the first ones
bare_cut : (before : List ℕ) (files : List JobFile)
    → map bare (first_files before (filter has_header (map cut files))) ≡ map bare (first_files before (filter has_header files))
bare_cut before [] = refl
bare_cut before (file ∷ later) =
    ap (λ read. map bare (first_files before
    (cond (is_some read) (cut file ∷ filter has_header (map cut later)) (filter has_header (map cut later))))) (header_in-take file.bytes)
    ∙ by_test (has_header file) (bare_cut before later) (bare_cut (file.job.number ∷ before) later) where
      by_seen : (seen : Bool) → map bare (first_files before (filter has_header (map cut later))) ≡ map bare (first_files before
          (filter has_header later)) → map bare (first_files (file.job.number ∷ before) (filter has_header (map cut later)))
          ≡ map bare (first_files (file.job.number ∷ before) (filter has_header later))
          → map bare (cond seen (first_files before (filter has_header (map cut later)))
          (cut file ∷ first_files (file.job.number ∷ before) (filter has_header (map cut later))))
          ≡ map bare (cond seen (first_files before (filter has_header later))
          (file ∷ first_files (file.job.number ∷ before) (filter has_header later)))
      by_seen true rest other = rest
      by_seen false rest other = ap (λ list. bare file ∷ list) other

      by_test : (whole : Bool) → map bare (first_files before (filter has_header (map cut later))) ≡ map bare (first_files before
          (filter has_header later)) → map bare (first_files (file.job.number ∷ before) (filter has_header (map cut later)))
          ≡ map bare (first_files (file.job.number ∷ before) (filter has_header later))
          → map bare (first_files before (cond whole (cut file ∷ filter has_header (map cut later)) (filter has_header (map cut later))))
          ≡ map bare (first_files before (cond whole (file ∷ filter has_header later) (filter has_header later)))
      by_test true rest other = by_seen (list_any (λ n. n == file.job.number) before) rest other
      by_test false rest other = rest

-- so the files that are taken of those found are those that are taken
pub taken_first : (marks : List Mark) (files : List (List ℕ × List ℕ)) (found : List JobFile) (firsts : FirstFiles)
    → found ≡ job_files marks (map prefix_of files) → AreFirstFiles (filter has_header found) firsts
    → AreFirstFiles (filter has_header (job_files marks files)) firsts
taken_first marks files found firsts is are =
    let cuts : found ≡ map cut (job_files marks files) = is ∙ files_cut marks files in
    record {
      queues = λ number. are.queues number ∙ ap (λ list. queue_in (file_of number (filter has_header list))) cuts
          ∙ queue_cut number (job_files marks files);
      files_are = are.files_are ∙ ap (λ list. map bare (first_files [] (filter has_header list))) cuts
          ∙ bare_cut [] (job_files marks files);
    }
