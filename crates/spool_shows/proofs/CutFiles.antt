-- The first bytes of job files show of their faults what the whole files do.
use Rattle.std.proofs.Common.{◌≡◌, ℕ, zero, suc, ◌+◌, ◌<◌, ◌≤◌, Bool, true, false, cond, List, Option, Some, None, [], ◌∷◌, length, map, take, drop, max, eqb, ap, ◌∙◌, refl, arith}
use Rattle.std.specs.Prelude.{◌==◌, ◌||◌, ◌&&◌, nat_lt, option_map, slice_get}
use Rattle.std.specs.List.{cons_option, filter, filter_map, list_any}
use Rattle.std.proofs.lemmas.Bool.{eqb-false}
use Rattle.host_calls.specs.Damages.{damage_at}
use Rattle.job_name.specs.JobName.{NamedJob, job_named}
use Rattle.job_script.specs.declared.headers.TheConstants.{MAX_HEADER}
use Rattle.job_script.specs.Header.{before_user, after_user}
use Rattle.job_script.specs.HeaderIn.{alike, flag_alike, has_user, header_in, header_place, user_in}
use Rattle.job_script.proofs.HeaderInLemmas.{header_in-take, header_place-take}
use Rattle.job_script.proofs.HeaderInScans.{alike-matches, name_prefix-runs}
use Rattle.job_script.proofs.HeaderLemmas.{eight_after}
use Rattle.start_journal.specs.declared.mark.Mark.{Mark}
use Rattle.spool_shows.specs.JobFiles.{JobFile, counts, damage_of, file_named, file_place, header_fault_in, job_file, job_files}

-- of a file's name and bytes, as many as a header can have
abbrev pub first_bytes : List ℕ × List ℕ → List ℕ × List ℕ
first_bytes file = (file.0, take MAX_HEADER file.1)

-- a file by its first bytes
abbrev pub cut : JobFile → JobFile
cut file = record { name = file.name; job = file.job; bytes = take 60 file.bytes }

cut_named : (name bytes : List ℕ) (named : Option NamedJob)
    → file_named name (take 60 bytes) named ≡ option_map cut (file_named name bytes named)
cut_named name bytes (Some job) = refl
cut_named name bytes None = refl

cons_cut : (one : Option JobFile) (later : List JobFile)
    → cons_option (option_map cut one) (map cut later) ≡ map cut (cons_option one later)
cons_cut (Some file) later = refl
cons_cut None later = refl

pub files_cut : (marks : List Mark) (files : List (List ℕ × List ℕ))
    → job_files marks (map first_bytes files) ≡ map cut (job_files marks files)
files_cut marks [] = refl
files_cut marks (file ∷ later) = by_test (counts marks file.0) (files_cut marks later) where
  by_test : (b : Bool) → job_files marks (map first_bytes later) ≡ map cut (job_files marks later)
      → filter_map job_file (cond b (first_bytes file ∷ filter (λ (f : List ℕ × List ℕ). counts marks f.0) (map first_bytes later))
      (filter (λ (f : List ℕ × List ℕ). counts marks f.0) (map first_bytes later)))
      ≡ map cut (filter_map job_file
      (cond b (file ∷ filter (λ (f : List ℕ × List ℕ). counts marks f.0) later) (filter (λ (f : List ℕ × List ℕ). counts marks f.0) later)))
  by_test true rest =
      (λ i. cons_option (cut_named file.0 file.1 (job_named file.0) i) (rest i)) ∙ cons_cut (job_file file) (job_files marks later)
  by_test false rest = rest

few_alike : (text bytes : List ℕ) → alike text bytes ≤ length text
few_alike text bytes = (alike-matches text bytes).in_text

few_in_user : (bytes : List ℕ) → length (user_in bytes) ≤ 32
unfolding user_in
few_in_user bytes = (name_prefix-runs (drop 20 bytes)).runs.few

few_in_flag : (bytes : List ℕ) (mail : Bool) → flag_alike bytes mail ≤ 8
unfolding flag_alike
few_in_flag bytes mail =
    let few : alike (after_user mail) (drop (length (user_in bytes)) (drop 20 bytes)) ≤ length (after_user mail) =
    few_alike (after_user mail) (drop (length (user_in bytes)) (drop 20 bytes)) in
    omega (arith, few, eight_after mail)

abbrev header_by : List ℕ → Bool → Bool → Bool → Option (List ℕ × Bool)
header_by user has plain mailed = cond (has && plain) (Some (user, false)) (cond (has && mailed) (Some (user, true)) None)

place_by : (user : List ℕ) (before plain mailed : ℕ) (has : Bool) → before ≤ 20 → length user ≤ 32 → plain ≤ 8 → mailed ≤ 8
    → header_by user has (eqb plain 8) (eqb mailed 8) ≡ None → cond has (20 + length user + max plain mailed) before < 60
place_by user before plain mailed false few_before few some_plain some_mailed none = omega arith
place_by user before plain mailed true few_before few some_plain some_mailed none = by_plain (eqb plain 8) refl (eqb mailed 8) refl none
  where
    by_plain : (one : Bool) → eqb plain 8 ≡ one → (other : Bool) → eqb mailed 8 ≡ other → header_by user true one other ≡ None
        → 20 + length user + max plain mailed < 60
    by_plain true is other also none = cc
    by_plain false is true also none = cc
    by_plain false is false also none =
        let apart : plain ≡ 8 → ⊥ = eqb-false plain 8 is in
        let other_apart : mailed ≡ 8 → ⊥ = eqb-false mailed 8 also in
        omega arith

-- the place of a header's fault lies among the first bytes
pub place_in_prefix : (bytes : List ℕ) → header_in bytes ≡ None → header_place bytes < 60
unfolding header_in header_place
place_in_prefix bytes none =
    place_by (user_in bytes) (alike before_user bytes) (flag_alike bytes false) (flag_alike bytes true) (has_user bytes)
    (few_alike before_user bytes) (few_in_user bytes) (few_in_flag bytes false) (few_in_flag bytes true) none

get-prefix : (bytes : List ℕ) (count place : ℕ) → place < count → slice_get (take count bytes) place ≡ slice_get bytes place
get-prefix bytes zero place few = absurd (omega arith)
get-prefix [] (suc count) place few = refl
get-prefix (byte ∷ bytes) (suc count) zero few = refl
get-prefix (byte ∷ bytes) (suc count) (suc place) few = get-prefix bytes count place (omega arith)

damage_prefix : (name bytes : List ℕ) (place : ℕ) → place < 60 → damage_at name (take 60 bytes) place ≡ damage_at name bytes place
damage_prefix name bytes place few = λ i. record { name = name; offset = place; byte = get-prefix bytes 60 place few i }

fault_same : (bytes : List ℕ) → header_fault_in (take 60 bytes) (header_in (take 60 bytes)) ≡ header_fault_in bytes (header_in bytes)
fault_same bytes = ap (header_fault_in (take 60 bytes)) (header_in-take bytes) ∙ by_header (header_in bytes) where
  by_header : (read : Option (List ℕ × Bool)) → header_fault_in (take 60 bytes) read ≡ header_fault_in bytes read
  by_header (Some header) = refl
  by_header None = ap Some (header_place-take bytes)

place_same : (last : ℕ) (before : List ℕ) (file : JobFile) → file_place last before (cut file) ≡ file_place last before file
place_same last before file = ap (λ fault.
    cond (nat_lt last file.job.number || list_any (λ number. number == file.job.number) before) (Some 0) fault) (fault_same file.bytes)

fault_in_prefix : (bytes : List ℕ) (read : Option (List ℕ × Bool)) (place : ℕ) → header_in bytes ≡ read
    → header_fault_in bytes read ≡ Some place → place < 60
fault_in_prefix bytes (Some header) place is fault = cc
fault_in_prefix bytes None place is fault =
    let here : header_place bytes ≡ place = cc in
    let few = place_in_prefix bytes is in
    omega (arith, few, here)

in_prefix : (last : ℕ) (before : List ℕ) (file : JobFile) (place : ℕ) → file_place last before file ≡ Some place → place < 60
in_prefix last before file place is = by_test (nat_lt last file.job.number || list_any (λ number. number == file.job.number) before) is
  where
    by_test : (early : Bool) → cond early (Some 0) (header_fault_in file.bytes (header_in file.bytes)) ≡ Some place → place < 60
    by_test true found = let here : 0 ≡ place = cc in omega arith
    by_test false found = fault_in_prefix file.bytes (header_in file.bytes) place refl found

pub damage_same : (last : ℕ) (before : List ℕ) (file : JobFile)
    → damage_of (cut file) (file_place last before (cut file)) ≡ damage_of file (file_place last before file)
damage_same last before file = ap (damage_of (cut file)) (place_same last before file) ∙ by_place (file_place last before file) refl where
  by_place : (place : Option ℕ) → file_place last before file ≡ place → damage_of (cut file) place ≡ damage_of file place
  by_place None is = refl
  by_place (Some place) is = ap Some (damage_prefix file.name file.bytes place (in_prefix last before file place is))
