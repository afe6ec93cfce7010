-- What is seen of one more file.
use Rattle.std.proofs.Common.{◌≡◌, ℕ, ◌+◌, ◌<◌, ◌≤◌, Bool, true, false, cond, not, arith, List, Some, [], ◌∷◌, ◌++◌, length, get_or, map, take, sym, ap, subst, ◌∙◌, refl, inl, inr}
use Rattle.std.specs.List.{cons_option, filter, filter_map}
use Rattle.std.specs.FinMap as finite
use Rattle.std.specs.FinMap.{entries}
use Rattle.std.proofs.lemmas.List.{append-nil, length-map, map-append, take_all, take_more}
use Rattle.std.proofs.lemmas.List.Elements.{filter-append}
use Rattle.host_calls.specs.Directory.{Files}
use Rattle.job_name.specs.declared.job.JobName.{JobName}
use Rattle.start_journal.specs.declared.mark.Mark.{Mark}
use Rattle.start_journal.specs.Marks.{is_decided}
use Rattle.spool_shows.specs.JobFiles.{JobFile, counts, counts_as, file_named, job_file, job_files}
use Rattle.job_name.specs.JobName.{NamedJob, job_named}
use Rattle.spool_shows.proofs.Membership.{Has, contained, has_contained, has_either}
use Rattle.spool_shows.proofs.FilesSoFar.{IsEntry, entry_at_place, found_more}
use Rattle.spool_store.specs.declared.scanned_files.ScannedFiles.{ScannedFiles}
use Rattle.spool_store.specs.declared.scanned_files.Kind.TheVariants.{Counts}
use Rattle.spool_store.specs.declared.scanned_job.ScannedJob.{ScannedJob}
use Rattle.spool_store.specs.inside.Scan.{AreScannedFiles, IsKind, is_left_over}
use Rattle.spool_store.specs.inside.ScannedJobs.{file_scanned, files_scanned, job_of_name}
use Rattle.spool_store.specs.inside.Tables.{AreUndecided}

-- A file that counts.

one_file : (marks : List Mark) (name bytes : List ℕ) (job : NamedJob) → counts marks name ≡ true → job_named name ≡ Some job
    → job_files marks ((name, bytes) ∷ []) ≡ record { name = name; job = job; bytes = bytes } ∷ []
one_file marks name bytes job counted named =
    ap (λ b. filter_map job_file (cond b ((name, bytes) ∷ []) [])) counted ∙ ap (λ one. cons_option (file_named name bytes one) []) named

no_file : (marks : List Mark) (name bytes : List ℕ) → counts marks name ≡ false → job_files marks ((name, bytes) ∷ []) ≡ []
no_file marks name bytes fails = ap (λ b. filter_map job_file (cond b ((name, bytes) ∷ []) [])) fails

one_scanned : (name : List ℕ) (job : JobName) (bytes : List ℕ) (one : ScannedJob) → one.name ≡ name → one.job ≡ job → one.prefix ≡ bytes
    → file_scanned one ≡ record { name = name; job = job_of_name job; bytes = bytes }
one_scanned name job bytes one name_is job_is bytes_is = λ i. record { name = name_is i; job = job_of_name (job_is i); bytes = bytes_is i }

scanned_append : (scanned new : List ScannedJob) (one : ScannedJob) → new ≡ scanned ++ one ∷ []
    → files_scanned new ≡ files_scanned scanned ++ file_scanned one ∷ []
scanned_append scanned new one is = ap files_scanned is ∙ map-append file_scanned scanned (one ∷ [])

pub counted_scanned : (marks : List Mark) (name : List ℕ) (job : JobName) (bytes : List ℕ) (scanned new : List ScannedJob)
    (one : ScannedJob) → IsKind marks name (Counts job) → new ≡ scanned ++ one ∷ [] → one.name ≡ name → one.job ≡ job → one.prefix ≡ bytes
    → files_scanned new ≡ files_scanned scanned ++ job_files marks ((name, bytes) ∷ [])
counted_scanned marks name job bytes scanned new one kind is name_is job_is bytes_is =
    scanned_append scanned new one is
    ∙ ap (λ file. files_scanned scanned ++ file ∷ []) (one_scanned name job bytes one name_is job_is bytes_is)
    ∙ ap (λ list. files_scanned scanned ++ list) (sym (one_file marks name bytes (job_of_name job) kind.0 kind.2))

undecided_of : (marks : List Mark) (name : List ℕ) (job : NamedJob) → counts marks name ≡ true → job_named name ≡ Some job
    → is_decided job.number marks ≡ false
undecided_of marks name job counted named = by_test (is_decided job.number marks) (sym (ap (counts_as marks) named) ∙ counted) where
  by_test : (b : Bool) → not b ≡ true → b ≡ false
  by_test true is = let impossible : false ≡ true = is in cc
  by_test false is = refl

pub counted_undecided : (marks : List Mark) (name : List ℕ) (job : JobName) (scanned new : List ScannedJob) (one : ScannedJob)
    → IsKind marks name (Counts job) → new ≡ scanned ++ one ∷ [] → one.job ≡ job → AreUndecided marks (files_scanned scanned)
    → AreUndecided marks (files_scanned new)
counted_undecided marks name job scanned new one kind is job_is undecided file has =
    elim (has_either (files_scanned scanned) (file_scanned one ∷ []) file
    (subst (λ list. Has list file) (scanned_append scanned new one is) (has_contained (files_scanned new) file has))) [
      | inl before ↦ undecided file (contained (files_scanned scanned) file before)
      | inr last ↦
          let here : file_scanned one ≡ file = only last in
          ap (λ (f : JobFile). is_decided f.job.number marks) (sym here) ∙ ap (λ (j : JobName). is_decided j.number marks) job_is
          ∙ undecided_of marks name (job_of_name job) kind.0 kind.2
    ] where
      only : Has (file_scanned one ∷ []) file → file_scanned one ≡ file
      only (inl same) = same
      only (inr none) = absurd none

pub same_undecided : (marks : List Mark) (scanned new : List ScannedJob) → new ≡ scanned → AreUndecided marks (files_scanned scanned)
    → AreUndecided marks (files_scanned new)
same_undecided marks scanned new is undecided = subst (λ list. AreUndecided marks (files_scanned list)) (sym is) undecided

-- A file that does not count.

pub other_scanned : (marks : List Mark) (name bytes : List ℕ) (scanned new : List ScannedJob) → counts marks name ≡ false → new ≡ scanned
    → files_scanned new ≡ files_scanned scanned ++ job_files marks ((name, bytes) ∷ [])
other_scanned marks name bytes scanned new fails is =
    ap files_scanned is ∙ sym (append-nil (files_scanned scanned))
    ∙ ap (λ list. files_scanned scanned ++ list) (sym (no_file marks name bytes fails))

pub other_left : (marks : List Mark) (name : List ℕ) (left new : List (List ℕ)) → is_left_over marks name ≡ false → new ≡ left
    → new ≡ left ++ cond (is_left_over marks name) (name ∷ []) []
other_left marks name left new fails is = is ∙ sym (append-nil left) ∙ ap (λ b. left ++ cond b (name ∷ []) []) (sym fails)

pub one_left : (marks : List Mark) (name : List ℕ) (left new : List (List ℕ)) → is_left_over marks name ≡ true → new ≡ left ++ name ∷ []
    → new ≡ left ++ cond (is_left_over marks name) (name ∷ []) []
one_left marks name left new passes is = is ∙ ap (λ b. left ++ cond b (name ∷ []) []) (sym passes)

-- The files so far.

pub prefixes_more : (marks : List Mark) (files here : Files) (names : List (List ℕ)) (place : ℕ) (name : List ℕ) (old new : ScannedFiles)
    → names ≡ finite.keys files → here ≡ files → place < length names → name ≡ get_or names place name
    → AreScannedFiles marks (take place (entries files)) old
    → ((bytes : List ℕ) → finite.get here name ≡ Some bytes
    → files_scanned new.scanned.items ≡ files_scanned old.scanned.items ++ job_files marks ((name, take 60 bytes) ∷ []))
    → new.leftover.items ≡ old.leftover.items ++ cond (is_left_over marks name) (name ∷ []) []
    → AreScannedFiles marks (take (place + 1) (entries files)) new
prefixes_more marks files here names place name old new are same inside at scanned_files scanned left =
    let entry : IsEntry files place name = entry_at_place files names place name are inside at in
    let more : take (place + 1) (entries files) ≡ take place (entries files) ++ (name, entry.bytes) ∷ [] =
    take_more (entries files) place (name, []) entry.inside ∙ ap (λ e. take place (entries files) ++ e ∷ []) entry.at in
    record {
      scanned = found_more marks files here names place name (files_scanned old.scanned.items) (files_scanned new.scanned.items) are same
          inside at scanned_files.scanned scanned;
      leftover =
          left ∙ ap (λ list. list ++ cond (is_left_over marks name) (name ∷ []) []) scanned_files.leftover
          ∙ sym (filter-append (is_left_over marks) (map (λ (e : List ℕ × List ℕ). e.0) (take place (entries files))) (name ∷ []))
          ∙ ap (filter (is_left_over marks)) (sym (ap (map (λ (e : List ℕ × List ℕ). e.0)) more
          ∙ map-append (λ (e : List ℕ × List ℕ). e.0) (take place (entries files)) ((name, entry.bytes) ∷ [])));
    }

pub prefixes_none : (marks : List Mark) (files : List (List ℕ × List ℕ)) (scanned_files : ScannedFiles) → scanned_files.scanned.items ≡ []
    → scanned_files.leftover.items ≡ [] → AreScannedFiles marks (take 0 files) scanned_files
prefixes_none marks files scanned_files scanned left = record { scanned = ap files_scanned scanned; leftover = left }

pub prefixes_all : (marks : List Mark) (files : Files) (names : List (List ℕ)) (place : ℕ) (scanned_files : ScannedFiles)
    → names ≡ finite.keys files → length names ≤ place → AreScannedFiles marks (take place (entries files)) scanned_files
    → AreScannedFiles marks (entries files) scanned_files
prefixes_all marks files names place scanned_files are after so =
    let past : length (entries files) ≤ place = omega (arith, ap length are, length-map (entries files) (λ (e : List ℕ × List ℕ). e.0)) in
    subst (λ list. AreScannedFiles marks list scanned_files) (take_all place (entries files) past) so

pub none_undecided : (marks : List Mark) (scanned : List ScannedJob) → scanned ≡ [] → AreUndecided marks (files_scanned scanned)
none_undecided marks scanned is =
    subst (λ list. AreUndecided marks (files_scanned list)) (sym is) (λ file has. absurd (has_contained [] file has))
