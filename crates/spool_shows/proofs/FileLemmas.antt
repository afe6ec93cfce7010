-- The files of jobs that count.
use Rattle.std.proofs.Common.{◌≡◌, ℕ, true, false, not, List, sym, ap, ◌∙◌}
use Rattle.std.specs.Prelude.{Option, Some, None}
use Rattle.std.specs.List.{filter}
use Rattle.std.specs.Cmp.Lexicographic.{nat_list_cmp_total}
use Rattle.std.specs.FinMap as map
use Rattle.std.specs.FinMap.{entries, entries_sorted}
use Rattle.host_calls.specs.Directory.{Files, name_cmp}
use Rattle.start_journal.specs.declared.mark.Mark.{Mark}
use Rattle.start_journal.specs.Marks.{is_decided}
use Rattle.std.proofs.lemmas.Bool.{not-true}
use Rattle.spool_shows.specs.ByName.{IsJobFile}
use Rattle.spool_shows.specs.JobFiles.{JobFile, counts, counts_as, file_named, job_file, job_files}
use Rattle.job_name.specs.JobName.{NamedJob, job_named}
use Rattle.spool_shows.proofs.EntryLists.{AreApart, apart_filtered, apart_given, apart_sorted, entry_is_file, file_is_entry}
use Rattle.spool_shows.proofs.Membership.{Has, filtered_has, given_has, has_filtered, has_given}

-- the files that count, of a directory
abbrev pub files_that_count : List Mark → Files → List JobFile
files_that_count marks files = job_files marks (entries files)

-- the file of a name says what is there
pub file_says : (name bytes : List ℕ) (named : Option NamedJob) (file : JobFile) → file_named name bytes named ≡ Some file
    → (file.name ≡ name) × (file.bytes ≡ bytes) × (named ≡ Some file.job)
file_says name bytes None file is = let impossible : None ≡ Some file = is in cc
file_says name bytes (Some job) file is =
    let same : record { name = name; job = job; bytes = bytes } ≡ file = cc in
    (ap (λ (of : JobFile). of.name) (sym same), ap (λ (of : JobFile). of.bytes) (sym same), ap (λ (of : JobFile). Some of.job) same)

undecided_of : (marks : List Mark) (named : Option NamedJob) (job : NamedJob) → named ≡ Some job → counts_as marks named ≡ true
    → is_decided job.number marks ≡ false
undecided_of marks named job is counted = not-true (is_decided job.number marks) (sym (ap (counts_as marks) is) ∙ counted)

-- a file of the list is there, and counts
pub counted_is_file : (marks : List Mark) (files : Files) (file : JobFile) → Has (files_that_count marks files) file
    → IsJobFile marks files file
counted_is_file marks files file has =
    let entry : (e : List ℕ × List ℕ) × Has (filter (λ (e : List ℕ × List ℕ). counts marks e.0) (entries files)) e
    × (job_file e ≡ Some file) = given_has job_file _ file has in
    let holds : Has (entries files) entry.0 × (counts marks entry.0.0 ≡ true) =
    filtered_has (λ (e : List ℕ × List ℕ). counts marks e.0) (entries files) entry.0 entry.1 in
    let says : (file.name ≡ entry.0.0) × (file.bytes ≡ entry.0.1) × (job_named entry.0.0 ≡ Some file.job) =
    file_says entry.0.0 entry.0.1 (job_named entry.0.0) file entry.2 in
    record {
      held = ap (map.get files) says.0 ∙ entry_is_file files entry.0.0 entry.0.1 holds.0 ∙ ap Some (sym says.1);
      named = ap job_named says.0 ∙ says.2;
      undecided = undecided_of marks (job_named entry.0.0) file.job says.2 holds.1;
    }

-- a file that exists and counts is in the list
pub file_is_counted : (marks : List Mark) (files : Files) (file : JobFile) → IsJobFile marks files file
    → Has (files_that_count marks files) file
file_is_counted marks files file is =
    let counted : counts marks file.name ≡ true = ap (counts_as marks) is.named ∙ ap not is.undecided in
    let entry : Has (filter (λ (e : List ℕ × List ℕ). counts marks e.0) (entries files)) (file.name, file.bytes) =
    has_filtered (λ (e : List ℕ × List ℕ). counts marks e.0) (entries files) (file.name, file.bytes)
    (file_is_entry files file.name file.bytes is.held) counted in
    has_given job_file _ (file.name, file.bytes) file entry (ap (file_named file.name file.bytes) is.named)

-- no two files of the list have one name
pub names_apart : (marks : List Mark) (files : Files) → AreApart (λ (file : JobFile). file.name) (files_that_count marks files)
names_apart marks files =
    apart_given (λ (e : List ℕ × List ℕ). e.0) (λ (file : JobFile). file.name) job_file
    (λ e file is. (file_says e.0 e.1 (job_named e.0) file is).0)
    (filter (λ (e : List ℕ × List ℕ). counts marks e.0) (entries files))
    (apart_filtered (λ (e : List ℕ × List ℕ). e.0) (λ (e : List ℕ × List ℕ). counts marks e.0) (entries files)
    (apart_sorted name_cmp nat_list_cmp_total (entries files) (entries_sorted files)))

-- files of one name are one
pub one_file : (marks : List Mark) (files : Files) (first second : JobFile) → IsJobFile marks files first → IsJobFile marks files second
    → first.name ≡ second.name → first ≡ second
one_file marks files first second is other same =
    let bytes : Some first.bytes ≡ Some second.bytes = sym is.held ∙ ap (map.get files) same ∙ other.held in
    let jobs : Some first.job ≡ Some second.job = sym is.named ∙ ap job_named same ∙ other.named in
    let same_bytes : first.bytes ≡ second.bytes = cc in
    let same_jobs : first.job ≡ second.job = cc in
    λ i. record { name = same i; job = same_jobs i; bytes = same_bytes i }
