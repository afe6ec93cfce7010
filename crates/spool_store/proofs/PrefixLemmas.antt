-- What a scan has of files says of them what the whole files do.
use Rattle.std.proofs.Common.{◌≡◌, ℕ, ◌+◌, Bool, true, false, cond, List, Option, Some, None, [], ◌∷◌, ◌++◌, map, sym, ap, ◌∙◌, refl}
use Rattle.std.specs.Prelude.{◌==◌, option_map}
use Rattle.std.specs.List.{filter_map}
use Rattle.std.specs.Option.{option_or}
use Rattle.std.specs.Cmp.{nat_cmp_total}
use Rattle.std.specs.FinMap.{find as find_entry, get-from_entries, nat_cmp-IsAntisymmetric, same_map}
use Rattle.std.specs.Ordering.{eq_by_cmp, nat_cmp}
use Rattle.job_script.proofs.HeaderInLemmas.{header_in-take}
use Rattle.start_journal.specs.declared.mark.Mark.{Mark}
use Rattle.start_journal.specs.declared.mark.Mark.TheVariants.{Removed, Started, Ended, Interrupted, Forgotten, Batch}
use Rattle.start_journal.specs.Marks.{is_decided, last_batch, started_at}
use Rattle.spool_shows.specs.JobFiles.{JobFile, file_of, files_damage}
use Rattle.spool_shows.specs.Shown.{damage_of_jobs, done_entry, entries_shown, job_of, live_entry, mark_damage, start_damage, starts_damage, state_since, table_shown, user_of}
use Rattle.spool_shows.proofs.CutFiles.{cut, damage_same}
use Rattle.step_runs.specs.WithoutScripts.{without_scripts, entry_without_script, job_without_script}
use Rattle.step_runs.proofs.WithoutScriptsLemmas.{entries_are_without_scripts}
use Rattle.spool_model.specs.declared.entry.Entry.TheVariants.{Live}
use Rattle.spool_model.specs.JobTable.{JobEntry, entry_at, table_of}

-- The damage of the files.

files_damage_same : (last : ℕ) (before : List ℕ) (files : List JobFile)
    → files_damage last before (map cut files) ≡ files_damage last before files
files_damage_same last before [] = refl
files_damage_same last before (file ∷ later) =
    λ i. option_or (damage_same last before file i) (files_damage_same last (file.job.number ∷ before) later i)

-- The damage of the starts.

file_of_cut : (number : ℕ) (files : List JobFile) → file_of number (map cut files) ≡ option_map cut (file_of number files)
file_of_cut number [] = refl
file_of_cut number (file ∷ later) = by_test (file.job.number == number) (file_of_cut number later) where
  by_test : (b : Bool) → file_of number (map cut later) ≡ option_map cut (file_of number later)
      → cond b (Some (cut file)) (file_of number (map cut later)) ≡ option_map cut (cond b (Some file) (file_of number later))
  by_test true rest = refl
  by_test false rest = rest

start_same : (place queue : ℕ) (found : Option JobFile) → start_damage place queue (option_map cut found) ≡ start_damage place queue found
start_same place queue None = refl
start_same place queue (Some file) = refl

mark_same : (marks : List Mark) (files : List JobFile) (place : ℕ) (mark : Mark)
    → mark_damage marks (map cut files) place mark ≡ mark_damage marks files place mark
mark_same marks files place (Started number queue second) =
    ap (λ damage. cond (is_decided number marks) None damage) (ap (start_damage place queue) (file_of_cut number files)
    ∙ start_same place queue (file_of number files))
mark_same marks files place (Removed number) = refl
mark_same marks files place (Ended number ending) = refl
mark_same marks files place (Interrupted number) = refl
mark_same marks files place (Forgotten number) = refl
mark_same marks files place (Batch second) = refl

starts_same : (marks : List Mark) (files : List JobFile) (place : ℕ) (later : List Mark)
    → starts_damage marks (map cut files) place later ≡ starts_damage marks files place later
starts_same marks files place [] = refl
starts_same marks files place (mark ∷ later) =
    λ i. option_or (mark_same marks files place mark i) (starts_same marks files (place + 1) later i)

pub damage_of_jobs_same : (last : ℕ) (marks : List Mark) (files : List JobFile)
    → damage_of_jobs last marks (map cut files) ≡ damage_of_jobs last marks files
damage_of_jobs_same last marks files = λ i. option_or (files_damage_same last [] files i) (starts_same marks files 0 marks i)

-- The table without scripts.

job_same : (file : JobFile) → job_without_script (job_of (cut file)) ≡ job_without_script (job_of file)
job_same file = ap (λ header. record { queue = file.job.queue; minute = file.job.minute; user = user_of header; script = [] })
    (header_in-take file.bytes)

find_same : (marks : List Mark) (number : ℕ) (files : List JobFile) (others : List (ℕ × JobEntry))
    → option_map entry_without_script (find_entry nat_cmp number (map (live_entry marks) (map cut files) ++ others))
    ≡ option_map entry_without_script (find_entry nat_cmp number (map (live_entry marks) files ++ others))
find_same marks number [] others = refl
find_same marks number (file ∷ later) others = by_test (eq_by_cmp nat_cmp number file.job.number) (find_same marks number later others)
  where
    by_test : (b : Bool) → option_map entry_without_script (find_entry nat_cmp number (map (live_entry marks) (map cut later) ++ others))
        ≡ option_map entry_without_script (find_entry nat_cmp number (map (live_entry marks) later ++ others))
        → option_map entry_without_script (cond b (Some (live_entry marks (cut file)).1)
        (find_entry nat_cmp number (map (live_entry marks) (map cut later) ++ others))) ≡ option_map entry_without_script
        (cond b (Some (live_entry marks file).1) (find_entry nat_cmp number (map (live_entry marks) later ++ others)))
    by_test true rest = ap (λ job. Some (Live job (state_since (started_at file.job.number marks)))) (job_same file)
    by_test false rest = rest

pub at_shown : (last : ℕ) (marks : List Mark) (files : List JobFile) (number : ℕ)
    → entry_at (without_scripts (table_shown last marks files)) number
    ≡ option_map entry_without_script (find_entry nat_cmp number (entries_shown marks files))
at_shown last marks files number =
    entries_are_without_scripts (table_shown last marks files) number
    ∙ ap (option_map entry_without_script) (get-from_entries nat_cmp_total (entries_shown marks files) number)

pub table_same : (last : ℕ) (marks : List Mark) (files : List JobFile)
    → without_scripts (table_shown last marks (map cut files)) ≡ without_scripts (table_shown last marks files)
unfolding without_scripts
table_same last marks files =
    ap (λ list. table_of last list (last_batch marks)) (same_map nat_cmp_total nat_cmp-IsAntisymmetric _ _ (λ number.
    at_shown last marks (map cut files) number
    ∙ find_same marks number files (filter_map (done_entry marks) marks)
    ∙ sym (at_shown last marks files number)))
