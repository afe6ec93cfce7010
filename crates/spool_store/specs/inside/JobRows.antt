-- What a scan of the files of jobs finds, file by file, and the rows that it makes (own).
use Rattle.std.specs.Prelude.{◌≡◌, ◌≤◌, ◌==◌, if◌then◌else◌, [], ◌∷◌, ℕ, Bool, List, Some, None, Option, Result, Ok, Err, drop, map, option_map, take}
use Rattle.std.specs.BTreeMap.{is_at}
use Rattle.std.specs.List.{AllByRecursion, list_any}
use Rattle.std.specs.Map.{lookup}
use Rattle.std.specs.Ordering.{nat_cmp}
use Rattle.host_calls.specs.declared.damage.Damage.{Damage}
use Rattle.job_script.specs.HeaderIn.{header_in}
use Rattle.spool_model.specs.declared.row.Row.{Row}
use Rattle.start_journal.specs.declared.mark.Mark.{Mark}
use Rattle.start_journal.specs.Marks.{started_at}
use Rattle.spool_shows.specs.JobFiles.{JobFile, damage_of, file_of, file_place, files_damage}
use Rattle.spool_shows.specs.Shown.{state_since, user_of}
use Rattle.spool_store.specs.inside.Tables.{AreAscending}

-- the row of a file
abbrev pub row_of : List Mark → JobFile → Row
row_of marks file = record {
  number = file.job.number;
  queue = file.job.queue;
  minute = file.job.minute;
  user = user_of (header_in file.bytes);
  state = state_since (started_at file.job.number marks);
}

-- rows under numbers
abbrev pub RowMap : Type 0
RowMap = List (ℕ × Row)

-- the row under the number
abbrev pub row_in_map : RowMap → ℕ → Option Row
row_in_map rows number = lookup (is_at (nat_cmp number)) rows

-- the numbers rise
abbrev pub IsInOrder : RowMap → Type 0
IsInOrder rows = AreAscending (map (λ under. under.0) rows)

-- each row under its own number
abbrev pub rows_by_number : List Row → RowMap
rows_by_number rows = map (λ row. (row.number, row)) rows

-- under each number is the row of its file
abbrev pub AreRowsOf : List Mark → List JobFile → RowMap → Type 0
AreRowsOf marks files rows = (number : ℕ) → row_in_map rows number ≡ option_map (row_of marks) (file_of number files)

-- the rows are those of the files, in the order of their numbers
pub record ListsRows (marks : List Mark) (files : List JobFile) (rows : List Row) : Type 0 where
  pub are : AreRowsOf marks files (rows_by_number rows)
  pub rise : IsInOrder (rows_by_number rows)

-- the files have no damage, and these are their rows
abbrev pub HaveRows : ℕ → List Mark → List JobFile → List Row → Type 0
HaveRows last marks files rows = (files_damage last [] files ≡ None) × ListsRows marks files rows

-- the numbers of files that were surveyed, the last one first, before these
abbrev pub scanned_numbers : List ℕ → List JobFile → List ℕ
scanned_numbers before [] = before
scanned_numbers before (file ∷ later) = scanned_numbers (file.job.number ∷ before) later

-- whether the number is one of these
abbrev pub IsTaken : List ℕ → ℕ → Bool → Type 0
IsTaken numbers number taken = taken ≡ list_any (λ other. other == number) numbers

-- the new rows are these and one row under its number
abbrev pub IsRowInserted : RowMap → RowMap → Row → Type 0
IsRowInserted old new row = (number : ℕ) → row_in_map new number ≡ (if is_at (nat_cmp row.number) number then Some row else row_in_map old
    number)

-- the row of a file that has no fault, or its damage
abbrev pub IsRowOrDamage : ℕ → List ℕ → List Mark → JobFile → Result Row Damage → Type 0
IsRowOrDamage last before marks file (Ok row) = (file_place last before file ≡ None) × (row ≡ row_of marks file)
IsRowOrDamage last before marks file (Err damage) = damage_of file (file_place last before file) ≡ Some damage

-- Of these files so many were surveyed: the damage of all is that of the others after them, and the
-- rows are theirs.
pub record IsScannedSoFar (last : ℕ) (marks : List Mark) (files : List JobFile) (place : ℕ) (rows : RowMap) : Type 0 where
  pub damage : files_damage last [] files ≡ files_damage last (scanned_numbers [] (take place files)) (drop place files)
  pub rows_are : AreRowsOf marks (take place files) rows

-- Of these files so many have rising numbers and rows without a fault; these are the rows, and none has a number above
-- this one.
pub record IsRisingSoFar (last : ℕ) (marks : List Mark) (files : List JobFile) (place above : ℕ) (rows : List Row) : Type 0 where
  pub so_far : IsScannedSoFar last marks files place (rows_by_number rows)
  pub rise : IsInOrder (rows_by_number rows)
  pub below : AllByRecursion (λ number. number ≤ above) (map (λ under. under.0) (rows_by_number rows))
