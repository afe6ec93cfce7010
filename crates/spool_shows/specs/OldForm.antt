-- What a directory shows by the old form alone (own): job names of 14 bytes with five digits of the number, and a
-- sequence file of five digits. So spools were read before numbers of eight digits. All else is as now. A directory
-- in which no file has a name of the new form shows the same table now.
use Rattle.std.specs.Prelude.{◌≡◌, ◌==◌, ◌&&◌, ℕ, true, false, List, Option, Some, None, Result, Ok, Err, length, take, slice_index, slice_range, if◌then◌else◌}
use Rattle.std.specs.FinMap as map
use Rattle.std.specs.FinMap.{entries, find}
use Rattle.std.specs.List.{filter, filter_map}
use Rattle.text_reader.specs.HexValues.{number_in}
use Rattle.host_calls.specs.declared.damage.Damage.{Damage}
use Rattle.host_calls.specs.Damages.{damage_at}
use Rattle.host_calls.specs.Directory.{Files, name_cmp}
use Rattle.job_name.specs.JobName.{NamedJob, SpellsJobName, job_in_range}
use Rattle.sequence_file.specs.LastNumber.{fitting}
use Rattle.sequence_file.specs.Sequence.{sequence_file}
use Rattle.spool_model.specs.JobTable.{JobTable}
use Rattle.start_journal.specs.declared.mark.Mark.{Mark}
use Rattle.start_journal.specs.Journals.{JournalRead, journal_file, journal_in}
use Rattle.spool_shows.specs.JobFiles.{JobFile, counts_as, file_named}
use Rattle.spool_shows.specs.Shown.{Shows, shown_by, shown_by_files}

-- the job that a name of 14 bytes is that of: a letter, five digits of its number and eight of its minute
abbrev pub old_form_job_named : List ℕ → Option NamedJob
old_form_job_named name =
    if length name == 14
    then job_in_range false (slice_index name 0) (number_in (slice_range name 1 6)) (number_in (slice_range name 6 14))
    else None

-- the number of the bytes, if they are five digits and a newline
abbrev pub old_form_sequence_in : List ℕ → Option ℕ
old_form_sequence_in bytes = if length bytes == 6 && slice_index bytes 5 == 10 then number_in (take 5 bytes) else None

-- the number, or the first place that does not fit the form
abbrev pub old_form_number_or_damage : List ℕ → Option ℕ → Result ℕ Damage
old_form_number_or_damage bytes (Some number) = Ok number
old_form_number_or_damage bytes None = Err (damage_at sequence_file bytes (fitting false 0 bytes))

-- what the sequence file gives; without a file it is 0
abbrev pub old_form_last_in : Option (List ℕ) → Result ℕ Damage
old_form_last_in None = Ok 0
old_form_last_in (Some bytes) = old_form_number_or_damage bytes (old_form_sequence_in bytes)

-- the file of an entry of the directory, if it is that of a job
abbrev pub old_form_job_file : List ℕ × List ℕ → Option JobFile
old_form_job_file file = file_named file.0 file.1 (old_form_job_named file.0)

-- the files that count, in byte order of their names
abbrev pub old_form_job_files : List Mark → List (List ℕ × List ℕ) → List JobFile
old_form_job_files marks files =
    filter_map old_form_job_file (filter (λ file. counts_as marks (old_form_job_named file.0)) files)

-- what files show after a last number, by what the journal gives
abbrev pub old_form_after_journal : ℕ → Result JournalRead Damage → List (List ℕ × List ℕ) → Result JobTable Damage
old_form_after_journal last (Err damage) files = Err damage
old_form_after_journal last (Ok read) files = shown_by_files last read.marks (old_form_job_files read.marks files)

-- what files show, by what the sequence file gives
abbrev pub old_form_after_last : Result ℕ Damage → List (List ℕ × List ℕ) → Result JobTable Damage
old_form_after_last (Err damage) files = Err damage
old_form_after_last (Ok last) files = old_form_after_journal last (journal_in last (find name_cmp journal_file files)) files

-- what files show that are in byte order of their names
abbrev pub old_form_shown : List (List ℕ × List ℕ) → Result JobTable Damage
old_form_shown files = old_form_after_last (old_form_last_in (find name_cmp sequence_file files)) files

-- what a directory shows
unfoldable pub old_form_shown_by : Files → Result JobTable Damage
old_form_shown_by files = old_form_shown (entries files)

-- the directory shows the table by the old form alone
abbrev pub ShowsOldForm : Files → JobTable → Type 0
ShowsOldForm files table = old_form_shown_by files ≡ Ok table

-- no file has the name of a job in the new form
abbrev pub HasNoNewFormName : Files → Type 0
HasNoNewFormName files = (name : List ℕ) (queue number minute : ℕ) → SpellsJobName name queue number minute true →
    map.get files name ≡ None

-- without names in the new form, a table that is shown by the old form alone is the one that is shown
abbrev pub OldFormTablesAreShown : Type 0
OldFormTablesAreShown = (files : Files) (table : JobTable) → HasNoNewFormName files → ShowsOldForm files table → Shows files table

-- without names in the new form, and with a last number in the old form, what is shown is the same, be it a table or a damage
abbrev pub OldFormDirectoriesShowTheSame : Type 0
OldFormDirectoriesShowTheSame = (files : Files) (last : ℕ) → HasNoNewFormName files →
    old_form_last_in (map.get files sequence_file) ≡ Ok last → shown_by files ≡ old_form_shown_by files
