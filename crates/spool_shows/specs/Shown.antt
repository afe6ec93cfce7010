-- What a directory shows (own): one job table, or one damage. A function of the files: no order of calls is in it.
--
-- The checks go in this order, and the first fault counts: the sequence file, the journal, the files of
-- jobs in byte order of their names, and the numbers that are started and not finished.
use Rattle.std.specs.Prelude.{◌+◌, ◌==◌, ◌++◌, ◌≡◌, [], ◌∷◌, ℕ, ℤ, Bool, List, Option, Some, None, Result, Ok, Err, map, if◌then◌else◌}
use Rattle.std.specs.FinMap.{entries, find, from_entries}
use Rattle.std.specs.List.{filter_map}
use Rattle.std.specs.Option.{option_or}
use Rattle.host_calls.specs.declared.damage.Damage.{Damage}
use Rattle.host_calls.specs.Directory.{Files, name_cmp}
use Rattle.job_script.specs.HeaderIn.{header_in}
use Rattle.sequence_file.specs.Sequence.{sequence_file}
use Rattle.spool_model.specs.declared.entry.Entry.TheVariants.{Live, Done}
use Rattle.spool_model.specs.declared.fate.Fate.{Fate}
use Rattle.spool_model.specs.declared.fate.Fate.TheVariants as fate
use Rattle.spool_model.specs.declared.job.Job.{Job}
use Rattle.spool_model.specs.declared.state.State.TheVariants.{Pending, Running}
use Rattle.spool_model.specs.JobTable.{JobEntry, JobState, JobTable, table_of}
use Rattle.start_journal.specs.declared.mark.Mark.{Mark}
use Rattle.start_journal.specs.declared.mark.Mark.TheVariants.{Removed, Started, Ended, Interrupted, Forgotten, Batch}
use Rattle.start_journal.specs.Journals.{JournalRead, gate_damage, journal_file, journal_in, queue_damage}
use Rattle.start_journal.specs.Marks.{is_decided, is_forgotten, last_batch, started_at}
use Rattle.spool_shows.specs.JobFiles.{JobFile, file_of, files_damage, job_files}
use Rattle.sequence_file.specs.LastNumber.{last_in}

-- Numbers that are started and not finished.

-- the damage of the journal at the slot of a start, whose job has this file or none
abbrev pub start_damage : ℕ → ℕ → Option JobFile → Option Damage
start_damage place queue None = Some (gate_damage place)
start_damage place queue (Some file) =
    if file.job.queue == queue then None else Some (queue_damage place queue)

-- the damage that a mark at this place of the journal shows: its job is started and not finished, and
-- has no file, or one of another queue
abbrev pub mark_damage : List Mark → List JobFile → ℕ → Mark → Option Damage
mark_damage marks files place (Started number queue second) =
    if is_decided number marks then None else start_damage place queue (file_of number files)
mark_damage marks files place (Removed number) = None
mark_damage marks files place (Ended number ending) = None
mark_damage marks files place (Interrupted number) = None
mark_damage marks files place (Forgotten number) = None
mark_damage marks files place (Batch second) = None

-- the first such damage, from this place on
abbrev pub starts_damage : List Mark → List JobFile → ℕ → List Mark → Option Damage
starts_damage marks files place [] = None
starts_damage marks files place (mark ∷ later) =
    option_or (mark_damage marks files place mark) (starts_damage marks files (place + 1) later)

-- The table.

-- a job runs since its start, and is pending where there is none
abbrev pub state_since : Option ℤ → JobState
state_since (Some second) = Running second
state_since None = Pending

-- the user of a header
abbrev pub user_of : Option (List ℕ × Bool) → List ℕ
user_of (Some header) = header.0
user_of None = []

-- the job of a file: queue and minute of its name, the user of its header, and the whole file as its script
abbrev pub job_of : JobFile → Job
job_of file =
    record { queue = file.job.queue; minute = file.job.minute; user = user_of (header_in file.bytes); script = file.bytes }

-- the entry of a file
abbrev pub live_entry : List Mark → JobFile → ℕ × JobEntry
live_entry marks file = (file.job.number, Live (job_of file) (state_since (started_at file.job.number marks)))

-- the entry of a number that a mark decides, unless it was forgotten
abbrev pub done_as : List Mark → ℕ → Fate → Option (ℕ × JobEntry)
done_as marks number fate = if is_forgotten number marks then None else Some (number, Done fate)

-- the entry that a mark leaves
abbrev pub done_entry : List Mark → Mark → Option (ℕ × JobEntry)
done_entry marks (Removed number) = done_as marks number fate.Removed
done_entry marks (Ended number ending) = done_as marks number (fate.Finished ending)
done_entry marks (Interrupted number) = done_as marks number fate.Interrupted
done_entry marks (Started number queue second) = None
done_entry marks (Forgotten number) = None
done_entry marks (Batch second) = None

-- the entries: of the files that count, and of the numbers that are finished
abbrev pub entries_shown : List Mark → List JobFile → List (ℕ × JobEntry)
entries_shown marks files = map (live_entry marks) files ++ filter_map (done_entry marks) marks

-- the table of a last number, of marks, and of the files that count
abbrev pub table_shown : ℕ → List Mark → List JobFile → JobTable
table_shown last marks files = table_of last (from_entries (entries_shown marks files)) (last_batch marks)

-- What a directory shows.

-- the first damage of files that count and of starts
abbrev pub damage_of_jobs : ℕ → List Mark → List JobFile → Option Damage
damage_of_jobs last marks files = option_or (files_damage last [] files) (starts_damage marks files 0 marks)

-- that table, where there is no damage
abbrev pub table_or_damage : ℕ → List Mark → List JobFile → Option Damage → Result JobTable Damage
table_or_damage last marks files (Some damage) = Err damage
table_or_damage last marks files None = Ok (table_shown last marks files)

-- what such files show, after a last number and marks
abbrev pub shown_by_files : ℕ → List Mark → List JobFile → Result JobTable Damage
shown_by_files last marks files = table_or_damage last marks files (damage_of_jobs last marks files)

-- what files show after a last number, by what the journal gives
abbrev pub shown_after_journal : ℕ → Result JournalRead Damage → List (List ℕ × List ℕ) → Result JobTable Damage
shown_after_journal last (Err damage) files = Err damage
shown_after_journal last (Ok read) files = shown_by_files last read.marks (job_files read.marks files)

-- what files show, by what the sequence file gives
abbrev pub shown_after_last : Result ℕ Damage → List (List ℕ × List ℕ) → Result JobTable Damage
shown_after_last (Err damage) files = Err damage
shown_after_last (Ok last) files = shown_after_journal last (journal_in last (find name_cmp journal_file files)) files

-- what files show that are in byte order of their names
abbrev pub shown : List (List ℕ × List ℕ) → Result JobTable Damage
shown files = shown_after_last (last_in (find name_cmp sequence_file files)) files

-- what a directory shows
unfoldable pub shown_by : Files → Result JobTable Damage
shown_by files = shown (entries files)

-- the directory shows the table
abbrev pub Shows : Files → JobTable → Type 0
Shows files table = shown_by files ≡ Ok table
