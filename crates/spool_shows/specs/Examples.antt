-- Small directories and what they show, by computing.
use Rattle.std.specs.Prelude.{◌≡◌, ◌++◌, [], ◌∷◌, ℕ, pos, List, Option, Some, None, Ok, Err, codes}
use Rattle.std.specs.FinMap.{from_entries}
use Rattle.host_calls.specs.declared.child.Ending.TheVariants.{Exit}
use Rattle.host_calls.specs.declared.damage.Damage.{Damage}
use Rattle.spool_model.specs.declared.entry.Entry.TheVariants.{Live, Done}
use Rattle.spool_model.specs.declared.fate.Fate.TheVariants.{Finished}
use Rattle.spool_model.specs.declared.state.State.TheVariants.{Pending, Running}
use Rattle.spool_model.specs.JobTable.{JobEntry, JobState, JobTable, table_of}
use Rattle.sequence_file.specs.Sequence.{sequence_file}
use Rattle.start_journal.specs.Journals.{free_slot, journal_file}
use Rattle.spool_shows.specs.OldForm.{old_form_shown}
use Rattle.spool_shows.specs.Shown.{shown}

-- a file by its name and its bytes
abbrev pub File : Type 0
File = List ℕ × List ℕ

-- the sequence file with these bytes
abbrev pub sequence : List ℕ → File
sequence bytes = (sequence_file, bytes)

-- the journal with these bytes
abbrev pub journal : List ℕ → File
journal bytes = (journal_file, bytes)

-- the script of the first job, of ann
abbrev pub script : List ℕ
script = codes "#!/bin/sh\n# at user=ann mail=0\necho hi\n"

-- the file of that job, in queue a
abbrev pub first_job : File
first_job = (codes "a0000101b968a0", script)

-- the same file under its name in the new form
abbrev pub first_job_new_form : File
first_job_new_form = (codes "a0000000101b968a0", script)

-- the file of the second job, under its name in the new form
abbrev pub second_job : File
second_job = (codes "a0000000201b968a0", script)

-- an empty list of users that are denied
abbrev pub deny : File
deny = (codes "at.deny", [])

-- the slot of that job's start
abbrev pub started : List ℕ
started = codes "+S00000001a-000000000067748580.\n"

-- the slot of its end
abbrev pub ended : List ℕ
ended = codes "+E00000001-x000000000000000000.\n"

-- the slot of its removal
abbrev pub removed : List ℕ
removed = codes "+R00000001--000000000000000000.\n"

-- the table with this last number and no job
abbrev pub without_jobs : ℕ → JobTable
without_jobs last = table_of last (from_entries []) None

-- the table with the first job alone
abbrev pub with_first : JobEntry → JobTable
with_first entry = table_of 1 (from_entries ((1, entry) ∷ [])) None

-- the entry of that job, in this state
abbrev pub live : JobState → JobEntry
live state = Live (record { queue = 97; minute = 28928160; user = codes "ann"; script = script }) state

-- the table with the first job in this state, and the second one pending
abbrev pub with_both : JobState → JobTable
with_both state = table_of 2 (from_entries ((2, live Pending) ∷ (1, live state) ∷ [])) None

-- the damage of the file of a name, at an offset, with the byte there
abbrev pub damaged : List ℕ → ℕ → Option ℕ → Damage
damaged name offset byte = record { name = name; offset = offset; byte = byte }

-- tables that small directories show
pub record SmallDirectoriesShow : Type 0 where
  pub nothing : shown (deny ∷ []) ≡ Ok (without_jobs 0)
  pub drawn : shown (sequence (codes "00001\n") ∷ deny ∷ []) ≡ Ok (without_jobs 1)
  pub pending : shown (sequence (codes "00001\n") ∷ first_job ∷ deny ∷ []) ≡ Ok (with_first (live Pending))
  pub running : shown (journal started ∷ sequence (codes "00001\n") ∷ first_job ∷ []) ≡ Ok (with_first (live (Running (pos 1735689600))))
  pub done : shown (journal (started ++ ended) ∷ sequence (codes "00001\n") ∷ []) ≡ Ok (with_first (Done (Finished (Exit 0))))
  pub done_with_file : shown (journal (started ++ ended) ∷ sequence (codes "00001\n") ∷ first_job ∷ []) ≡ Ok (with_first (Done (Finished (Exit 0))))
  pub free : shown (journal (started ++ free_slot) ∷ sequence (codes "00001\n") ∷ first_job ∷ []) ≡ Ok (with_first (live (Running (pos 1735689600))))
  pub new_form_drawn : shown (sequence (codes "ffffffff\n") ∷ []) ≡ Ok (without_jobs 4294967295)
  pub new_form_pending : shown (sequence (codes "00000001\n") ∷ first_job_new_form ∷ deny ∷ []) ≡ Ok (with_first (live Pending))
  pub new_form_running : shown (journal started ∷ sequence (codes "00000001\n") ∷ first_job_new_form ∷ []) ≡ Ok (with_first (live (Running (pos 1735689600))))
  pub both_forms : shown (sequence (codes "00000002\n") ∷ second_job ∷ first_job ∷ []) ≡ Ok (with_both Pending)
  pub both_forms_running : shown (journal started ∷ sequence (codes "00000002\n") ∷ second_job ∷ first_job ∷ []) ≡ Ok (with_both (Running (pos 1735689600)))
  pub new_form_name_alone : shown (sequence (codes "00001\n") ∷ first_job_new_form ∷ []) ≡ Ok (with_first (live Pending))
  pub other_names : shown (sequence (codes "00001\n") ∷ (codes "README", codes "x") ∷ first_job ∷ []) ≡ Ok (with_first (live Pending))

-- damage that small directories show
pub record SmallDirectoriesAreDamaged : Type 0 where
  pub sequence_digit : shown (sequence (codes "0000g\n") ∷ []) ≡ Err (damaged sequence_file 4 (Some 103))
  pub sequence_short : shown (sequence (codes "00001") ∷ []) ≡ Err (damaged sequence_file 5 None)
  pub sequence_long : shown (sequence (codes "00001\n\n") ∷ []) ≡ Err (damaged sequence_file 6 (Some 10))
  pub sequence_empty : shown (sequence [] ∷ []) ≡ Err (damaged sequence_file 0 None)
  pub six_digits : shown (sequence (codes "000001\n") ∷ []) ≡ Err (damaged sequence_file 6 (Some 10))
  pub six_digits_alone : shown (sequence (codes "000001") ∷ []) ≡ Err (damaged sequence_file 6 None)
  pub new_form_sequence_digit : shown (sequence (codes "0000000g\n") ∷ []) ≡ Err (damaged sequence_file 7 (Some 103))
  pub new_form_sequence_short : shown (sequence (codes "00000001") ∷ []) ≡ Err (damaged sequence_file 8 None)
  pub new_form_sequence_long : shown (sequence (codes "00000001\n\n") ∷ []) ≡ Err (damaged sequence_file 9 (Some 10))
  pub rest : shown (journal (codes ".................................") ∷ sequence (codes "00001\n") ∷ []) ≡ Err (damaged journal_file 32 (Some 46))
  pub start_without_file : shown (journal started ∷ sequence (codes "00001\n") ∷ []) ≡ Err (damaged journal_file 0 (Some 43))
  pub start_in_another_queue : shown (journal started ∷ sequence (codes "00001\n") ∷ (codes "b0000101b968a0", script) ∷ []) ≡ Err (damaged journal_file 10 (Some 97))
  pub kind : shown (journal (codes "+Z00000001--000000000000000000.\n") ∷ sequence (codes "00001\n") ∷ []) ≡ Err (damaged journal_file 1 (Some 90))
  pub number_of_zeros : shown (journal (codes "+S00000000a-000000000067748580.\n") ∷ sequence (codes "00001\n") ∷ []) ≡ Err (damaged journal_file 9 (Some 48))
  pub second_start : shown (journal (started ++ started) ∷ sequence (codes "00001\n") ∷ first_job ∷ []) ≡ Err (damaged journal_file 32 (Some 43))
  pub open_after_closed : shown (journal (free_slot ++ removed) ∷ sequence (codes "00001\n") ∷ []) ≡ Err (damaged journal_file 32 (Some 43))
  pub not_drawn : shown (sequence (codes "00001\n") ∷ (codes "a0000201b968a0", script) ∷ []) ≡ Err (damaged (codes "a0000201b968a0") 0 (Some 35))
  pub header : shown (sequence (codes "00001\n") ∷ (codes "a0000101b968a0", codes "#!/bin/sh\n# at user=ann mail=2\n") ∷ []) ≡ Err (damaged (codes "a0000101b968a0") 29 (Some 50))
  pub long_user : shown (sequence (codes "00001\n") ∷ (codes "a0000101b968a0", codes "#!/bin/sh\n# at user=abcdefghijklmnopqrstuvwxyzabcdefg mail=0\n") ∷ []) ≡ Err (damaged (codes "a0000101b968a0") 52 (Some 103))
  pub empty_file : shown (sequence (codes "00001\n") ∷ (codes "a0000101b968a0", []) ∷ []) ≡ Err (damaged (codes "a0000101b968a0") 0 None)
  pub two_files : shown (sequence (codes "00001\n") ∷ first_job ∷ (codes "b0000101b968a0", script) ∷ []) ≡ Err (damaged (codes "b0000101b968a0") 0 (Some 35))
  pub old_form_after_new_form : shown (sequence (codes "00000001\n") ∷ first_job_new_form ∷ first_job ∷ []) ≡ Err (damaged first_job.0 0 (Some 35))
  pub new_form_after_old_form : shown (sequence (codes "00000001\n") ∷ first_job ∷ (codes "b0000000101b968a0", script) ∷ []) ≡ Err (damaged (codes "b0000000101b968a0") 0 (Some 35))
  pub new_form_not_drawn : shown (sequence (codes "00000001\n") ∷ second_job ∷ []) ≡ Err (damaged second_job.0 0 (Some 35))

-- what directories show by the old form alone
pub record SmallDirectoriesShowOldForm : Type 0 where
  pub nothing : old_form_shown (deny ∷ []) ≡ Ok (without_jobs 0)
  pub pending : old_form_shown (sequence (codes "00001\n") ∷ first_job ∷ deny ∷ []) ≡ Ok (with_first (live Pending))
  pub running : old_form_shown (journal started ∷ sequence (codes "00001\n") ∷ first_job ∷ []) ≡ Ok (with_first (live (Running (pos 1735689600))))
  pub new_form_name : old_form_shown (sequence (codes "00001\n") ∷ first_job_new_form ∷ []) ≡ Ok (without_jobs 1)
  pub new_form_sequence : old_form_shown (sequence (codes "00000001\n") ∷ []) ≡ Err (damaged sequence_file 5 (Some 48))
