-- Small directories, all their faults, and what is saved of them, by computing.
use Rattle.std.specs.Prelude.{◌≡◌, ◌++◌, [], ◌∷◌, ℕ, pos, List, Some, None, codes}
use Rattle.std.specs.FinMap.{from_entries}
use Rattle.spool_faults.specs.Faults.{all_faults}
use Rattle.spool_faults.specs.Salvaged.{all_saved}
use Rattle.spool_model.specs.declared.entry.Entry.TheVariants.{Done}
use Rattle.spool_model.specs.declared.fate.Fate.TheVariants.{Removed, Interrupted}
use Rattle.spool_model.specs.declared.state.State.TheVariants.{Pending, Running}
use Rattle.spool_model.specs.JobTable.{JobEntry, JobTable, table_of}
use Rattle.spool_shows.specs.Examples.{File, damaged, first_job, first_job_new_form, journal, live, removed, script, sequence, started, with_first}
use Rattle.start_journal.specs.Journals.{free_slot, journal_file}
use Rattle.sequence_file.specs.Sequence.{sequence_file}

-- the file of the second job, under its name in the old form
abbrev pub second_old_form : File
second_old_form = (codes "a0000201b968a0", script)

-- a file of the first job in queue b
abbrev pub first_in_b : File
first_in_b = (codes "b0000101b968a0", script)

-- the slot of the start of the fifth job
abbrev pub fifth_started : List ℕ
fifth_started = codes "+S00000005a-000000000067748580.\n"

-- 33 points
abbrev pub points : List ℕ
points = codes "................................."

-- a second job that was not drawn
abbrev pub undrawn : List File
undrawn = sequence (codes "00001\n") ∷ first_job ∷ second_old_form ∷ []

-- the same, and a journal with a rest
abbrev pub journal_with_rest : List File
journal_with_rest = journal points ∷ undrawn

-- a start without a file
abbrev pub without_file : List File
without_file = journal started ∷ sequence (codes "00001\n") ∷ []

-- a start whose file is in another queue
abbrev pub in_another_queue : List File
in_another_queue = journal started ∷ sequence (codes "00001\n") ∷ first_in_b ∷ []

-- two starts of one job
abbrev pub started_twice : List File
started_twice = journal (started ++ started) ∷ sequence (codes "00001\n") ∷ first_job ∷ []

-- an open slot after a closed one
abbrev pub open_after_closed : List File
open_after_closed = journal (free_slot ++ removed) ∷ sequence (codes "00001\n") ∷ []

-- two files of one job
abbrev pub two_files : List File
two_files = sequence (codes "00001\n") ∷ first_job ∷ first_in_b ∷ []

-- a start above the last number, without a file
abbrev pub fifth_alone : List File
fifth_alone = journal fifth_started ∷ sequence (codes "00001\n") ∷ []

-- a sequence file that is no number, a start without a file, and a whole job
abbrev pub bad_sequence : List File
bad_sequence = journal started ∷ sequence (codes "0000g\n") ∷ second_old_form ∷ []

-- the same start, and the file of the first job, which no mark names
abbrev pub orphan_beside_a_job : List File
orphan_beside_a_job = journal fifth_started ∷ sequence (codes "00001\n") ∷ first_job ∷ []

-- files of one job in both forms
abbrev pub both_forms : List File
both_forms = sequence (codes "00000001\n") ∷ first_job_new_form ∷ first_job ∷ []

-- all faults of small directories
pub record SmallDirectoriesHaveFaults : Type 0 where
  pub undrawn_job : all_faults undrawn ≡ damaged (codes "a0000201b968a0") 0 (Some 35) ∷ []
  pub rest : all_faults journal_with_rest ≡ damaged journal_file 32 (Some 46) ∷ damaged (codes "a0000201b968a0") 0 (Some 35) ∷ []
  pub no_file : all_faults without_file ≡ damaged journal_file 0 (Some 43) ∷ []
  pub another_queue : all_faults in_another_queue ≡ damaged journal_file 10 (Some 97) ∷ []
  pub twice : all_faults started_twice ≡ damaged journal_file 32 (Some 43) ∷ []
  pub after_closed : all_faults open_after_closed ≡ damaged journal_file 32 (Some 43) ∷ []
  pub second_file : all_faults two_files ≡ damaged (codes "b0000101b968a0") 0 (Some 35) ∷ []
  pub above_last : all_faults fifth_alone ≡ damaged journal_file 0 (Some 43) ∷ damaged journal_file 0 (Some 43) ∷ []
  pub no_number : all_faults bad_sequence ≡ damaged sequence_file 4 (Some 103) ∷ damaged journal_file 0 (Some 43) ∷ []
  pub old_form : all_faults both_forms ≡ damaged (codes "a0000101b968a0") 0 (Some 35) ∷ []

-- the table with two jobs
abbrev pub with_two : JobEntry → JobEntry → JobTable
with_two first second = table_of 2 (from_entries ((1, first) ∷ (2, second) ∷ [])) None

-- what is saved of them
pub record SmallDirectoriesAreSalvaged : Type 0 where
  pub undrawn_job : all_saved undrawn ≡ with_two (live Pending) (live Pending)
  pub rest : all_saved journal_with_rest ≡ with_two (Done Removed) (Done Removed)
  pub no_file : all_saved without_file ≡ with_first (Done Interrupted)
  pub another_queue : all_saved in_another_queue ≡ with_first (Done Interrupted)
  pub twice : all_saved started_twice ≡ with_first (live (Running (pos 1735689600)))
  pub after_closed : all_saved open_after_closed ≡ with_first (Done Removed)
  pub second_file : all_saved two_files ≡ with_first (live Pending)
  pub above_last : all_saved fifth_alone ≡ table_of 5 (from_entries ((5, Done Interrupted) ∷ [])) None
  pub orphan : all_saved orphan_beside_a_job ≡ table_of 5 (from_entries ((5, Done Interrupted) ∷ (1, Done Removed) ∷ [])) None
  pub no_number : all_saved bad_sequence ≡ table_of 2 (from_entries ((1, Done Interrupted) ∷ (2, Done Removed) ∷ [])) None
  pub old_form : all_saved both_forms ≡ with_first (live Pending)
