-- The first damage of a directory (own), by names and places: of the sequence file, of the journal, of the files of
-- jobs in byte order of their names, or of the starts in the order of their marks.
use Rattle.std.specs.Prelude.{◌≡◌, ◌≤◌, ◌<◌, false, ℕ, ℤ, List, Some, slice_get}
use Rattle.std.specs.declared.cmp.Ordering.TheVariants.{Less}
use Rattle.std.specs.FinMap as map
use Rattle.host_calls.specs.declared.damage.Damage.{Damage}
use Rattle.host_calls.specs.Damages.{damage_at}
use Rattle.host_calls.specs.Directory.{Files, name_cmp}
use Rattle.job_script.specs.Header.{IsHeaderFault}
use Rattle.sequence_file.specs.Faults.{IsSequenceDamage}
use Rattle.sequence_file.specs.Sequence.{GivesNumber, sequence_file}
use Rattle.start_journal.specs.declared.mark.Mark.{Mark}
use Rattle.start_journal.specs.declared.mark.Mark.TheVariants.{Started}
use Rattle.start_journal.specs.FirstFault.{GivesJournal, IsJournalDamage}
use Rattle.start_journal.specs.Journals.{gate_damage, journal_file, queue_damage}
use Rattle.start_journal.specs.Marks.{is_decided}
use Rattle.spool_shows.specs.ByName.{HasFile, IsJobFile, IsWholeFile}
use Rattle.spool_shows.specs.JobFiles.{JobFile}

-- the sequence file and the journal have no damage: they read as this last number and these marks
pub record ReadAs (files : Files) (last : ℕ) (marks : List Mark) : Type 0 where
  pub sequence : GivesNumber (map.get files sequence_file) last
  pub free : ℕ
  pub journal : GivesJournal last (map.get files journal_file) (record { marks = marks; free = free })

-- Files of jobs. The marks are those of the journal.

-- the one file comes before the other, by their names
abbrev pub IsEarlierName : JobFile → JobFile → Type 0
IsEarlierName one other = name_cmp one.name other.name ≡ Less

-- a file before this one has its number
pub record IsSecond (marks : List Mark) (files : Files) (file : JobFile) : Type 0 where
  pub first : JobFile
  pub is : IsJobFile marks files first
  pub before : IsEarlierName first file
  pub same : first.job.number ≡ file.job.number

-- the file has no damage
pub record IsUndamaged (last : ℕ) (marks : List Mark) (files : Files) (file : JobFile) : Type 0 where
  pub whole : IsWholeFile last file
  pub only : ¬ IsSecond marks files file

-- Where the file is damaged, and why.
pub data IsDamagedAt (last : ℕ) (marks : List Mark) (files : Files) (file : JobFile) (place : ℕ) : Type 0 where
  -- its number was not drawn: at its first byte
  not_drawn : last < file.job.number → place ≡ 0 → IsDamagedAt last marks files file place
  -- a file before it has its number: at its first byte
  second : IsSecond marks files file → place ≡ 0 → IsDamagedAt last marks files file place
  -- it begins with no header: where it leaves the last header that it began like
  no_header : file.job.number ≤ last → ¬ IsSecond marks files file → IsHeaderFault file.bytes place
      → IsDamagedAt last marks files file place

-- the file is the first damaged one, and this is the damage
pub record IsFileDamage (last : ℕ) (marks : List Mark) (files : Files) (damage : Damage) : Type 0 where
  pub file : JobFile
  pub is : IsJobFile marks files file
  pub earlier : (other : JobFile) → IsJobFile marks files other → IsEarlierName other file → IsUndamaged last marks files other
  pub place : ℕ
  pub damaged : IsDamagedAt last marks files file place
  pub damage_is : damage ≡ damage_at file.name file.bytes place

-- Starts.

-- the mark at this place of the journal starts the number in this queue, and no mark decides it
pub record IsOpenStart (marks : List Mark) (place number queue : ℕ) : Type 0 where
  pub second : ℤ
  pub holds : slice_get marks place ≡ Some (Started number queue second)
  pub undecided : is_decided number marks ≡ false

-- The damage of such a start, and why.
pub data IsDamagedStart (marks : List Mark) (files : Files) (place number queue : ℕ) (damage : Damage) : Type 0 where
  -- no file has its number: at the gate of its slot
  no_file : ((file : JobFile) → IsJobFile marks files file → ¬ (file.job.number ≡ number)) → damage ≡ gate_damage place
      → IsDamagedStart marks files place number queue damage
  -- its number has a file in another queue: at the queue in its slot
  other_queue : (file : JobFile) → IsJobFile marks files file → file.job.number ≡ number → ¬ (file.job.queue ≡ queue)
      → damage ≡ queue_damage place queue → IsDamagedStart marks files place number queue damage

-- some start is the first damaged one, and this is the damage
pub record IsStartDamage (marks : List Mark) (files : Files) (damage : Damage) : Type 0 where
  pub place : ℕ
  pub number : ℕ
  pub queue : ℕ
  pub is : IsOpenStart marks place number queue
  pub earlier : (other number queue : ℕ) → other < place → IsOpenStart marks other number queue → HasFile marks files number queue
  pub damaged : IsDamagedStart marks files place number queue damage

-- The first damage of the directory.
pub data IsFirstDamage (files : Files) (damage : Damage) : Type 0 where
  -- of the sequence file
  of_sequence : IsSequenceDamage (map.get files sequence_file) damage → IsFirstDamage files damage
  -- of the journal, where the sequence file has none
  of_journal : (last : ℕ) → GivesNumber (map.get files sequence_file) last →
      IsJournalDamage last (map.get files journal_file) damage
      → IsFirstDamage files damage
  -- of a job's file, where neither of them has one
  of_file : (last : ℕ) (marks : List Mark) → ReadAs files last marks → IsFileDamage last marks files damage
      → IsFirstDamage files damage
  -- of a start, where no file has one
  of_start : (last : ℕ) (marks : List Mark) → ReadAs files last marks
      → ((file : JobFile) → IsJobFile marks files file → IsUndamaged last marks files file) → IsStartDamage marks files damage
      → IsFirstDamage files damage
