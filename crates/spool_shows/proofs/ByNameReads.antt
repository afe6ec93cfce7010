-- What a directory shows by name says of the sequence file and of the journal, as it computes.
use Rattle.std.proofs.Common.{◌≡◌, ℕ, List}
use Rattle.std.specs.Prelude.{Option, Ok}
use Rattle.std.specs.FinMap as map
use Rattle.host_calls.specs.Directory.{Files}
use Rattle.sequence_file.specs.LastNumber.{last_in}
use Rattle.sequence_file.specs.Sequence.{sequence_file}
use Rattle.sequence_file.proofs.LastNumbers.{last_given}
use Rattle.spool_model.specs.JobTable.{JobTable}
use Rattle.start_journal.specs.FirstFault.{GivesJournal}
use Rattle.start_journal.specs.Journals.{JournalRead, journal_file, journal_in}
use Rattle.start_journal.proofs.FirstFaults.{journals_are_given}
use Rattle.spool_shows.specs.ByName.{ShowsByName}

-- the last number computes
pub last_read : (files : Files) (table : JobTable) → ShowsByName files table → last_in (map.get files sequence_file) ≡ Ok table.last
last_read files table shows = last_given (map.get files sequence_file) table.last shows.last

-- and so do the marks
pub journal_read : (files : Files) (table : JobTable) (shows : ShowsByName files table)
    → journal_in table.last (map.get files journal_file) ≡ Ok shows.read
journal_read files table shows = (journals_are_given table.last (map.get files journal_file) shows.read).1 shows.journal

-- and back: a journal that was read gives what was read
pub read_gives_journal : (last : ℕ) (content : Option (List ℕ)) (read : JournalRead) → journal_in last content ≡ Ok read
    → GivesJournal last content read
read_gives_journal last content read = (journals_are_given last content read).0
