-- What is kept while what is saved of a directory is put together (own).
use Rattle.std.specs.Prelude.{◌≡◌, ℕ, List, Option, Some, None, if◌then◌else◌}
use Rattle.std.specs.BTreeSet.{BTreeSet, contains}
use Rattle.std.specs.Ordering.{nat_cmp}
use Rattle.spool_faults.specs.Salvaged.{removal_mark}
use Rattle.spool_shows.specs.JobFiles.{JobFile}
use Rattle.start_journal.specs.declared.mark.Mark.{Mark}
use Rattle.start_journal.specs.Marks.{has_mark_of}

-- the set has the numbers that the marks name
abbrev pub AreNamedNumbers : List Mark → BTreeSet ℕ → Type 0
AreNamedNumbers marks named = (number : ℕ) → contains nat_cmp named number ≡ has_mark_of number marks

-- the mark that takes the job of a file back, unless the set has its number
abbrev pub removal_unless : BTreeSet ℕ → JobFile → Option Mark
removal_unless named file = if contains nat_cmp named file.job.number then None else Some (removal_mark file)

-- the name of a file, unless the set has its number
abbrev pub name_unless : BTreeSet ℕ → JobFile → Option (List ℕ)
name_unless decided file = if contains nat_cmp decided file.job.number then None else Some file.name
