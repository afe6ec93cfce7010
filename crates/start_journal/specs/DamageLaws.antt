-- What `journal_in` computes is what is said of the slots by their places.
use Rattle.std.specs.Prelude.{◌≡◌, ◌↔◌, ℕ, List, Option, Ok, Err}
use Rattle.host_calls.specs.declared.damage.Damage.{Damage}
use Rattle.start_journal.specs.FirstFault.{GivesJournal, IsJournalDamage}
use Rattle.start_journal.specs.Journals.{JournalRead, journal_in}

-- it answers damage exactly at the journal's first fault
abbrev pub JournalsAreDamaged : Type 0
JournalsAreDamaged = (last : ℕ) (content : Option (List ℕ)) (damage : Damage) →
    (journal_in last content ≡ Err damage) ↔ IsJournalDamage last content damage

-- it answers marks and free slots exactly where the journal gives them
abbrev pub JournalsAreGiven : Type 0
JournalsAreGiven = (last : ℕ) (content : Option (List ℕ)) (read : JournalRead) →
    (journal_in last content ≡ Ok read) ↔ GivesJournal last content read

-- a journal gives some exactly where it has no fault
abbrev pub WholeJournalsAreGiven : Type 0
WholeJournalsAreGiven = (last : ℕ) (content : Option (List ℕ)) →
    ((read : JournalRead) × GivesJournal last content read) ↔ ((damage : Damage) → ¬ IsJournalDamage last content damage)
