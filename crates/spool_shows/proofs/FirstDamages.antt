-- What a directory shows of damage is its first damage, by names and places.
use Rattle.std.proofs.Common.{◌≡◌, ℕ, List, [], sym, ap, ◌∙◌, refl}
use Rattle.std.specs.Prelude.{Option, Some, None, Result, Ok, Err}
use Rattle.std.specs.FinMap as map
use Rattle.std.specs.FinMap.{entries, get-entries}
use Rattle.std.specs.Option.{option_or}
use Rattle.host_calls.specs.declared.damage.Damage.{Damage}
use Rattle.host_calls.specs.Directory.{Files}
use Rattle.sequence_file.specs.LastNumber.{last_in}
use Rattle.sequence_file.specs.Sequence.{GivesNumber, sequence_file}
use Rattle.sequence_file.proofs.LastNumbers.{last_given, last_numbers_are_damaged, last_spelled}
use Rattle.spool_model.specs.JobTable.{JobTable}
use Rattle.start_journal.specs.declared.mark.Mark.{Mark}
use Rattle.start_journal.specs.Journals.{JournalRead, journal_file, journal_in}
use Rattle.start_journal.proofs.FirstFaults.{journals_are_damaged, journals_are_given}
use Rattle.spool_shows.specs.DamageLaws.{DirectoriesShowTheirFirstDamage, UndamagedDirectoriesShowTables}
use Rattle.spool_shows.specs.FirstDamage.{IsFirstDamage, ReadAs, of_file, of_journal, of_sequence, of_start}
use Rattle.spool_shows.specs.JobFiles.{files_damage}
use Rattle.spool_shows.specs.Shown.{damage_of_jobs, shown_after_journal, shown_after_last, shown_by, starts_damage, table_or_damage, table_shown}
use Rattle.spool_shows.proofs.FileDamages.{all_undamaged, file_first, first_file, undamaged_all, undamaged_once}
use Rattle.spool_shows.proofs.FileLemmas.{files_that_count}
use Rattle.spool_shows.proofs.StartDamages.{first_start, start_first}

-- What is computed is the first damage.

by_files : (files : Files) (damage : Damage) (last : ℕ) (marks : List Mark) → ReadAs files last marks
    → (found : Option Damage) → files_damage last [] (files_that_count marks files) ≡ found
    → option_or found (starts_damage marks (files_that_count marks files) 0 marks) ≡ Some damage → IsFirstDamage files damage
by_files files damage last marks read (Some one) found is =
    let same : one ≡ damage = cc in
    of_file last marks read (first_file last marks files damage (found ∙ ap Some same))
by_files files damage last marks read None none is =
    of_start last marks read (all_undamaged last marks files none) (first_start marks files damage is)

by_jobs : (files : Files) (damage : Damage) (last : ℕ) (marks : List Mark) → ReadAs files last marks
    → (found : Option Damage) → damage_of_jobs last marks (files_that_count marks files) ≡ found
    → table_or_damage last marks (files_that_count marks files) found ≡ Err damage → IsFirstDamage files damage
by_jobs files damage last marks read None none is =
    let impossible : ◌≡◌ {A = Result JobTable Damage} (Ok (table_shown last marks (files_that_count marks files))) (Err damage) = is in
    cc
by_jobs files damage last marks read (Some one) found is =
    let same : one ≡ damage = cc in
    by_files files damage last marks read (files_damage last [] (files_that_count marks files)) refl (found ∙ ap Some same)

by_journal : (files : Files) (damage : Damage) (last : ℕ) → GivesNumber (map.get files sequence_file) last
    → (found : Result JournalRead Damage) → journal_in last (map.get files journal_file) ≡ found
    → shown_after_journal last found (entries files) ≡ Err damage → IsFirstDamage files damage
by_journal files damage last gives (Err one) found is =
    let same : one ≡ damage = cc in
    of_journal last gives ((journals_are_damaged last (map.get files journal_file) damage).0 (found ∙ ap Err same))
by_journal files damage last gives (Ok read) found is =
    by_jobs files damage last read.marks
    (record { sequence = gives; free = read.free; journal = (journals_are_given last (map.get files journal_file) read).0 found })
    (damage_of_jobs last read.marks (files_that_count read.marks files)) refl is

by_last : (files : Files) (damage : Damage) (found : Result ℕ Damage) → last_in (map.get files sequence_file) ≡ found
    → shown_after_last found (entries files) ≡ Err damage → IsFirstDamage files damage
by_last files damage (Err one) found is =
    let same : one ≡ damage = cc in
    of_sequence ((last_numbers_are_damaged (map.get files sequence_file) damage).0 (found ∙ ap Err same))
by_last files damage (Ok last) found is =
    by_journal files damage last (last_spelled (map.get files sequence_file) last found) (journal_in last (map.get files journal_file)) refl
    (ap (λ content. shown_after_journal last (journal_in last content) (entries files)) (get-entries files journal_file) ∙ is)

-- what a directory shows, by what is under the two names
shown_is : (files : Files) → shown_by files ≡ shown_after_last (last_in (map.get files sequence_file)) (entries files)
unfolding shown_by
shown_is files = ap (λ content. shown_after_last (last_in content) (entries files)) (sym (get-entries files sequence_file))

computed_first : (files : Files) (damage : Damage) → shown_by files ≡ Err damage → IsFirstDamage files damage
computed_first files damage is = by_last files damage (last_in (map.get files sequence_file)) refl (sym (shown_is files) ∙ is)

-- The first damage is computed.

after_last : (files : Files) (last : ℕ) → GivesNumber (map.get files sequence_file) last
    → shown_by files ≡ shown_after_journal last (journal_in last (map.get files journal_file)) (entries files)
after_last files last gives =
    shown_is files ∙ ap (λ found. shown_after_last found (entries files)) (last_given (map.get files sequence_file) last gives)
    ∙ ap (λ content. shown_after_journal last (journal_in last content) (entries files)) (sym (get-entries files journal_file))

after_journal : (files : Files) (last : ℕ) (marks : List Mark) (damage : Damage) → ReadAs files last marks
    → damage_of_jobs last marks (files_that_count marks files) ≡ Some damage → shown_by files ≡ Err damage
after_journal files last marks damage read is =
    after_last files last read.sequence
    ∙ ap (λ found. shown_after_journal last found (entries files))
    ((journals_are_given last (map.get files journal_file) (record { marks = marks; free = read.free })).1 read.journal)
    ∙ ap (table_or_damage last marks (files_that_count marks files)) is

first_computed : (files : Files) (damage : Damage) → IsFirstDamage files damage → shown_by files ≡ Err damage
first_computed files damage (of_sequence is) =
    shown_is files
    ∙ ap (λ found. shown_after_last found (entries files)) ((last_numbers_are_damaged (map.get files sequence_file) damage).1 is)
first_computed files damage (of_journal last gives is) =
    after_last files last gives
    ∙ ap (λ found. shown_after_journal last found (entries files)) ((journals_are_damaged last (map.get files journal_file) damage).1 is)
first_computed files damage (of_file last marks read is) =
    after_journal files last marks damage read
    (ap (λ o. option_or o (starts_damage marks (files_that_count marks files) 0 marks)) (file_first last marks files damage is))
first_computed files damage (of_start last marks read fine is) =
    after_journal files last marks damage read
    (ap (λ o. option_or o (starts_damage marks (files_that_count marks files) 0 marks)) (undamaged_all last marks files fine)
    ∙ start_first marks files (undamaged_once last marks files fine) damage is)

pub directories_show_their_first_damage : DirectoriesShowTheirFirstDamage
directories_show_their_first_damage files damage = (computed_first files damage, first_computed files damage)

pub undamaged_directories_show_tables : UndamagedDirectoriesShowTables
undamaged_directories_show_tables files = (
  λ shown damage is.
      let impossible : ◌≡◌ {A = Result JobTable Damage} (Ok shown.0) (Err damage) = sym shown.1 ∙ first_computed files damage is in
      cc,
  λ none. by_answer none (shown_by files) refl,
) where
  by_answer : ((damage : Damage) → ¬ IsFirstDamage files damage) → (answer : Result JobTable Damage) → shown_by files ≡ answer
      → (table : JobTable) × (shown_by files ≡ Ok table)
  by_answer none (Ok table) is = (table, is)
  by_answer none (Err damage) is = absurd (none damage (computed_first files damage is))
