-- A directory that has what is saved of another shows the table that is saved, without a fault.
use Rattle.std.proofs.Common.{ℕ, List, sym, ap, ◌∙◌}
use Rattle.std.specs.Prelude.{Option, Result}
use Rattle.std.specs.FinMap.{entries, find, get-entries}
use Rattle.host_calls.specs.declared.damage.Damage.{Damage}
use Rattle.host_calls.specs.Directory.{name_cmp}
use Rattle.sequence_file.specs.LastNumber.{last_in}
use Rattle.sequence_file.specs.Sequence.{sequence_file}
use Rattle.spool_shows.specs.Shown.{shown_after_journal, shown_after_last, shown_by, shown_by_files, table_or_damage}
use Rattle.start_journal.specs.Journals.{journal_file, journal_in}
use Rattle.spool_faults.specs.Laws.{SalvagesHaveNoFault, SalvagesAreSavedAlike, SalvagesShowWhatIsTaken}
use Rattle.spool_faults.specs.Salvaged.{files_of_salvage, last_of_salvage, marks_of_salvage, salvaged}
use Rattle.spool_faults.proofs.FirstFault.{faultless_directories_are_saved_whole}
use Rattle.spool_faults.proofs.SavedFiles.{same_files}
use Rattle.spool_faults.proofs.SavedNumbers.{saved_drawn}
use Rattle.spool_faults.proofs.SavedWhole.{saved_undamaged}

pub salvages_show_what_is_taken : SalvagesShowWhatIsTaken
unfolding shown_by salvaged
salvages_show_what_is_taken files salvage is =
    let last : Result ℕ Damage = last_in (find name_cmp sequence_file (entries files)) in
    let journal : Option (List ℕ) = find name_cmp journal_file (entries files) in
    ap (λ found. shown_after_last (last_in found) (entries salvage)) (sym (get-entries salvage sequence_file))
    ∙ ap (λ number. shown_after_last number (entries salvage)) is.number
    ∙ ap (λ found. shown_after_journal (last_of_salvage files) (journal_in (last_of_salvage files) found) (entries salvage))
    (sym (get-entries salvage journal_file))
    ∙ ap (λ read. shown_after_journal (last_of_salvage files) read (entries salvage))
    (is.journal (last_of_salvage files) (saved_drawn last journal (entries files)))
    ∙ ap (shown_by_files (last_of_salvage files) (marks_of_salvage files)) (same_files files salvage is)
    ∙ ap (table_or_damage (last_of_salvage files) (marks_of_salvage files) (files_of_salvage files))
    (saved_undamaged last journal (entries files))

pub salvages_have_no_fault : SalvagesHaveNoFault
salvages_have_no_fault files salvage is =
    (faultless_directories_are_saved_whole salvage).none (salvaged files) (salvages_show_what_is_taken files salvage is)

pub salvages_are_saved_alike : SalvagesAreSavedAlike
salvages_are_saved_alike files salvage is =
    sym ((faultless_directories_are_saved_whole salvage).saved (salvaged files) (salvages_show_what_is_taken files salvage is))
