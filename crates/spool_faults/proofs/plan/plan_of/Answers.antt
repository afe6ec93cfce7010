use Rattle.std.proofs.Common.{◌∙◌, [], sym, ap, subst}
use Rattle.std.specs.FinMap as finite
use Rattle.std.specs.List.{filter, filter_map}
use Rattle.spool_shows.specs.JobFiles.{job_files}
use Rattle.start_journal.specs.Journals.{SpellsJournal}
use Rattle.start_journal.specs.Marks.{number_of_mark}
use Rattle.spool_faults.specs.Faults.{first_files, has_header}
use Rattle.spool_faults.specs.Salvaged.{greatest, last_or_zero, marks_with, number_named}
use Rattle.spool_faults.specs.inside.FoundFiles.{AreDecidedNumbers, file_first}
use Rattle.spool_faults.specs.inside.SavedParts.{name_unless}
use Rattle.spool_faults.proofs.Planned.{planned}
use Rattle.spool_faults.proofs.SavingLists.{names_left_are}
use Rattle.spool_faults.proofs.plan.plan_of.Goals as goal

pub returns : goal.returns
returns c = λ files is are.
    let scan = c.args.scan.now in
    let found = filter has_header (job_files scan.marks.items (finite.entries files)) in
    let decided = c.in_ok-decided.decided in
    planned files scan is c.in_ok-marks.marks.items c.in_ok-names.names.items c.in_ok-journal.journal.items c.in_ok-sequence.sequence.items
    c.saved_last-last.result
    (c.in_ok-marks.ensures.saved found
    (subst (λ list. AreDecidedNumbers list scan.decided) (sym c.as_slice.ensures.value) is.decided) is.firsts
    ∙ ap (λ list. marks_with list (first_files [] found) c.in_ok-lost.lost) c.as_slice.ensures.value
    ∙ ap (marks_with scan.marks.items (first_files [] found)) (c.in_ok-lost.ensures files is are))
    (c.in_ok-names.ensures
    ∙ ap (filter_map (λ file. name_unless decided (file_first file))) c.as_slice-3.ensures.value
    ∙ names_left_are c.in_ok-marks.marks.items decided found scan.firsts
    (subst (λ list. AreDecidedNumbers list decided) c.as_slice-2.ensures.value c.in_ok-decided.ensures) is.firsts)
    (subst (λ list. SpellsJournal c.in_ok-journal.journal.items list 256) c.as_slice-4.ensures.value c.in_ok-journal.ensures)
    (c.saved_last-last.ensures
    ∙ ap (λ list. greatest (greatest (last_or_zero scan.number) (filter_map number_of_mark list))
    (filter_map number_named c.as_slice-6.result.now)) c.as_slice-5.ensures.value
    ∙ ap (λ list. greatest (greatest (last_or_zero scan.number) (filter_map number_of_mark scan.marks.items))
    (filter_map number_named list)) c.as_slice-6.ensures.value)
    c.in_ok-sequence.ensures
