-- What is put together by one look is what is to be written.
use Rattle.std.proofs.Common.{◌≡◌, ◌≤◌, length, arith, ℕ, ℤ, Bool, true, false, List, Option, Some, None, [], ◌∷◌, ◌++◌, map, sym, ap, subst, ◌∙◌, refl, append_assoc}
use Rattle.std.specs.Prelude.{◌==◌, ◌||◌, IfErr, IfOk, Result, Ok, Err, option_map}
use Rattle.std.specs.FinMap as finite
use Rattle.std.specs.FinMap.{entries, find, get-entries}
use Rattle.std.specs.List.{filter, filter_map, list_any}
use Rattle.std.proofs.lemmas.Bool.{and_parts, eqb-true}
use Rattle.std.proofs.lemmas.List.{append-nil, nil_from_length}
use Rattle.host_calls.specs.declared.damage.Damage.{Damage}
use Rattle.host_calls.specs.Directory.{Files, name_cmp}
use Rattle.sequence_file.specs.LastNumber.{last_in}
use Rattle.sequence_file.specs.Sequence.{IsFaultAt, SpellsIn, SpellsSequence, sequence_file}
use Rattle.sequence_file.proofs.LastNumbers.{last_damage, last_given}
use Rattle.spool_model.specs.declared.number.TheConstants.{LAST_NUMBER}
use Rattle.spool_shows.specs.JobFiles.{JobFile, job_files}
use Rattle.spool_shows.specs.Shown.{mark_damage}
use Rattle.start_journal.specs.declared.mark.Mark.{Mark}
use Rattle.start_journal.specs.declared.mark.Mark.TheVariants.{Started, Interrupted}
use Rattle.start_journal.specs.declared.take_marks.TakenMark.{TakenMark}
use Rattle.start_journal.specs.Journals.{AreWritable, SpellsJournal, are_legal_after, journal_file}
use Rattle.start_journal.specs.Marks.{number_of_mark}
use Rattle.start_journal.specs.Taken.{journal_faults, marks_of, marks_taken, taken_of}
use Rattle.start_journal.proofs.ReadLemmas.{all_writable}
use Rattle.spool_faults.specs.declared.first_files.FirstFiles.{FirstFiles}
use Rattle.spool_faults.specs.declared.scan.SpoolScan.{SpoolScan}
use Rattle.spool_faults.specs.Faults.{bound_by, faults_of, first_files, has_header, jobs_faults, sequence_faults}
use Rattle.spool_faults.specs.Plan.{IsPlanOf, name_of_file}
use Rattle.spool_faults.specs.Salvaged.{given_up, greatest, is_faulty, is_left, is_orphan, is_unnamed, last_or_zero, loses_marks, marks_of_salvage, marks_with, number_named, removal_mark}
use Rattle.spool_faults.specs.inside.FoundFiles.{AreFirstFiles, AreQueues}
use Rattle.spool_faults.specs.inside.ScanResult.{IsSpoolScan}
use Rattle.spool_faults.proofs.CutFiles.{first_of, queue_in}
use Rattle.spool_faults.proofs.FilesFirst.{no_orphan}
use Rattle.spool_faults.proofs.JournalFirst.{both_empty, journal_wider}
use Rattle.spool_faults.proofs.NumbersDrawn.{few_last}
use Rattle.spool_faults.proofs.SavedMarks.{taken_sound}
use Rattle.spool_faults.proofs.SavingLists.{given_made}

-- the last number, or the damage, that is read of the bytes of a sequence file
pub number_read : (content : Option (List ℕ)) (held bytes : List ℕ) (read : Result ℕ Damage) → content ≡ Some held
    → bytes ≡ held → IfOk read (SpellsSequence bytes) → IfErr read (λ damage. damage.name ≡ sequence_file)
    → IfErr read (λ damage. IsFaultAt bytes damage.offset damage.byte) → read ≡ last_in content
number_read content held bytes (Ok number) is same spelled named fault =
    sym (ap last_in (is ∙ ap Some (sym same)) ∙ last_given (Some bytes) number spelled)
number_read content held bytes (Err damage) is same spelled named fault =
    sym (ap last_in (is ∙ ap Some (sym same))
    ∙ last_damage (Some bytes) damage (record { bytes = bytes; held = refl; name_is = named; fault = fault }))

-- the marks that are taken can be written
pub marks_writable : (journal : Option (List ℕ)) (taken : List TakenMark) (marks : List Mark) → taken ≡ taken_of journal
    → marks ≡ marks_of taken → AreWritable marks
marks_writable journal taken marks is also =
    subst AreWritable (sym (also ∙ ap marks_of is))
    (all_writable (marks_taken journal) (and_parts (are_legal_after [] (marks_taken journal)) _ (taken_sound journal)).1)

-- the queues of the first files are theirs among the first files alone
pub queues_taken : (files : List JobFile) (firsts : FirstFiles) → AreFirstFiles files firsts
    → AreQueues (first_files [] files) firsts.queues
queues_taken files firsts are = λ number. are.queues number ∙ ap queue_in (sym (first_of number [] files refl))

-- a start is given up, if it has a fault
pub up_some : (all : List Mark) (files : List JobFile) (mark : Mark) (number queue : ℕ) (second : ℤ) (fault : Option Damage)
    (damage : Damage) → mark ≡ Started number queue second → fault ≡ mark_damage all files 0 (Started number queue second)
    → fault ≡ Some damage → Some (Interrupted number) ≡ given_up all files mark
up_some all files mark number queue second fault damage is here some =
    sym (ap (given_up all files) is ∙ ap (option_map (λ (d : Damage). Interrupted number)) (sym here ∙ some))

pub up_none : (all : List Mark) (files : List JobFile) (mark : Mark) (number queue : ℕ) (second : ℤ) (fault : Option Damage)
    → mark ≡ Started number queue second → fault ≡ mark_damage all files 0 (Started number queue second) → fault ≡ None
    → None ≡ given_up all files mark
up_none all files mark number queue second fault is here none =
    sym (ap (given_up all files) is ∙ ap (option_map (λ (d : Damage). Interrupted number)) (sym here ∙ none))

-- a list without an element
pub none_listed : (faults : List Damage) → true ≡ (length faults == 0) → faults ≡ []
none_listed faults is = nil_from_length faults (eqb-true (length faults) 0 (sym is))

-- where a directory has no fault, its journal has none by the greatest bound
few_bound : (content : Option (List ℕ)) (last : Result ℕ Damage) → last_in content ≡ last → bound_by last ≤ LAST_NUMBER
few_bound content (Ok last) is = few_last content last is
few_bound content (Err damage) is = omega arith

pub faultless_journal : (files : Files) (content : Option (List ℕ)) → content ≡ finite.get files journal_file → faults_of files ≡ []
    → journal_faults LAST_NUMBER content ≡ []
unfolding faults_of
faultless_journal files content is none =
    let last : Result ℕ Damage = last_in (find name_cmp sequence_file (entries files)) in
    let later : journal_faults (bound_by last) (find name_cmp journal_file (entries files)) ++ jobs_faults (bound_by last)
    (marks_taken (find name_cmp journal_file (entries files))) (taken_of (find name_cmp journal_file (entries files))) (entries files)
    ≡ [] = (both_empty (sequence_faults last) _ none).1 in
    ap (journal_faults LAST_NUMBER) (is ∙ get-entries files journal_file)
    ∙ journal_wider (bound_by last) LAST_NUMBER (find name_cmp journal_file (entries files))
    (few_bound (find name_cmp sequence_file (entries files)) last refl) (both_empty _ _ later).0

-- the marks that are saved, where none may be lost, and where some may be
pub saved_plain : (marks : List Mark) (taken : List JobFile) (lost : Bool) (empty first saved : List Mark) → empty ≡ []
    → first ≡ empty ++ marks → saved ≡ first ++ filter_map (given_up marks taken) marks → false ≡ lost → saved ≡ marks_with marks taken lost
saved_plain marks taken false empty first saved none one is whole =
    is ∙ ap (λ list. list ++ filter_map (given_up marks taken) marks) (one ∙ ap (λ list. list ++ marks) none)
    ∙ ap (λ list. marks ++ list) (sym (append-nil (filter_map (given_up marks taken) marks)))
saved_plain marks taken true empty first saved none one is whole = let impossible : false ≡ true = whole in cc

pub saved_lost : (marks : List Mark) (taken : List JobFile) (lost : Bool) (empty first second saved backs : List Mark) → empty ≡ []
    → first ≡ empty ++ marks → second ≡ first ++ filter_map (given_up marks taken) marks → true ≡ lost → saved ≡ second ++ backs
    → backs ≡ map removal_mark (filter (is_unnamed marks) taken) → saved ≡ marks_with marks taken lost
saved_lost marks taken false empty first second saved backs none one two some is are = let impossible : true ≡ false = some in cc
saved_lost marks taken true empty first second saved backs none one two some is are =
    is ∙ ap (λ list. second ++ list) are
    ∙ ap (λ list. list ++ map removal_mark (filter (is_unnamed marks) taken)) (two
    ∙ ap (λ list. list ++ filter_map (given_up marks taken) marks) (one ∙ ap (λ list. list ++ marks) none))
    ∙ append_assoc marks (filter_map (given_up marks taken) marks) (map removal_mark (filter (is_unnamed marks) taken))

module _ (files : Files) (scan : SpoolScan) (is : IsSpoolScan files scan) where
  -- the journal, and the files that are taken by some marks
  abbrev journal : Option (List ℕ)
  journal = find name_cmp journal_file (entries files)

  abbrev taken_by : List Mark → List JobFile
  taken_by marks = first_files [] (filter has_header (job_files marks (entries files)))

  of_journal : scan.journal ≡ journal
  of_journal = is.journal ∙ get-entries files journal_file

  of_marks : scan.marks.items ≡ marks_taken journal
  of_marks = is.marks ∙ ap marks_taken of_journal

  of_number : scan.number ≡ last_in (find name_cmp sequence_file (entries files))
  of_number = is.number ∙ ap last_in (get-entries files sequence_file)

  saved_is : (saved : List Mark) → saved ≡ marks_with scan.marks.items (taken_by scan.marks.items)
      (loses_marks scan.number scan.journal (taken_by scan.marks.items)) → saved ≡ marks_of_salvage files
  saved_is saved so =
      so ∙ ap (λ list. marks_with list (taken_by list) (loses_marks scan.number scan.journal (taken_by list))) of_marks
      ∙ ap (λ content. marks_with (marks_taken journal) (taken_by (marks_taken journal))
      (loses_marks scan.number content (taken_by (marks_taken journal)))) of_journal
      ∙ ap (λ last. marks_with (marks_taken journal) (taken_by (marks_taken journal))
      (loses_marks last journal (taken_by (marks_taken journal)))) of_number

  -- whether a mark may be lost: the journal has a fault, or one of its marks is an orphan
  pub lost_is : (faulty orphan lost : Bool) → faulty ≡ is_faulty (journal_faults LAST_NUMBER scan.journal)
      → orphan ≡ list_any (is_orphan (last_or_zero scan.number) scan.marks.items (taken_by scan.marks.items)) scan.marks.items
      → lost ≡ (faulty || orphan) → lost ≡ loses_marks scan.number scan.journal (taken_by scan.marks.items)
  lost_is faulty orphan lost of_faults of_orphans so =
      so ∙ ap (λ b. b || orphan) of_faults
      ∙ ap (λ b. is_faulty (journal_faults LAST_NUMBER scan.journal) || b)
      (of_orphans ∙ ap (λ list. list_any (is_orphan (last_or_zero scan.number) list (taken_by scan.marks.items)) list) is.marks)

  -- none is where the directory has no fault
  pub none_lost : faults_of files ≡ [] → loses_marks scan.number scan.journal (taken_by scan.marks.items) ≡ false
  unfolding faults_of
  none_lost none =
      let told : Result ℕ Damage = last_in (find name_cmp sequence_file (entries files)) in
      let later : journal_faults (bound_by told) journal ++ jobs_faults (bound_by told) (marks_taken journal) (taken_of journal)
      (entries files) ≡ [] = (both_empty (sequence_faults told) _ none).1 in
      let jobs : jobs_faults (bound_by told) (marks_taken journal) (taken_of journal) (entries files) ≡ [] = (both_empty _ _ later).1 in
      let no_orphans : list_any (is_orphan (last_or_zero scan.number) (marks_taken journal) (taken_by (marks_taken journal)))
      (marks_taken journal) ≡ false =
      no_orphan (last_or_zero scan.number) (marks_taken journal) (taken_by (marks_taken journal)) (taken_of journal)
      (both_empty _ _ jobs).1 in
      ap (λ list. loses_marks scan.number scan.journal (taken_by list)) of_marks
      ∙ ap (λ content. loses_marks scan.number content (taken_by (marks_taken journal))) of_journal
      ∙ ap (λ list. is_faulty list || list_any (is_orphan (last_or_zero scan.number) (marks_taken journal) (taken_by (marks_taken journal)))
      (marks_taken journal)) (faultless_journal files journal (sym (get-entries files journal_file)) none)
      ∙ no_orphans

  pub planned : (saved : List Mark) (names : List (List ℕ)) (text sequence : List ℕ) (last : ℕ)
      → saved ≡ marks_with scan.marks.items (taken_by scan.marks.items) (loses_marks scan.number scan.journal (taken_by scan.marks.items))
      → names ≡ map name_of_file (filter (is_left saved) (taken_by scan.marks.items)) → SpellsJournal text saved 256
      → last ≡ greatest (greatest (last_or_zero scan.number) (filter_map number_of_mark scan.marks.items))
      (filter_map number_named scan.names.items) → SpellsIn true sequence last → IsPlanOf files names text sequence
  planned saved names text sequence last so named spelled number spells = record {
    names_are =
        named ∙ ap (λ marks. map name_of_file (filter (is_left saved) (taken_by marks))) of_marks
        ∙ ap (λ marks. map name_of_file (filter (is_left marks) (taken_by (marks_taken journal)))) (saved_is saved so);
    journal_is = subst (λ marks. SpellsJournal text marks 256) (saved_is saved so) spelled;
    sequence_is =
        subst (SpellsIn true sequence)
        (number
        ∙ ap (λ told. greatest (greatest (last_or_zero told) (filter_map number_of_mark scan.marks.items))
        (filter_map number_named scan.names.items)) of_number
        ∙ ap (λ marks. greatest (greatest (last_or_zero (last_in (find name_cmp sequence_file (entries files))))
        (filter_map number_of_mark marks)) (filter_map number_named scan.names.items)) of_marks
        ∙ ap (λ list. greatest (greatest (last_or_zero (last_in (find name_cmp sequence_file (entries files))))
        (filter_map number_of_mark (marks_taken journal))) (filter_map number_named list)) is.names
        ∙ ap (greatest (greatest (last_or_zero (last_in (find name_cmp sequence_file (entries files))))
        (filter_map number_of_mark (marks_taken journal)))) (sym (given_made (λ (e : List ℕ × List ℕ). e.0) number_named (entries files))))
        spells;
  }
