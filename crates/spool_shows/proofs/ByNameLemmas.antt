-- What a directory shows, and what its names and numbers show, are one.
use Rattle.std.proofs.Common.{◌≡◌, ℕ, Bool, true, false, List, [], sym, ap, subst, ◌∙◌, refl}
use Rattle.std.specs.Prelude.{Option, Some, None, Result, Ok, Err, MatchBool}
use Rattle.std.specs.Cmp.{nat_cmp_total}
use Rattle.std.specs.Ordering.{nat_cmp}
use Rattle.std.specs.FinMap as map
use Rattle.std.specs.FinMap.{entries, from_entries, get-entries, get-from_entries, nat_cmp-IsAntisymmetric, same_map}
use Rattle.std.specs.FinMap.Entries.{find}
use Rattle.host_calls.specs.declared.damage.Damage.{Damage}
use Rattle.host_calls.specs.Directory.{Files, name_cmp}
use Rattle.sequence_file.specs.Sequence.{sequence_file}
use Rattle.spool_model.specs.JobTable.{JobEntries, JobEntry, JobTable, table_of}
use Rattle.start_journal.specs.declared.mark.Mark.{Mark}
use Rattle.start_journal.specs.declared.mark.Mark.TheVariants.{Started}
use Rattle.start_journal.specs.Journals.{JournalRead, journal_file, journal_in}
use Rattle.start_journal.specs.Marks.{AreLegalMarks, is_decided}
use Rattle.spool_shows.specs.ByName.{AreSound, ShowsByName, ShowsDone, ShowsEntry, ShowsLive}
use Rattle.spool_shows.specs.JobFiles.{JobFile, files_damage}
use Rattle.sequence_file.specs.LastNumber.{last_in}
use Rattle.spool_shows.specs.Laws.{DirectoriesAreShownByName}
use Rattle.spool_shows.specs.Shown.{Shows, damage_of_jobs, entries_shown, live_entry, shown_after_journal, shown_after_last, shown_by, starts_damage, table_or_damage, table_shown}
use Rattle.sequence_file.proofs.LastNumbers.{last_spelled}
use Rattle.spool_shows.proofs.ByNameReads.{journal_read, last_read, read_gives_journal}
use Rattle.spool_shows.proofs.DeciderLemmas.{one_done_entry}
use Rattle.spool_shows.proofs.EntryLemmas.{done_decides, shows_found}
use Rattle.spool_shows.proofs.FileLemmas.{counted_is_file, file_is_counted, files_that_count, names_apart, one_file}
use Rattle.start_journal.proofs.JournalReads.{journal_legal}
use Rattle.spool_shows.proofs.Membership.{contained, has_contained}
use Rattle.spool_shows.proofs.SoundLemmas.{AreFine, fine_is_no_damage, fine_is_whole, fine_once, neither_first, no_damage_is_fine, whole_is_fine}
use Rattle.spool_shows.proofs.StartLemmas.{start_has_file, starts_have_files}

-- what is read of a directory that shows a table
record Reads (files : Files) (table : JobTable) : Type 0 where
  last : ℕ
  read : JournalRead
  number : last_in (find name_cmp sequence_file (entries files)) ≡ Ok last
  journal : journal_in last (find name_cmp journal_file (entries files)) ≡ Ok read
  undamaged : damage_of_jobs last read.marks (files_that_count read.marks files) ≡ None
  shown : table_shown last read.marks (files_that_count read.marks files) ≡ table

by_damage : (files : Files) (table : JobTable) (last : ℕ) (read : JournalRead) → last_in (find name_cmp sequence_file (entries files))
    ≡ Ok last → journal_in last (find name_cmp journal_file (entries files)) ≡ Ok read
    → (damage : Option Damage) → damage_of_jobs last read.marks (files_that_count read.marks files) ≡ damage
    → table_or_damage last read.marks (files_that_count read.marks files) damage ≡ Ok table → Reads files table
by_damage files table last read number journal (Some damage) is shows =
    let impossible : ◌≡◌ {A = Result JobTable Damage} (Err damage) (Ok table) = shows in
    cc
by_damage files table last read number journal None is shows =
    record { last = last; read = read; number = number; journal = journal; undamaged = is; shown = cc }

by_journal : (files : Files) (table : JobTable) (last : ℕ) → last_in (find name_cmp sequence_file (entries files)) ≡ Ok last
    → (found : Result JournalRead Damage) → journal_in last (find name_cmp journal_file (entries files)) ≡ found
    → shown_after_journal last found (entries files) ≡ Ok table → Reads files table
by_journal files table last number (Err damage) is shows =
    let impossible : ◌≡◌ {A = Result JobTable Damage} (Err damage) (Ok table) = shows in
    cc
by_journal files table last number (Ok read) is shows =
    by_damage files table last read number is (damage_of_jobs last read.marks (files_that_count read.marks files)) refl shows

by_last : (files : Files) (table : JobTable) (found : Result ℕ Damage) → last_in (find name_cmp sequence_file (entries files)) ≡ found
    → shown_after_last found (entries files) ≡ Ok table → Reads files table
by_last files table (Err damage) is shows = let impossible : ◌≡◌ {A = Result JobTable Damage} (Err damage) (Ok table) = shows in cc
by_last files table (Ok last) is shows =
    by_journal files table last is (journal_in last (find name_cmp journal_file (entries files))) refl shows

reads : (files : Files) (table : JobTable) → Shows files table → Reads files table
unfolding shown_by
reads files table shows = by_last files table (last_in (find name_cmp sequence_file (entries files))) refl shows

shown_of_reads : (files : Files) (table : JobTable) → Reads files table → Shows files table
unfolding shown_by
shown_of_reads files table is =
    ap (λ found. shown_after_last found (entries files)) is.number
    ∙ ap (λ found. shown_after_journal is.last found (entries files)) is.journal
    ∙ ap (table_or_damage is.last is.read.marks (files_that_count is.read.marks files)) is.undamaged
    ∙ ap Ok is.shown

-- files without damage are sound
sound_of : (last : ℕ) (marks : List Mark) (files : Files) → damage_of_jobs last marks (files_that_count marks files) ≡ None
    → AreSound last marks files
sound_of last marks files undamaged =
    let both : (files_damage last [] (files_that_count marks files) ≡ None)
    × (starts_damage marks (files_that_count marks files) 0 marks ≡ None) = neither_first _ _ undamaged in
    let fine : AreFine last [] (files_that_count marks files) = no_damage_is_fine last [] (files_that_count marks files) both.0 in
    record {
      each = λ file is. fine_is_whole last [] (files_that_count marks files) file fine (file_is_counted marks files file is);
      once = λ first second is other same. ap (λ (of : JobFile). of.name) (fine_once last [] (files_that_count marks files) first second
          fine (file_is_counted marks files first is) (file_is_counted marks files second other) same);
      started = λ number queue second has undecided.
          start_has_file marks files number queue second both.1 (has_contained marks (Started number queue second) has) undecided;
    }

-- sound files are without damage
undamaged_of : (last : ℕ) (marks : List Mark) (files : Files) → AreSound last marks files
    → damage_of_jobs last marks (files_that_count marks files) ≡ None
undamaged_of last marks files sound =
    let fine : AreFine last [] (files_that_count marks files) = whole_is_fine last [] (files_that_count marks files)
    (λ file has. sound.each file (counted_is_file marks files file has))
    (λ first second has other same.
    sound.once first second (counted_is_file marks files first has) (counted_is_file marks files second other) same)
    (names_apart marks files) (λ file has. refl) in
    let starts : starts_damage marks (files_that_count marks files) 0 marks ≡ None = starts_have_files marks files
    (λ number queue second has undecided. sound.started number queue second (contained marks (Started number queue second) has) undecided)
    (λ first second is other same. one_file marks files first second is other (sound.once first second is other same)) in
    rw (fine_is_no_damage last [] (files_that_count marks files) fine) starts

-- the entries of the table under each number
entry_of_list : (marks : List Mark) (files : Files) (number : ℕ) → map.get (from_entries {R = nat_cmp}
    (entries_shown marks (files_that_count marks files))) number ≡ find nat_cmp number (entries_shown marks (files_that_count marks files))
entry_of_list marks files number = get-from_entries nat_cmp_total (entries_shown marks (files_that_count marks files)) number

by_name_of : (files : Files) (table : JobTable) → Reads files table → ShowsByName files table
by_name_of files table is =
    let last_is : table.last ≡ is.last = ap (λ (of : JobTable). of.last) (sym is.shown) in
    let entries_are : table.entries ≡ from_entries (entries_shown is.read.marks (files_that_count is.read.marks files)) =
    ap (λ (of : JobTable). of.entries) (sym is.shown) in
    record {
      read = is.read;
      last = last_spelled (map.get files sequence_file) table.last (ap last_in (get-entries files sequence_file)
          ∙ is.number ∙ ap Ok (sym last_is));
      journal =
          read_gives_journal table.last (map.get files journal_file) is.read (ap (journal_in table.last) (get-entries files journal_file)
          ∙ subst (λ last. journal_in last (find name_cmp journal_file (entries files)) ≡ Ok is.read) (sym last_is) is.journal);
      sound = subst (λ last. AreSound last is.read.marks files) (sym last_is) (sound_of is.last is.read.marks files is.undamaged);
      batch = ap (λ (of : JobTable). of.last_batch) (sym is.shown);
      entries = λ number. subst (ShowsEntry is.read.marks files number) (sym (ap (λ (of : JobEntries). map.get of number) entries_are
          ∙ entry_of_list is.read.marks files number)) (shows_found is.read.marks files number);
    }

-- a number has one entry
done_once : (marks : List Mark) (number : ℕ) (one other : Option JobEntry) → AreLegalMarks marks → ShowsDone marks number one
    → ShowsDone marks number other → one ≡ other
done_once marks number None None legal is same = refl
done_once marks number None (Some entry) legal is same =
    let impossible : true ≡ false = sym is ∙ (done_decides marks same.0 number entry same.2).1 in
    cc
done_once marks number (Some entry) None legal is same =
    let impossible : true ≡ false = sym same ∙ (done_decides marks is.0 number entry is.2).1 in
    cc
done_once marks number (Some one) (Some other) legal is same =
    ap Some (one_done_entry marks number one other legal is.0 same.0 (has_contained marks is.0 is.1)
    (has_contained marks same.0 same.1) is.2 same.2)

number_of : (marks : List Mark) (file : JobFile) (number : ℕ) (entry : JobEntry) → live_entry marks file ≡ (number, entry)
    → file.job.number ≡ number
number_of marks file number entry is = ap (λ (pair : ℕ × JobEntry). pair.0) is

live_once : (last : ℕ) (marks : List Mark) (files : Files) (number : ℕ) (one other : Option JobEntry) → AreSound last marks files
    → ShowsLive marks files number one → ShowsLive marks files number other → one ≡ other
live_once last marks files number None None sound is same = refl
live_once last marks files number None (Some entry) sound is same = absurd (is same.0 same.1 (number_of marks same.0 number entry same.2))
live_once last marks files number (Some entry) None sound is same = absurd (same is.0 is.1 (number_of marks is.0 number entry is.2))
live_once last marks files number (Some one) (Some other) sound is same =
    let numbers : is.0.job.number ≡ same.0.job.number = number_of marks is.0 number one is.2
    ∙ sym (number_of marks same.0 number other same.2) in
    let files_are : is.0 ≡ same.0 = one_file marks files is.0 same.0 is.1 same.1 (sound.once is.0 same.0 is.1 same.1 numbers) in
    let pairs : ◌≡◌ {A = ℕ × JobEntry} (number, one) (number, other) = sym is.2 ∙ ap (live_entry marks) files_are ∙ same.2 in
    ap (λ (pair : ℕ × JobEntry). Some pair.1) pairs

entry_once : (last : ℕ) (marks : List Mark) (files : Files) (number : ℕ) (one other : Option JobEntry) → AreLegalMarks marks
    → AreSound last marks files → ShowsEntry marks files number one → ShowsEntry marks files number other → one ≡ other
entry_once last marks files number one other legal sound is same = by_test (is_decided number marks) is same where
  by_test : (b : Bool) → MatchBool b (ShowsDone marks number one) (ShowsLive marks files number one)
      → MatchBool b (ShowsDone marks number other) (ShowsLive marks files number other) → one ≡ other
  by_test true first second = done_once marks number one other legal first second
  by_test false first second = live_once last marks files number one other sound first second

reads_of : (files : Files) (table : JobTable) → ShowsByName files table → Reads files table
reads_of files table is =
    let marks : List Mark = is.read.marks in
    let legal : AreLegalMarks marks = journal_legal table.last (map.get files journal_file) is.read (journal_read files table is) in
    let same : table.entries ≡ from_entries (entries_shown marks (files_that_count marks files)) =
    same_map nat_cmp_total nat_cmp-IsAntisymmetric _ _
    (λ number. entry_once table.last marks files number _ _ legal is.sound (is.entries number) (shows_found marks files number)
    ∙ sym (entry_of_list marks files number)) in
    record {
      last = table.last;
      read = is.read;
      number = ap last_in (sym (get-entries files sequence_file)) ∙ last_read files table is;
      journal = ap (journal_in table.last) (sym (get-entries files journal_file)) ∙ journal_read files table is;
      undamaged = undamaged_of table.last marks files is.sound;
      shown = λ i. table_of table.last (sym same i) (sym is.batch i);
    }

pub directories_are_shown_by_name : DirectoriesAreShownByName
directories_are_shown_by_name files table = record {
  by_name = λ shows. by_name_of files table (reads files table shows);
  shown = λ is. shown_of_reads files table (reads_of files table is);
}
