-- What a directory shows whose journal gives other marks: the same ones, what a compaction keeps, or one more.
use Rattle.std.proofs.Common.{◌≡◌, ◌≤◌, ◌+◌, ℕ, true, List, [], ◌∷◌, ◌++◌, sym, ap, subst, ◌∙◌, refl, arith, inl, inr}
use Rattle.std.specs.Prelude.{Option, Some, Ok, nat_le}
use Rattle.std.specs.FinMap as map
use Rattle.std.proofs.lemmas.Bool.Decides.{nat_tests}
use Rattle.std.proofs.lemmas.List.Folds.{list_all-append}
use Rattle.host_calls.specs.Directory.{Files}
use Rattle.whole_file.specs.Temporary.{temporary_file}
use Rattle.spool_model.specs.declared.entry.Entry.TheVariants.{Live, Done}
use Rattle.spool_model.specs.declared.fate.Fate.{Fate}
use Rattle.spool_model.specs.declared.job.Job.{Job}
use Rattle.spool_model.specs.declared.step.Step.{Step}
use Rattle.spool_model.specs.declared.step.Step.TheVariants.{Remove, Start, End, Interrupt, Forget}
use Rattle.spool_model.specs.declared.state.State.TheVariants.{Pending, Running}
use Rattle.spool_model.specs.JobTable.{JobState, JobTable, entry_at}
use Rattle.spool_model.specs.Steps.{IsLegal, after_step}
use Rattle.start_journal.specs.declared.mark.Mark.{Mark}
use Rattle.start_journal.specs.declared.mark.Mark.TheVariants.{Removed, Started, Ended, Interrupted, Forgotten, Batch}
use Rattle.start_journal.specs.JournalChange.{GivesReadJournal, added, compacted}
use Rattle.start_journal.specs.Journals.{JournalRead, are_drawn, is_drawn, journal_file, journal_in}
use Rattle.start_journal.specs.Marks.{AreLegalMarks, decides, is_decided}
use Rattle.std.proofs.lemmas.Bool.{and_from, and_parts, or_cases}
use Rattle.spool_shows.specs.ByName.{ShowsByName}
use Rattle.spool_shows.specs.Laws.{AddsMark, AgreeElsewhere, HasMarks, HasNoForgotten}
use Rattle.spool_shows.specs.Shown.{Shows}
use Rattle.start_journal.proofs.JournalReads.{journal_drawn, journal_legal, journal_more}
use Rattle.spool_shows.proofs.ByNameReads.{journal_read, last_read}
use Rattle.spool_shows.proofs.OneMark.{ok_same}
use Rattle.spool_shows.proofs.ShownStates.{IsDoneBy, IsLiveBy}
use Rattle.spool_shows.proofs.StepLaws.{by_name, compactions_are_shown, marks_are_shown, rewrites_are_shown}
use Rattle.spool_shows.proofs.StepMarks.{done_in, live_in}
use Rattle.spool_store.proofs.KeptMarks.{kept_drawn}

-- Numbers that were drawn.

-- the least last number by which the mark's number is drawn
least_for : Mark → ℕ
least_for (Removed number) = number
least_for (Started number queue second) = number
least_for (Ended number ending) = number
least_for (Interrupted number) = number
least_for (Forgotten number) = number
least_for (Batch second) = 0

-- it is, by each that is not less
drawn_from : (mark : Mark) (last : ℕ) → least_for mark ≤ last → is_drawn last mark ≡ true
unfolding least_for
drawn_from (Removed number) last least = grind (arith, nat_tests)
drawn_from (Started number queue second) last least = grind (arith, nat_tests)
drawn_from (Ended number ending) last least = grind (arith, nat_tests)
drawn_from (Interrupted number) last least = grind (arith, nat_tests)
drawn_from (Forgotten number) last least = grind (arith, nat_tests)
drawn_from (Batch second) last least = refl

-- so are the numbers of marks, by one that is great enough
all_drawn_from : (marks : List Mark) → (least : ℕ) × ((last : ℕ) → least ≤ last → are_drawn last marks ≡ true)
all_drawn_from [] = (0, λ last least. refl)
all_drawn_from (mark ∷ later) =
    let rest : (least : ℕ) × ((last : ℕ) → least ≤ last → are_drawn last later ≡ true) = all_drawn_from later in (
      least_for mark + rest.0,
      λ last least. and_from (is_drawn last mark) _ (drawn_from mark last (omega arith)) (rest.1 last (omega arith)),
    )

-- drawn numbers are named by marks with one more that names one
pub more_drawn : (last : ℕ) (marks : List Mark) (mark : Mark) → are_drawn last marks ≡ true → is_drawn last mark ≡ true
    → are_drawn last (marks ++ mark ∷ []) ≡ true
more_drawn last marks mark drawn here =
    list_all-append (is_drawn last) marks (mark ∷ []) ∙ and_from _ _ drawn (and_from (is_drawn last mark) true here refl)

-- The journal of a directory that shows a table.

-- what is read of a content is what it gives
same_journal : (last : ℕ) (content : Option (List ℕ)) (read journal : JournalRead) → journal_in last content ≡ Ok read
    → GivesReadJournal content journal → read ≡ journal
same_journal last content read journal is gives =
    let rest : (least : ℕ) × ((more : ℕ) → least ≤ more → are_drawn more journal.marks ≡ true) = all_drawn_from journal.marks in
    let more : ℕ = last + rest.0 in
    ok_same (journal_in more content) (journal_more last more content read (omega arith) is) (gives more (rest.1 more (omega arith)))

-- the directory shows the table, and its journal gives this one
pub record IsShownWith (journal : JournalRead) (table : JobTable) (files : Files) : Type 0 where
  pub shows : Shows files table
  pub gives : GivesReadJournal (map.get files journal_file) journal

-- so what it shows by its names is known by the marks of that journal
pub reads_as : (journal : JournalRead) (table : JobTable) (files : Files) (is : IsShownWith journal table files)
    → (by_name files table is.shows).read ≡ journal
reads_as journal table files is =
    let shows : ShowsByName files table = by_name files table is.shows in
    same_journal table.last (map.get files journal_file) shows.read journal (journal_read files table shows) is.gives

-- they name drawn numbers
pub drawn_there : (journal : JournalRead) (table : JobTable) (files : Files) → IsShownWith journal table files
    → are_drawn table.last journal.marks ≡ true
drawn_there journal table files is =
    let shows : ShowsByName files table = by_name files table is.shows in
    ap (λ (read : JournalRead). are_drawn table.last read.marks) (sym (reads_as journal table files is))
    ∙ journal_drawn table.last (map.get files journal_file) shows.read (journal_read files table shows)

-- they are legal
pub legal_there : (journal : JournalRead) (table : JobTable) (files : Files) → IsShownWith journal table files → AreLegalMarks journal.marks
legal_there journal table files is =
    let shows : ShowsByName files table = by_name files table is.shows in
    subst (λ (read : JournalRead). AreLegalMarks read.marks) (reads_as journal table files is)
    (journal_legal table.last (map.get files journal_file) shows.read (journal_read files table shows))

-- and they are the directory's
pub has_marks : (journal : JournalRead) (table : JobTable) (files : Files) → IsShownWith journal table files → HasMarks files journal.marks
has_marks journal table files is =
    let shows : ShowsByName files table = by_name files table is.shows in
    record {
      last = table.last;
      free = journal.free;
      number = last_read files table shows;
      journal = journal_read files table shows ∙ ap Ok (reads_as journal table files is);
    }

-- The number of a step was drawn.

-- a number up to the last passes the test
pub drawn_is : (number last : ℕ) → number ≤ last → nat_le number last ≡ true
drawn_is number last least = grind (arith, nat_tests)

-- that of a live job, whose file is whole
live_drawn : (files : Files) (table : JobTable) (number : ℕ) (job : Job) (state : JobState) → ShowsByName files table
    → entry_at table number ≡ Some (Live job state) → nat_le number table.last ≡ true
live_drawn files table number job state shows is =
    let live : IsLiveBy shows.read.marks files number job state = live_in files table number job state shows is in
    drawn_is number table.last (subst (λ n. n ≤ table.last) live.number_is (shows.sound.each live.file live.is).drawn)

-- a mark that decides a number, and names one that was drawn
decides_drawn : (last number : ℕ) (mark : Mark) → is_drawn last mark ≡ true → decides number mark ≡ true → nat_le number last ≡ true
decides_drawn last number (Removed other) drawn is = grind (arith, nat_tests)
decides_drawn last number (Ended other ending) drawn is = grind (arith, nat_tests)
decides_drawn last number (Interrupted other) drawn is = grind (arith, nat_tests)
decides_drawn last number _ drawn is = cc

-- so do marks
decided_drawn : (last number : ℕ) (marks : List Mark) → are_drawn last marks ≡ true → is_decided number marks ≡ true
    → nat_le number last ≡ true
decided_drawn last number [] drawn is = cc
decided_drawn last number (mark ∷ later) drawn is =
    let tests : (is_drawn last mark ≡ true) × (are_drawn last later ≡ true) = and_parts _ _ drawn in
    elim (or_cases (decides number mark) (is_decided number later) is) [
      | inl here ↦ decides_drawn last number mark tests.0 here
      | inr beyond ↦ decided_drawn last number later tests.1 beyond
    ]

-- that of a job that is done, which a mark decides
done_drawn : (files : Files) (table : JobTable) (number : ℕ) (fate : Fate) → ShowsByName files table
    → entry_at table number ≡ Some (Done fate) → nat_le number table.last ≡ true
done_drawn files table number fate shows is =
    let done : IsDoneBy shows.read.marks number = done_in files table number fate shows is in
    decided_drawn table.last number shows.read.marks
    (journal_drawn table.last (map.get files journal_file) shows.read (journal_read files table shows)) done.decided

-- and that of each step that adds a mark
step_drawn : (files : Files) (table : JobTable) (step : Step) (mark : Mark) → ShowsByName files table → IsLegal table step
    → AddsMark table step mark → is_drawn table.last mark ≡ true
step_drawn files table (Remove number) mark shows (job, is) adds = ap (is_drawn table.last) adds
    ∙ live_drawn files table number job Pending shows is
step_drawn files table (Start number second) mark shows (job, is) adds = ap (is_drawn table.last) adds.2
    ∙ live_drawn files table number job Pending shows is
step_drawn files table (End number ending) mark shows (job, second, is) adds = ap (is_drawn table.last) adds
    ∙ live_drawn files table number job (Running second) shows is
step_drawn files table (Interrupt number) mark shows (job, second, is) adds = ap (is_drawn table.last) adds
    ∙ live_drawn files table number job (Running second) shows is
step_drawn files table (Forget number) mark shows (fate, is) adds = ap (is_drawn table.last) adds
    ∙ done_drawn files table number fate shows is
step_drawn files table _ mark shows legal adds = absurd adds

-- What a change of the journal shows, where all else is the same.

-- the same marks once more
pub same_shown : (journal : JournalRead) (table : JobTable) (before after : Files) → IsShownWith journal table before
    → GivesReadJournal (map.get after journal_file) journal → AgreeElsewhere temporary_file journal_file before after → Shows after table
same_shown journal table before after is gives others = rewrites_are_shown before after table is.shows (record {
  marks = journal.marks;
  free = journal.free;
  had = has_marks journal table before is;
  journal = gives table.last (drawn_there journal table before is);
  others = others;
})

-- what a compaction keeps of them
pub compacted_shown : (journal : JournalRead) (table : JobTable) (before after : Files) → IsShownWith journal table before
    → HasNoForgotten journal.marks before → GivesReadJournal (map.get after journal_file) (compacted journal)
    → AgreeElsewhere temporary_file journal_file before after → Shows after table
compacted_shown journal table before after is none gives others = compactions_are_shown before after table is.shows (record {
  marks = journal.marks;
  free = 256;
  had = has_marks journal table before is;
  none = none;
  journal = gives table.last (kept_drawn table.last journal.marks (drawn_there journal table before is));
  others = others;
})

-- one more mark
pub added_shown : (journal : JournalRead) (table : JobTable) (step : Step) (mark : Mark) (before after : Files) → IsShownWith journal
    table before → IsLegal table step → AddsMark table step mark → GivesReadJournal (map.get after journal_file) (added journal mark)
    → AgreeElsewhere temporary_file journal_file before after → Shows after (after_step table step)
added_shown journal table step mark before after is legal adds gives others =
    let drawn : is_drawn table.last mark ≡ true = step_drawn before table step mark (by_name before table is.shows) legal adds in
    marks_are_shown before after table step mark is.shows legal adds (record {
      marks = journal.marks;
      free = (added journal mark).free;
      had = has_marks journal table before is;
      journal = gives table.last (more_drawn table.last journal.marks mark (drawn_there journal table before is) drawn);
      others = others;
    })
