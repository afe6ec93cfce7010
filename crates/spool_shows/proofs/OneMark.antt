-- A directory with one more mark in its journal, and with the entry of its number put or taken out.
use Rattle.std.proofs.Common.{◌≡◌, ℕ, ℤ, true, false, List, Option, Some, [], ◌∷◌, ◌++◌, sym, ap, subst, ◌∙◌, inl, inr}
use Rattle.std.specs.Prelude.{◌==◌, Contains, Ok, Result, slice_index}
use Rattle.std.specs.FinMap as map
use Rattle.std.proofs.lemmas.Bool.Decides.{eqb_tells}
use Rattle.std.proofs.lemmas.List.Elements.{Contains-push, Contains-push_cases}
use Rattle.host_calls.specs.declared.damage.Damage.{Damage}
use Rattle.host_calls.specs.Directory.{Files}
use Rattle.sequence_file.specs.Sequence.{sequence_file}
use Rattle.whole_file.specs.Temporary.{temporary_file}
use Rattle.spool_model.specs.declared.entry.Entry.TheVariants.{Done}
use Rattle.spool_model.specs.declared.fate.Fate.{Fate}
use Rattle.spool_model.specs.JobTable.{JobEntries, JobTable, entry_at, table_of}
use Rattle.start_journal.specs.declared.mark.Mark.{Mark}
use Rattle.start_journal.specs.declared.mark.Mark.TheVariants.{Started}
use Rattle.start_journal.specs.Journals.{JournalRead, journal_file, journal_in}
use Rattle.start_journal.specs.Marks.{AreLegalMarks, batch_second, decides, first_of_two, is_forgetting, is_decided, is_forgotten, is_mark_of}
use Rattle.whole_file.specs.Others.{IsEither}
use Rattle.spool_shows.specs.ByName.{AreSound, HasFile, IsJobFile, ShowsByName, ShowsEntry}
use Rattle.spool_shows.specs.JobFiles.{JobFile}
use Rattle.spool_shows.specs.Laws.{AgreeElsewhere, HasMarked, HasMarks}
use Rattle.sequence_file.specs.LastNumber.{last_in}
use Rattle.spool_shows.specs.Shown.{done_entry}
use Rattle.start_journal.proofs.JournalReads.{journal_legal}
use Rattle.sequence_file.proofs.LastNumbers.{last_spelled}
use Rattle.spool_shows.proofs.ByNameReads.{journal_read, last_read, read_gives_journal}
use Rattle.spool_shows.proofs.MarkTests.{batch_more, marks_of_other, none_before, tell_same}
use Rattle.start_journal.proofs.LifeLemmas.{any_with, any_without}
use Rattle.spool_shows.proofs.ShownEntries.{SameJobs, file_moves, same_back, same_jobs, shows_done}
use Rattle.spool_shows.proofs.ShownStates.{entry_moves, sound_moves}

-- one answer gives one value
pub ok_same : {X : Type 0} {one other : X} (answer : Result X Damage) → answer ≡ Ok one → answer ≡ Ok other → one ≡ other
ok_same answer is also = cc

-- the marks of the journal are those of the table
pub had_same : (files : Files) (table : JobTable) (marks : List Mark) (shows : ShowsByName files table) → HasMarks files marks
    → shows.read.marks ≡ marks
had_same files table marks shows had =
    let last_is : table.last ≡ had.last = ok_same (last_in (map.get files sequence_file)) (last_read files table shows) had.number in
    let read_is : shows.read ≡ record { marks = marks; free = had.free } =
    ok_same (journal_in had.last (map.get files journal_file)) (ap (λ last. journal_in last (map.get files journal_file)) (sym last_is)
    ∙ journal_read files table shows) had.journal in
    ap (λ (read : JournalRead). read.marks) read_is

-- those marks are legal
pub marks_legal : (files : Files) (table : JobTable) (shows : ShowsByName files table) → AreLegalMarks shows.read.marks
marks_legal files table shows = journal_legal table.last (map.get files journal_file) shows.read (journal_read files table shows)

-- the sequence file is neither the journal nor a file that is being made
sequence_elsewhere : ¬ (IsEither temporary_file journal_file sequence_file)
sequence_elsewhere (inl same) = let impossible : true ≡ false = ap (λ name. slice_index name 1 == 83) same in cc
sequence_elsewhere (inr same) = let impossible : true ≡ false = ap (λ name. slice_index name 1 == 83) same in cc

-- so the last number is the same
pub last_moves : (before after : Files) (last : ℕ) → AgreeElsewhere temporary_file journal_file before after
    → last_in (map.get before sequence_file) ≡ Ok last → last_in (map.get after sequence_file) ≡ Ok last
last_moves before after last others is = ap last_in (others sequence_file sequence_elsewhere) ∙ is

-- what a step does to the table and to the directory, where its mark names this number alone
pub record IsStepOf (before after : Files) (table : JobTable) (entries : JobEntries) (last_batch : Option ℤ) (added : Mark) (number : ℕ)
    (marks : List Mark) : Type 0 where
  pub batch : last_batch ≡ first_of_two (batch_second added) table.last_batch
  pub unchecked : (other : ℕ) → ¬ (other ≡ number) → is_mark_of other added ≡ false
  pub kept : (other : ℕ) → ¬ (other ≡ number) → map.get entries other ≡ entry_at table other
  pub here : ShowsEntry (marks ++ added ∷ []) after number (map.get entries number)
  pub starts : (other queue : ℕ) (second : ℤ) → added ≡ Started other queue second → HasFile marks before other queue

-- the directory is as sound with the mark
sound_more : (last : ℕ) (before after : Files) (marks : List Mark) (added : Mark) → SameJobs before after
    → ((other queue : ℕ) (second : ℤ) → added ≡ Started other queue second → HasFile marks before other queue) → AreSound last marks before
    → AreSound last (marks ++ added ∷ []) after
sound_more last before after marks added same starts sound =
    sound_moves last marks (marks ++ added ∷ []) before after (record { files = same; back = back; started = started }) sound
  where
    back : (file : JobFile) → IsJobFile (marks ++ added ∷ []) after file → IsJobFile marks before file
    back file is = file_moves (marks ++ added ∷ []) marks after before (same_back before after same) file is
        (none_before (decides file.job.number) marks added is.undecided)

    started : (number queue : ℕ) (second : ℤ) → Contains (marks ++ added ∷ []) (Started number queue second)
        → is_decided number (marks ++ added ∷ []) ≡ false → HasFile marks before number queue
    started number queue second there undecided = elim (Contains-push_cases marks added (Started number queue second) there) [
      | inl old ↦ sound.started number queue second old (none_before (decides number) marks added undecided)
      | inr new ↦ starts number queue second new
    ]

-- each number has the entry of the table with the step
entries_more : (before after : Files) (table : JobTable) (entries : JobEntries) (last_batch : Option ℤ) (added : Mark) (number : ℕ)
    (marks : List Mark) → SameJobs before after → ((other : ℕ) → ShowsEntry marks before other (entry_at table other)) → IsStepOf before
    after table entries last_batch added number marks → (other : ℕ) → ShowsEntry (marks ++ added ∷ []) after other (map.get entries other)
entries_more before after table entries last_batch added number marks same shows step other = elim (eqb_tells other number) [
  | inl one ↦ subst (λ n. ShowsEntry (marks ++ added ∷ []) after n (map.get entries n)) (sym one.1) step.here
  | inr apart ↦ subst (ShowsEntry (marks ++ added ∷ []) after other) (sym (step.kept other apart.1))
      (entry_moves other marks (marks ++ added ∷ []) before after (entry_at table other) same
      (tell_same other marks (marks ++ added ∷ []) (marks_of_other other marks added (step.unchecked other apart.1))) (shows other))
]

-- so the directory shows the table with the step
pub step_shown : (before after : Files) (table : JobTable) (entries : JobEntries) (last_batch : Option ℤ) (added : Mark) (number : ℕ)
    (shows : ShowsByName before table) → HasMarked table added before after → IsStepOf before after table entries last_batch added number
    shows.read.marks → ShowsByName after (table_of table.last entries last_batch)
step_shown before after table entries last_batch added number shows marked step =
    let marks : List Mark = shows.read.marks in
    let same : SameJobs before after = same_jobs before after marked.others in
    record {
      read = record { marks = marks ++ added ∷ []; free = marked.free };
      last = last_spelled (map.get after sequence_file) table.last
          (last_moves before after table.last marked.others (last_read before table shows));
      journal = read_gives_journal table.last (map.get after journal_file) _ (subst (λ list.
          journal_in table.last (map.get after journal_file) ≡ Ok (record { marks = list ++ added ∷ []; free = marked.free }))
          (sym (had_same before table marked.marks shows marked.had)) marked.journal);
      sound = sound_more table.last before after marks added same step.starts shows.sound;
      batch = step.batch ∙ ap (first_of_two (batch_second added)) shows.batch ∙ sym (batch_more marks added);
      entries = entries_more before after table entries last_batch added number marks same shows.entries step;
    }

-- a mark that decides a number leaves its entry
pub decided_shown : (marks : List Mark) (files : Files) (added : Mark) (number : ℕ) (fate : Fate) → decides number added ≡ true
    → is_forgetting number added ≡ false → is_forgotten number marks ≡ false → ((list : List Mark) → is_forgotten number list ≡ false
    → done_entry list added ≡ Some (number, Done fate)) → ShowsEntry (marks ++ added ∷ []) files number (Some (Done fate))
decided_shown marks files added number fate decides_it forgets_not remembered leaves =
    shows_done (marks ++ added ∷ []) files number (Some (Done fate)) (any_with (decides number) marks added decides_it) (
      added,
      Contains-push marks added,
      leaves (marks ++ added ∷ []) (any_without (is_forgetting number) marks added forgets_not ∙ remembered),
    )
