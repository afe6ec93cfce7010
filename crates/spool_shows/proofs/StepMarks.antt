-- A step that is legal on a table, with its mark in the journal, leads from a directory that shows the
-- table to one that shows the table after the step.
use Rattle.std.proofs.Common.{◌≡◌, ℕ, ℤ, Bool, true, false, cond, List, Option, Some, None, [], ◌∷◌, ◌++◌, sym, ap, subst, ◌∙◌, refl}
use Rattle.std.specs.Prelude.{◌==◌, if◌then◌else◌}
use Rattle.std.specs.FinMap as map
use Rattle.std.specs.Option.{option_or}
use Rattle.host_calls.specs.Directory.{Files}
use Rattle.spool_model.specs.declared.entry.Entry.TheVariants.{Live, Done}
use Rattle.spool_model.specs.declared.fate.Fate.{Fate}
use Rattle.spool_model.specs.declared.fate.Fate.TheVariants as fate
use Rattle.spool_model.specs.declared.job.Job.{Job}
use Rattle.spool_model.specs.declared.state.State.TheVariants.{Pending, Running}
use Rattle.spool_model.specs.declared.step.Step.{Step}
use Rattle.spool_model.specs.declared.step.Step.TheVariants.{Remove, Start, End, Interrupt, Forget}
use Rattle.spool_model.specs.JobTable.{IsDone, JobEntries, JobState, JobTable, entry_at, is_batch_queue, table_of}
use Rattle.spool_model.specs.Steps.{IsLegal, after_step, is_batch_entry, with_state}
use Rattle.spool_model.proofs.TableLemmas.{get-put_other, get-put_same, get-taken_other, get-taken_same}
use Rattle.start_journal.specs.declared.mark.Mark.{Mark}
use Rattle.start_journal.specs.declared.mark.Mark.TheVariants as mark
use Rattle.start_journal.specs.Marks.{batch_second, decides, first_of_two, is_forgetting, is_forgotten, is_mark_of, start_second, started_at}
use Rattle.spool_shows.specs.ByName.{HasFile, ShowsByName, ShowsEntry}
use Rattle.spool_shows.specs.FateSteps.{decision_mark}
use Rattle.spool_shows.specs.JobFiles.{JobFile}
use Rattle.spool_shows.specs.Laws.{AddsMark, HasMarked}
use Rattle.spool_shows.specs.Shown.{done_entry, job_of, live_entry, state_since}
use Rattle.spool_shows.proofs.MarkTests.{not_forgotten}
use Rattle.start_journal.proofs.LifeLemmas.{any_with, any_without}
use Rattle.start_journal.proofs.LifecycleLemmas.{started_more}
use Rattle.spool_shows.proofs.OneMark.{decided_shown, marks_legal, step_shown}
use Rattle.spool_shows.proofs.ShownEntries.{fails_other, file_moves, leaves_as, passes_same, same_jobs, shows_done, shows_live}
use Rattle.spool_shows.proofs.ShownStates.{IsDoneBy, IsLiveBy, done_known, live_known, not_started}

-- the entry that the table has under a number is shown
pub live_in : (files : Files) (table : JobTable) (number : ℕ) (job : Job) (state : JobState) (shows : ShowsByName files table)
    → entry_at table number ≡ Some (Live job state) → IsLiveBy shows.read.marks files number job state
live_in files table number job state shows is =
    live_known shows.read.marks files number job state (subst (ShowsEntry shows.read.marks files number) is (shows.entries number))

pub done_in : (files : Files) (table : JobTable) (number : ℕ) (fate : Fate) (shows : ShowsByName files table)
    → entry_at table number ≡ Some (Done fate) → IsDoneBy shows.read.marks number
done_in files table number fate shows is =
    done_known shows.read.marks files number fate (subst (ShowsEntry shows.read.marks files number) is (shows.entries number))

-- a number is not tested as another
silent_other : (number other : ℕ) → ¬ (other ≡ number) → (number == other) ≡ false
silent_other number other differ = fails_other number other (λ same. differ (sym same))

-- Steps that decide a number.

-- the mark decides the number by this fate, and says nothing else
record DecidesBy (number : ℕ) (fate : Fate) (added : Mark) : Type 0 where
  batch : batch_second added ≡ None
  unchecked : (other : ℕ) → ¬ (other ≡ number) → is_mark_of other added ≡ false
  decides_it : decides number added ≡ true
  forgets_not : is_forgetting number added ≡ false
  leaves : (list : List Mark) → is_forgotten number list ≡ false → done_entry list added ≡ Some (number, Done fate)
  no_start : (other queue : ℕ) (second : ℤ) → ¬ (added ≡ mark.Started other queue second)

-- a step whose mark decides a live job is shown
decided_step : (before after : Files) (table : JobTable) (number : ℕ) (fate : Fate) (added : Mark) (job : Job) (state : JobState)
    → ShowsByName before table → entry_at table number ≡ Some (Live job state) → DecidesBy number fate added → HasMarked table added before
    after → ShowsByName after (table_of table.last (map.insert table.entries number (Done fate)) table.last_batch)
decided_step before after table number fate added job state shows is decides_by marked =
    let marks : List Mark = shows.read.marks in
    let live : IsLiveBy marks before number job state = live_in before table number job state shows is in
    step_shown before after table (map.insert table.entries number (Done fate)) table.last_batch added number shows marked (record {
      batch = ap (λ batch. first_of_two batch table.last_batch) (sym decides_by.batch);
      unchecked = decides_by.unchecked;
      kept = λ other differ. get-put_other table.entries number other (Done fate) differ;
      here = subst (ShowsEntry (marks ++ added ∷ []) after number) (sym (get-put_same table.entries number (Done fate)))
          (decided_shown marks after added number fate decides_by.decides_it decides_by.forgets_not
          (not_forgotten marks number (marks_legal before table shows) live.undecided) decides_by.leaves);
      starts = λ other queue second same. absurd (decides_by.no_start other queue second same);
    })

-- the mark of each decision does
decides_by : (number : ℕ) (fate : Fate) → DecidesBy number fate (decision_mark number fate)
decides_by number fate.Removed = record {
  batch = refl;
  unchecked = silent_other number;
  decides_it = passes_same number number refl;
  forgets_not = refl;
  leaves = λ list remembered. leaves_as list number number fate.Removed refl remembered;
  no_start = λ other queue second same. cc;
}
decides_by number (fate.Finished ending) = record {
  batch = refl;
  unchecked = silent_other number;
  decides_it = passes_same number number refl;
  forgets_not = refl;
  leaves = λ list remembered. leaves_as list number number (fate.Finished ending) refl remembered;
  no_start = λ other queue second same. cc;
}
decides_by number fate.Interrupted = record {
  batch = refl;
  unchecked = silent_other number;
  decides_it = passes_same number number refl;
  forgets_not = refl;
  leaves = λ list remembered. leaves_as list number number fate.Interrupted refl remembered;
  no_start = λ other queue second same. cc;
}

-- The step that forgets a number.

forget_shown : (before after : Files) (table : JobTable) (number : ℕ) → ShowsByName before table → IsDone table number
    → HasMarked table (mark.Forgotten number) before after → ShowsByName after (after_step table (Forget number))
forget_shown before after table number shows (fate, is) marked =
    let marks : List Mark = shows.read.marks in
    let done : IsDoneBy marks number = done_in before table number fate shows is in
    let added : Mark = mark.Forgotten number in
    step_shown before after table (map.remove table.entries number) table.last_batch added number shows marked (record {
      batch = refl;
      unchecked = silent_other number;
      kept = λ other differ. get-taken_other table.entries number other differ;
      here = subst (ShowsEntry (marks ++ added ∷ []) after number) (sym (get-taken_same table.entries number))
          (shows_done (marks ++ added ∷ []) after number None (any_without (decides number) marks added refl ∙ done.decided)
          (any_with (is_forgetting number) marks added (passes_same number number refl)));
      starts = λ other queue second same. cc;
    })

-- The step that starts a job.

-- the file of a number shows the job in the state
live_is : (marks : List Mark) (file : JobFile) (number : ℕ) (job : Job) (state : JobState) → file.job.number ≡ number → job_of file ≡ job
    → state_since (started_at number marks) ≡ state → live_entry marks file ≡ (number, Live job state)
live_is marks file number job state number_is job_is state_is =
    ap (λ n. (n, Live (job_of file) (state_since (started_at n marks)))) number_is
    ∙ ap (λ j. (number, Live j (state_since (started_at number marks)))) job_is
    ∙ ap (λ s. (number, Live job s)) state_is

-- the start is that of the mark
started_since : (number queue : ℕ) (second : ℤ) (marks : List Mark) → started_at number marks ≡ None
    → started_at number (marks ++ mark.Started number queue second ∷ []) ≡ Some second
started_since number queue second marks none =
    started_more number marks (mark.Started number queue second)
    ∙ ap (λ first. option_or first (start_second number (mark.Started number queue second))) none
    ∙ ap (λ b. cond b (Some second) None) (passes_same number number refl)

-- the start of a batch job is the last one
batch_since : (batch : Bool) (second : ℤ) (last : Option ℤ)
    → (if batch then Some second else last) ≡ first_of_two (if batch then Some second else None) last
batch_since true second last = refl
batch_since false second last = refl

-- the job has its file in the queue of its start
has_its_file : (marks : List Mark) (files : Files) (number : ℕ) (job : Job) (state : JobState) → IsLiveBy marks files number job state
    → HasFile marks files number job.queue
has_its_file marks files number job state live = record {
  file = live.file;
  is = live.is;
  number_is = live.number_is;
  queue_is = ap (λ (j : Job). j.queue) live.job_is;
}

same_start : (number other queue its : ℕ) (second since : ℤ) → mark.Started number queue second ≡ mark.Started other its since
    → (number ≡ other) × (queue ≡ its)
same_start number other queue its second since same = (cc, cc)

start_shown : (before after : Files) (table : JobTable) (number : ℕ) (second : ℤ) (job : Job) → ShowsByName before table
    → entry_at table number ≡ Some (Live job Pending) → HasMarked table (mark.Started number job.queue second) before after
    → ShowsByName after (after_step table (Start number second))
start_shown before after table number second job shows is marked =
    let marks : List Mark = shows.read.marks in
    let added : Mark = mark.Started number job.queue second in
    let live : IsLiveBy marks before number job Pending = live_in before table number job Pending shows is in
    let entries : JobEntries = with_state number (Running second) (map.get table.entries number) table.entries in
    let entries_is : entries ≡ map.insert table.entries number (Live job (Running second)) =
    ap (λ entry. with_state number (Running second) entry table.entries) is in
    let since : started_at number (marks ++ added ∷ []) ≡ Some second =
    started_since number job.queue second marks (not_started (started_at number marks) live.state_is) in
    let running : ShowsEntry (marks ++ added ∷ []) after number (Some (Live job (Running second))) =
    shows_live (marks ++ added ∷ []) after number (Some (Live job (Running second)))
    (any_without (decides number) marks added refl ∙ live.undecided) (
      live.file,
      file_moves marks (marks ++ added ∷ []) before after (same_jobs before after marked.others) live.file live.is
          (any_without (decides live.file.job.number) marks added refl ∙ live.is.undecided),
      live_is (marks ++ added ∷ []) live.file number job (Running second) live.number_is live.job_is (ap state_since since),
    ) in
    step_shown before after table entries (if is_batch_entry (entry_at table number) then Some second else table.last_batch) added
    number shows marked (record {
      batch = ap (λ entry. if is_batch_entry entry then Some second else table.last_batch) is
          ∙ batch_since (is_batch_queue job.queue) second table.last_batch;
      unchecked = silent_other number;
      kept = λ other differ. ap (λ list. map.get list other) entries_is
          ∙ get-put_other table.entries number other (Live job (Running second)) differ;
      here = subst (ShowsEntry (marks ++ added ∷ []) after number)
          (sym (ap (λ list. map.get list number) entries_is ∙ get-put_same table.entries number (Live job (Running second)))) running;
      starts = λ other queue since same.
          let parts : (number ≡ other) × (job.queue ≡ queue) = same_start number other job.queue queue second since same in
          subst (λ n. HasFile marks before n queue) parts.0
          (subst (HasFile marks before number) parts.1 (has_its_file marks before number job Pending live));
    })

-- All five.

pub marked_by_name : (before after : Files) (table : JobTable) (step : Step) (added : Mark) → ShowsByName before table → IsLegal table step
    → AddsMark table step added → HasMarked table added before after → ShowsByName after (after_step table step)
marked_by_name before after table (Remove number) added shows (job, is) adds marked =
    decided_step before after table number fate.Removed (mark.Removed number) job Pending shows is (decides_by number fate.Removed)
    (subst (λ one. HasMarked table one before after) adds marked)
marked_by_name before after table (Start number second) added shows legal (job, is, adds) marked =
    start_shown before after table number second job shows is (subst (λ one. HasMarked table one before after) adds marked)
marked_by_name before after table (End number ending) added shows (job, second, is) adds marked =
    decided_step before after table number (fate.Finished ending) (mark.Ended number ending) job (Running second) shows is
    (decides_by number (fate.Finished ending)) (subst (λ one. HasMarked table one before after) adds marked)
marked_by_name before after table (Interrupt number) added shows (job, second, is) adds marked =
    decided_step before after table number fate.Interrupted (mark.Interrupted number) job (Running second) shows is
    (decides_by number fate.Interrupted) (subst (λ one. HasMarked table one before after) adds marked)
marked_by_name before after table (Forget number) added shows legal adds marked =
    forget_shown before after table number shows legal (subst (λ one. HasMarked table one before after) adds marked)
marked_by_name before after table _ added shows legal adds marked = absurd adds
