-- No number that a mark of the journal starts is pending in the table that is saved.
use Rattle.std.proofs.Common.{◌≡◌, ◌⊎◌, ℕ, ℤ, Bool, true, false, List, Some, None, map, sym, ap, subst, ◌∙◌, refl, inl, inr, eq-eqb}
use Rattle.std.specs.Prelude.{if◌then◌else◌, is_some, not}
use Rattle.std.specs.Cmp.{nat_cmp_total}
use Rattle.std.specs.FinMap.{entries, find, get-entries, get-from_entries}
use Rattle.std.specs.List.{filter, filter_map}
use Rattle.std.specs.Ordering.{nat_cmp}
use Rattle.std.proofs.lemmas.Map.Lookups.{exact_unsigned}
use Rattle.host_calls.specs.Directory.{Files, name_cmp}
use Rattle.spool_model.specs.declared.entry.Entry.TheVariants.{Live, Done}
use Rattle.spool_model.specs.declared.fate.Fate.{Fate}
use Rattle.spool_model.specs.declared.fate.Fate.TheVariants as fate
use Rattle.spool_model.specs.declared.job.Job.{Job}
use Rattle.spool_model.specs.declared.state.State.TheVariants.{Pending}
use Rattle.spool_model.specs.JobTable.{IsPending, JobEntry, JobState}
use Rattle.spool_shows.specs.JobFiles.{JobFile}
use Rattle.spool_shows.specs.Shown.{done_as, done_entry, entries_shown, job_of, live_entry, state_since}
use Rattle.spool_shows.proofs.EntryLists.{key_has}
use Rattle.spool_shows.proofs.Membership.{Has, any_passes, filtered_has, given_has, has_contained, has_either, has_filtered, has_left, has_made, has_right, made_has, none_some}
use Rattle.spool_shows.proofs.ShownStates.{not_started}
use Rattle.spool_shows.proofs.StartLemmas.{number_passes}
use Rattle.start_journal.specs.declared.mark.Mark.{Mark}
use Rattle.start_journal.specs.declared.mark.Mark.TheVariants.{Removed, Started, Ended, Interrupted, Forgotten, Batch}
use Rattle.start_journal.specs.Journals.{journal_file}
use Rattle.start_journal.specs.Marks.{decides, is_decided, is_forgotten, has_mark_of, has_start_of, started_at, is_start_of}
use Rattle.start_journal.specs.Taken.{marks_taken}
use Rattle.start_journal.proofs.LifecycleLemmas.{started_has_second}
use Rattle.spool_faults.specs.Faults.{files_taken}
use Rattle.spool_faults.specs.Laws.{LostMarksLeaveNoJobPending, StartsAreNotPending}
use Rattle.spool_faults.specs.Salvaged.{files_of_salvage, given_up, is_left, is_unnamed, loses_marks_of, marks_of_salvage, removal_mark, salvaged, taken_back}

-- a number that a mark starts was started at some second
started_some : (marks : List Mark) (number queue : ℕ) (second : ℤ) → Has marks (Started number queue second)
    → ¬ (started_at number marks ≡ None)
started_some marks number queue second has none =
    let started : has_start_of number marks ≡ true =
    any_passes (is_start_of number) marks (Started number queue second) has (number_passes number number refl) in
    let impossible : true ≡ false = sym started ∙ started_has_second number marks ∙ ap is_some none in
    cc

-- the entry of a number with this fate
abbrev done_at : ℕ → Fate → ℕ × JobEntry
done_at of with = (of, Done with)

-- an entry of a mark is of a job that is done
as_done : (marks : List Mark) (of number : ℕ) (with : Fate) (job : Job) (state : JobState)
    → done_as marks of with ≡ Some (number, Live job state) → ⊥
as_done marks of number with job state is = by_test (is_forgotten of marks) is where
  by_test : (b : Bool) → (if b then None else Some (done_at of with)) ≡ Some (number, Live job state) → ⊥
  by_test true same = none_some (number, Live job state) same
  by_test false same =
      let pairs : ◌≡◌ {A = ℕ × JobEntry} (of, Done with) (number, Live job state) = cc in
      let entries : Done with ≡ Live job state = ap (λ (pair : ℕ × JobEntry). pair.1) pairs in
      cc

never_live : (marks : List Mark) (mark : Mark) (number : ℕ) (job : Job) (state : JobState)
    → done_entry marks mark ≡ Some (number, Live job state) → ⊥
never_live marks (Removed of) number job state is = as_done marks of number fate.Removed job state is
never_live marks (Ended of ending) number job state is = as_done marks of number (fate.Finished ending) job state is
never_live marks (Interrupted of) number job state is = as_done marks of number fate.Interrupted job state is
never_live marks (Started of queue second) number job state is = none_some (number, Live job state) is
never_live marks (Forgotten of) number job state is = none_some (number, Live job state) is
never_live marks (Batch second) number job state is = none_some (number, Live job state) is

-- a job that is pending among such entries has a file, and no mark starts it
record IsWaiting (marks : List Mark) (files : List JobFile) (number : ℕ) : Type 0 where
  file : JobFile
  has : Has files file
  of : file.job.number ≡ number
  unstarted : started_at number marks ≡ None

waiting_file : (marks : List Mark) (files : List JobFile) (number : ℕ) (job : Job)
    → Has (entries_shown marks files) (number, Live job Pending) → IsWaiting marks files number
waiting_file marks files number job has =
    by_either (has_either (map (live_entry marks) files) (filter_map (done_entry marks) marks) (number, Live job Pending) has)
  where
    by_live : (file : JobFile) → Has files file → live_entry marks file ≡ (number, Live job Pending) → IsWaiting marks files number
    by_live file among is =
        let number_is : file.job.number ≡ number = ap (λ (pair : ℕ × JobEntry). pair.0) is in
        let same : Live (job_of file) (state_since (started_at file.job.number marks)) ≡ Live job Pending =
        ap (λ (pair : ℕ × JobEntry). pair.1) is in
        let state : state_since (started_at file.job.number marks) ≡ Pending = cc in
        record {
          file = file;
          has = among;
          of = number_is;
          unstarted = subst (λ n. started_at n marks ≡ None) number_is (not_started (started_at file.job.number marks) state);
        }

    by_either : Has (map (live_entry marks) files) (number, Live job Pending)
        ⊎ Has (filter_map (done_entry marks) marks) (number, Live job Pending) → IsWaiting marks files number
    by_either (inl live) =
        let from : (file : JobFile) × Has files file × (live_entry marks file ≡ (number, Live job Pending)) =
        made_has (live_entry marks) files (number, Live job Pending) live in
        by_live from.0 from.1 from.2
    by_either (inr done) =
        let from : (mark : Mark) × Has marks mark × (done_entry marks mark ≡ Some (number, Live job Pending)) =
        given_has (done_entry marks) marks (number, Live job Pending) done in
        absurd (never_live marks from.0 number job Pending from.2)

-- so it is of a job that is pending in the table that is saved
saved_waiting : (files : Files) (number : ℕ) → IsPending (salvaged files) number
    → IsWaiting (marks_of_salvage files) (files_of_salvage files) number
unfolding salvaged
saved_waiting files number pending =
    waiting_file (marks_of_salvage files) (files_of_salvage files) number pending.0
    (key_has nat_cmp exact_unsigned _ number (Live pending.0 Pending) (sym (get-from_entries nat_cmp_total _ number) ∙ pending.1))

pub starts_are_not_pending : StartsAreNotPending
starts_are_not_pending files number queue second contains pending =
    let started : Has (marks_of_salvage files) (Started number queue second) =
    has_left _ _ (Started number queue second) (subst (λ content. Has (marks_taken content) (Started number queue second))
    (get-entries files journal_file) (has_contained _ (Started number queue second) contains)) in
    started_some (marks_of_salvage files) number queue second started (saved_waiting files number pending).unstarted

-- the job of a file that no mark names is removed, where a mark may be lost
removed_back : (marks : List Mark) (files : List JobFile) (lost : Bool) (file : JobFile) → lost ≡ true → Has files file
    → has_mark_of file.job.number marks ≡ false → Has (taken_back marks files lost) (Removed file.job.number)
removed_back marks files false file is has unnamed = let impossible : false ≡ true = is in cc
removed_back marks files true file is has unnamed =
    has_made removal_mark (filter (is_unnamed marks) files) file (has_filtered (is_unnamed marks) files file has (ap not unnamed))

pub lost_marks_leave_no_job_pending : LostMarksLeaveNoJobPending
lost_marks_leave_no_job_pending files number lost unnamed pending =
    let marks : List Mark = marks_taken (find name_cmp journal_file (entries files)) in
    let taken : List JobFile = files_taken marks (entries files) in
    let waits : IsWaiting (marks_of_salvage files) (files_of_salvage files) number = saved_waiting files number pending in
    let left : Has taken waits.file × (is_left (marks_of_salvage files) waits.file ≡ true) =
    filtered_has (is_left (marks_of_salvage files)) taken waits.file waits.has in
    let new : has_mark_of waits.file.job.number marks ≡ false =
    ap (λ n. has_mark_of n marks) waits.of
    ∙ ap (λ content. has_mark_of number (marks_taken content)) (sym (get-entries files journal_file)) ∙ unnamed in
    let removed : Has (marks_of_salvage files) (Removed waits.file.job.number) =
    has_right marks _ (Removed waits.file.job.number)
    (has_right (filter_map (given_up marks taken) marks) (taken_back marks taken (loses_marks_of files)) (Removed waits.file.job.number)
    (removed_back marks taken (loses_marks_of files) waits.file lost left.0 new)) in
    let decided : is_decided waits.file.job.number (marks_of_salvage files) ≡ true =
    any_passes (decides waits.file.job.number) (marks_of_salvage files) (Removed waits.file.job.number) removed
    (eq-eqb waits.file.job.number waits.file.job.number refl) in
    let impossible : false ≡ true = sym (ap not decided) ∙ left.1 in
    cc
