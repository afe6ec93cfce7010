-- The work of a session: the recovery, the mark, and what is due.
use Rattle.std.proofs.Common.{◌≡◌, ◌∙◌, ◌≤◌, ◌<◌, ◌+◌, ℕ, ℤ, Bool, true, List, [], ◌++◌, inl, inr, length, refl, sym, ap, subst, arith}
use Rattle.std.specs.List.{list_any}
use Rattle.std.specs.Prelude.{◌==◌, IsErrAnd, false, suc, zero, Option, Some, Result, Ok, Err}
use Rattle.std.specs.FinMap as finite
use Rattle.std.proofs.lemmas.Bool.Decides.{nat_tests}
use Rattle.std.proofs.lemmas.List.{length-map}
use Rattle.at_words.specs.Numbers.{are_distinct}
use Rattle.host_calls.specs.declared.damage.Damage.{Damage}
use Rattle.host_calls.specs.Directory.{Files, Directory, IsImage}
use Rattle.host_calls.specs.Session.{IsInside, Session}
use Rattle.host_calls.specs.World.{World, reading}
use Rattle.host_calls.proofs.SessionLemmas.{stays_inside}
use Rattle.spool_model.specs.declared.job.Job.{Job}
use Rattle.spool_model.specs.declared.number.TheConstants.{LAST_NUMBER}
use Rattle.spool_model.specs.JobTable.{JobTable}
use Rattle.spool_model.specs.Lists.{live_count}
use Rattle.spool_shows.proofs.SoundTables.{shown_tables_are_sound}
use Rattle.host_calls.specs.declared.store_fault.StoreFault.{StoreFault}
use Rattle.host_calls.specs.declared.store_fault.StoreFault.TheVariants as fault
use Rattle.spool_model.specs.declared.row.TheConstants.{MAX_LIVE}
use Rattle.spool_store.specs.Recovery.{IsRecovered}
use Rattle.step_runs.specs.Calls.{ShowsAsBefore}
use Rattle.step_runs.specs.Current.{IsCurrent, Kept}
use Rattle.step_runs.specs.WithoutScripts.{without_scripts}
use Rattle.step_runs.proofs.ListLemmas.{lists_as_on_the_table}
use Rattle.whole_file.specs.Others.{ChangesFiles}
use Rattle.whole_file.proofs.ChangesJoined.{changes_end, changes_on, changes_weaker}
use Rattle.civil_minute.specs.declared.zone.Zone.{Zone}
use Rattle.host_calls.specs.ClockRange.{minute_at}
use Rattle.cron_text.specs.declared.entry.CronEntry.{CronEntry}
use Rattle.cron_session.specs.Mark.{IsMark, IsMarkDamage}
use Rattle.cron_session.specs.MarkNames.{mark_file, mark_temp}
use Rattle.cron_session.specs.declared.report.CronEnd.TheVariants.{Damaged}
use Rattle.cron_session.specs.SessionOutcome.{CronLeaves, IsCronIdle, IsOnTheMark, HasNothingToDo, IsCronStopped, IsUnmarked, IsCronDone, Submits}
use Rattle.cron_session.specs.Steps.{AreDueJobs, AreToSubmit, Cron, HasRoomFor, IsMarkedBefore, minute_of, next_numbers, submissions}
use Rattle.cron_session.specs.inside.Due.{AreDueAt, cron_jobs}
use Rattle.cron_session.specs.inside.MarkThenSubmit.{MarksAndSubmits}
use Rattle.whole_file.specs.TempFiles.{IsDurableAt}
use Rattle.cron_session.specs.inside.Room.{IsRoomFault}
use Rattle.cron_session.specs.inside.SessionWork.{DueLeaves, AreSubmissionsBegun, AreJobsRefused, IsCronUntouched, SubmitsDue, cron_end_after}
use Rattle.cron_session.proofs.CauseLemmas.{full_is_none, memory_is_none, used_up_is_none}
use Rattle.cron_session.proofs.DueLemmas.{jobs_are_due}
use Rattle.cron_session.proofs.NameLemmas.{file_beside, temp_beside}
use Rattle.cron_session.proofs.SubmitLemmas.{submissions_legal}

-- The table that a store keeps.

last_without_scripts : (table : JobTable) → (without_scripts table).last ≡ table.last
unfolding without_scripts
last_without_scripts table = refl

pub same_last : (kept : Kept) (table : JobTable) → kept.table ≡ without_scripts table → kept.table.last ≡ table.last
same_last kept table is = ap (λ (of : JobTable). of.last) is ∙ last_without_scripts table

pub same_live : (kept : Kept) (table : JobTable) → kept.table ≡ without_scripts table → live_count kept.table ≡ live_count table
same_live kept table is = ap live_count is ∙ (lists_as_on_the_table table).live_counted

room_on : (kept : Kept) (table : JobTable) (count : ℕ) (of : StoreFault) → kept.table ≡ without_scripts table
    → IsRoomFault kept.table count of → IsRoomFault table count of
room_on kept table count fault.QueueFull is many =
    subst (λ (live : ℕ). MAX_LIVE < live + count) (same_live kept table is) many
room_on kept table count fault.NumbersUsedUp is used = record {
  room = subst (λ (live : ℕ). live + count ≤ MAX_LIVE) (same_live kept table is) used.room;
  few = subst (λ (last : ℕ). LAST_NUMBER < last + count) (same_last kept table is) used.few;
}
room_on kept table count fault.Memory is because = tt
room_on kept table count _ is because = absurd because

-- What is due.

module _ (cron : Cron) (due : List (List ℕ)) (are : AreDueAt cron.entries (minute_of cron) cron.zone due) where
  abbrev pub jobs_due : List Job
  jobs_due = cron_jobs cron.context (minute_of cron) due

  pub due_jobs : AreDueJobs cron jobs_due
  due_jobs = record {
    civil = are.civil;
    shown = are.shown;
    are = ap (cron_jobs cron.context (minute_of cron)) are.are ∙ jobs_are_due cron are.civil;
  }

  pub as_many : length jobs_due ≡ length due
  as_many = length-map due _

-- at the minute of the session
pub due_at_now : (entries : List CronEntry) (minute : ℕ) (now : ℤ) (zone : Zone) (found due : List (List ℕ))
    → minute ≡ minute_at now → due ≡ found →
    AreDueAt entries minute zone found → AreDueAt entries (minute_at now) zone due
due_at_now entries minute now zone found due same is are =
    subst (λ (at : ℕ). AreDueAt entries at zone due) same (subst (AreDueAt entries minute zone) (sym is) are)

-- a fault that is handed on
pub submits_due_at : (tells : Bool) (before after : Session) (old new : World) (kept : Kept) (cron : Cron) (numbers : List ℕ)
    (of : StoreFault) (result : Result (Unit {0}) StoreFault) →
    IsErrAnd result (λ other. other ≡ of) → SubmitsDue tells before after old new kept cron numbers (Err of)
    → SubmitsDue tells before after old new kept cron numbers result
submits_due_at tells before after old new kept cron numbers of (Ok done) same submits = absurd same
submits_due_at tells before after old new kept cron numbers of (Err other) same submits =
    subst (λ (one : StoreFault). SubmitsDue tells before after old new kept cron numbers (Err one)) (sym same) submits

-- The numbers are distinct.

-- each is past the last one
none_below : (last count number : ℕ) → number ≤ last → list_any (λ other. other == number) (next_numbers last count) ≡ false
none_below last zero number below = refl
none_below last (suc count) number below =
    let apart : (last + 1 == number) ≡ false = grind (arith, nat_tests) in
    rw apart (none_below (last + 1) count number (omega (arith, below)))

pub numbers_are_distinct : (last count : ℕ) → are_distinct (next_numbers last count) ≡ true
numbers_are_distinct last zero = refl
numbers_are_distinct last (suc count) = rw (none_below (last + 1) count (last + 1) (omega arith)) (numbers_are_distinct (last + 1) count)

pub distinct_at : (last count : ℕ) (numbers : List ℕ) → numbers ≡ next_numbers last count → are_distinct numbers ≡ true
distinct_at last count numbers is = subst (λ (l : List ℕ). are_distinct l ≡ true) (sym is) (numbers_are_distinct last count)

-- Nothing was begun.
module _ (tells : Bool) (session : Session) (old : World) (kept : Kept) (cron : Cron) (inside : IsInside session) (numbers : List ℕ)
    (none : numbers ≡ []) where
  untouched : IsCronUntouched numbers old old
  untouched = record { none = none; same = refl }

  distinct : are_distinct numbers ≡ true
  distinct = subst (λ (l : List ℕ). are_distinct l ≡ true) (sym none) refl

  pub due_wants : SubmitsDue tells session session old old kept cron numbers (Err fault.Memory)
  due_wants = record {
    inside =
        record { stays = stays_inside session inside; cause = record { later = omega arith; rose = λ bad. absurd (memory_is_none bad) } };
    unread = tt;
    distinct = distinct;
    leaves = λ known table current durable. inl untouched;
  }

  module _ (due : List (List ℕ)) (are : AreDueAt cron.entries (minute_of cron) cron.zone due) where
    refused_on : (of : StoreFault) → IsRoomFault kept.table (length due) of → (table : JobTable) → kept.table ≡ without_scripts table
        → AreJobsRefused cron table numbers old old of
    refused_on of because table is = record {
      jobs = jobs_due cron due are;
      are = due_jobs cron due are;
      because =
          subst (λ (count : ℕ). IsRoomFault table count of) (sym (as_many cron due are)) (room_on kept table (length due) of is because);
      untouched = untouched;
    }

    pub room_refused : (of : StoreFault) → IsRoomFault kept.table (length due) of
        → SubmitsDue tells session session old old kept cron numbers (Err of)
    room_refused fault.QueueFull because = record {
      inside =
          record { stays = stays_inside session inside; cause = record { later = omega arith; rose = λ bad. absurd (full_is_none bad) } };
      unread = none;
      distinct = distinct;
      leaves = λ known table current durable. refused_on fault.QueueFull because table current.without_scripts_is;
    }
    room_refused fault.NumbersUsedUp because = record {
      inside = record {
        stays = stays_inside session inside;
        cause = record { later = omega arith; rose = λ bad. absurd (used_up_is_none bad) };
      };
      unread = none;
      distinct = distinct;
      leaves = λ known table current durable. refused_on fault.NumbersUsedUp because table current.without_scripts_is;
    }
    room_refused fault.Memory because = due_wants
    room_refused _ because = absurd because

-- The minute was marked, or that was tried.
module _ (tells : Bool) (before after : Session) (old new : World) (kept : Kept) (cron : Cron) (due : List (List ℕ))
    (are : AreDueAt cron.entries (minute_of cron) cron.zone due)
    (room : HasRoomFor kept.table (length due)) (was numbers : List ℕ) (none : was ≡ []) where
  begun : (result : Result (Unit {0}) StoreFault)
      → MarksAndSubmits tells before after old new kept (minute_of cron) (jobs_due cron due are) was numbers result →
      tells ≡ true → (table : JobTable) → IsCurrent kept old.now.directory table → IsDurableAt mark_temp old.now.directory
      → AreSubmissionsBegun cron table numbers old new result
  begun result marks known table current durable = record {
    jobs = jobs_due cron due are;
    are = due_jobs cron due are;
    room = record {
      room = subst (λ (live : ℕ). live + length (jobs_due cron due are) ≤ MAX_LIVE) (same_live kept table current.without_scripts_is)
          (subst (λ (count : ℕ). live_count kept.table + count ≤ MAX_LIVE) (sym (as_many cron due are)) room.room);
      numbers = subst (λ (last : ℕ). last + length (jobs_due cron due are) ≤ LAST_NUMBER) (same_last kept table current.without_scripts_is)
          (subst (λ (count : ℕ). kept.table.last + count ≤ LAST_NUMBER) (sym (as_many cron due are)) room.numbers);
    };
    part = marks.part;
    is_part = marks.is_part;
    written = marks.written ∙ ap (λ (l : List ℕ). l ++ next_numbers kept.table.last (length marks.part.made)) none
        ∙ ap (λ (last : ℕ). next_numbers last (length marks.part.made)) (same_last kept table current.without_scripts_is);
    leaves = marks.leaves known table current durable;
  }

  numbers_distinct : (result : Result (Unit {0}) StoreFault) → MarksAndSubmits tells before after old new kept (minute_of cron)
      (jobs_due cron due are) was numbers result → are_distinct numbers ≡ true
  numbers_distinct result marks =
      distinct_at kept.table.last (length marks.part.made) numbers
      (marks.written ∙ ap (λ (l : List ℕ). l ++ next_numbers kept.table.last (length marks.part.made)) none)

  pub due_submitted : (result : Result (Unit {0}) StoreFault)
      → MarksAndSubmits tells before after old new kept (minute_of cron) (jobs_due cron due are) was numbers result →
      SubmitsDue tells before after old new kept cron numbers result
  due_submitted (Ok done) marks =
      record { inside = marks.inside; unread = tt; distinct = numbers_distinct (Ok done) marks; leaves = begun (Ok done) marks }
  due_submitted (Err fault.FileFault) marks =
      record {
        inside = marks.inside;
        unread = tt;
        distinct = numbers_distinct (Err fault.FileFault) marks;
        leaves = begun (Err fault.FileFault) marks;
      }
  due_submitted (Err fault.Memory) marks =
      record {
        inside = marks.inside;
        unread = tt;
        distinct = numbers_distinct (Err fault.Memory) marks;
        leaves = λ known table current durable. inr (begun (Err fault.Memory) marks known table current durable);
      }
  due_submitted _ marks = absurd marks.faults

-- Since the start.

as_before : (start : Directory) (image : Files) → IsImage start image → ShowsAsBefore start image
as_before start image is = record { from = image; was = is; same = refl; others = λ name other. refl }

-- an image on the way of a recovery
recovery_is_unmarked : (start : Directory) (image : Files) → ShowsAsBefore start image → IsUnmarked start image
recovery_is_unmarked start image is = record {
  alone = record { from = is.from; was = is.was; others = λ name other. is.others name (λ spool. other (inl spool)) };
  same = is.same;
}

pub idle_after : (old middle : World) (numbers : List ℕ) → numbers ≡ [] → ChangesFiles (ShowsAsBefore old.now.directory) old middle
    → IsCronIdle numbers old middle
idle_after old middle numbers none recovery = record {
  none = none;
  unmarked = changes_weaker (ShowsAsBefore old.now.directory) (IsUnmarked old.now.directory) old middle
      (recovery_is_unmarked old.now.directory) recovery;
}

-- the file that is being made is durable after a recovery
pub temp_durable : (old middle : World) (kept : Kept) → IsRecovered old.now.directory middle.now.directory kept
    → IsDurableAt mark_temp middle.now.directory
temp_durable old middle kept recovered image is = recovered.durable_others image is mark_temp temp_beside

module _ (cron : Cron) (old middle : World) (kept : Kept) (recovery : ChangesFiles (ShowsAsBefore old.now.directory) old middle)
    (recovered : IsRecovered old.now.directory middle.now.directory kept) where
  -- the file of the mark reads as before
  pub mark_reads_on : finite.get (reading middle) mark_file ≡ finite.get (reading old) mark_file
  mark_reads_on = recovered.others mark_file file_beside

  since : (image : Files) → IsImage middle.now.directory image → ShowsAsBefore old.now.directory image
  since = changes_end (ShowsAsBefore old.now.directory) old middle recovery (as_before old.now.directory)

  unmarked_since : (image : Files) → IsUnmarked middle.now.directory image → IsUnmarked old.now.directory image
  unmarked_since image is =
      let from : ShowsAsBefore old.now.directory is.alone.from = since is.alone.from is.alone.was in
      record {
        alone = record {
          from = from.from;
          was = from.was;
          others = λ name other. is.alone.others name other ∙ from.others name (λ spool. other (inl spool));
        };
        same = is.same ∙ from.same;
      }

  on_mark_since : (minute : ℕ) (table : JobTable) (jobs : List Job) (image : Files)
      → IsOnTheMark minute table (submissions table.last jobs) middle.now.directory image →
      IsOnTheMark minute table (submissions table.last jobs) old.now.directory image
  on_mark_since minute table jobs image (inl is) = inl (unmarked_since image is)
  on_mark_since minute table jobs image (inr is) =
      let from : ShowsAsBefore old.now.directory is.others.from = since is.others.from is.others.was in
      inr (record {
        come = is.come;
        others = record {
          from = from.from;
          was = from.was;
          others = λ name other. is.others.others name other ∙ from.others name (λ spool. other (inl spool));
        };
      })

  -- The mark was of the minute already, or of a later one.
  pub quiet_after : (numbers : List ℕ) → numbers ≡ [] → (marked : ℕ) → IsMark (finite.get (reading middle) mark_file) (Some marked)
      → minute_of cron ≤ marked →
      HasNothingToDo cron numbers old middle
  quiet_after numbers none marked mark late = record {
    already = record {
      table = recovered.table;
      shown = recovered.shown;
      marked = marked;
      mark = subst (λ content. IsMark content (Some marked)) mark_reads_on mark;
      since = late;
    };
    idle = idle_after old middle numbers none recovery;
    others = recovered.others;
  }

  -- The mark is damaged.
  pub mark_damaged : (numbers : List ℕ) → numbers ≡ [] → (damage : Damage) → IsMarkDamage (finite.get (reading middle) mark_file) damage →
      CronLeaves cron numbers old middle (Damaged damage)
  mark_damaged numbers none damage is = (
    inr (recovered.table, recovered.shown, subst (λ content. IsMarkDamage content damage) mark_reads_on is),
    idle_after old middle numbers none recovery,
  )

  -- The mark is of an earlier minute.
  module _ (marked : Option ℕ) (mark : IsMark (finite.get (reading middle) mark_file) marked)
      (before : IsMarkedBefore (minute_of cron) marked) where
    to_submit : (jobs : List Job) → AreDueJobs cron jobs → AreToSubmit cron (reading old) recovered.table jobs
    to_submit jobs are = record {
      shown = recovered.shown;
      marked = marked;
      mark = subst (λ content. IsMark content marked) mark_reads_on mark;
      before = before;
      jobs_are = are;
    }

    module _ (numbers : List ℕ) (new : World) where
      submits_all : (result : Result (Unit {0}) StoreFault) (is : AreSubmissionsBegun cron recovered.table numbers middle new result)
          → Submits cron recovered.table is.jobs old new
      submits_all result is = record {
        are = to_submit is.jobs is.are;
        room = is.room;
        legal = submissions_legal recovered.table is.jobs
            (shown_tables_are_sound (reading old) recovered.table recovered.shown) is.room.numbers;
        files = changes_on (ShowsAsBefore old.now.directory)
            (IsOnTheMark (minute_of cron) recovered.table (submissions recovered.table.last is.jobs) middle.now.directory)
            (IsOnTheMark (minute_of cron) recovered.table (submissions recovered.table.last is.jobs) old.now.directory) old middle new
            (λ image at. inl (recovery_is_unmarked old.now.directory image at)) (on_mark_since (minute_of cron) recovered.table is.jobs)
            recovery is.leaves.files;
      }

      whole_after : AreSubmissionsBegun cron recovered.table numbers middle new (Ok tt) → IsCronDone cron numbers old new
      whole_after is = record {
        table = recovered.table;
        jobs = is.jobs;
        submits = submits_all (Ok tt) is;
        holds = is.leaves.ends.0;
        others = λ name other. is.leaves.ends.1 name other ∙ recovered.others name (λ spool. other (inl spool));
        numbers_are = is.written ∙ ap (λ (made : List Job). next_numbers recovered.table.last (length made)) is.is_part.all;
      }

      stopped_after : (of : StoreFault) → AreSubmissionsBegun cron recovered.table numbers middle new (Err of)
          → IsCronStopped cron numbers old new
      stopped_after of is = record {
        table = recovered.table;
        made = is.part.made;
        next = is.part.next;
        later = is.part.later;
        few = is.is_part.few;
        submits = subst (λ (jobs : List Job). Submits cron recovered.table jobs old new) is.is_part.are (submits_all (Err of) is);
        ends = λ image at. elim (is.leaves.ends image at) [
          | inl unmarked ↦ inl (unmarked.0, unmarked_since image unmarked.1, unmarked.2)
          | inr come ↦ inr come
        ];
        numbers_are = is.written;
      }

      idle_same : IsCronUntouched numbers middle new → IsCronIdle numbers old new
      idle_same is = subst (IsCronIdle numbers old) (sym is.same) (idle_after old middle numbers is.none recovery)

      pub due_leaves : (result : Result (Unit {0}) StoreFault) → DueLeaves cron recovered.table numbers middle new result
          → CronLeaves cron numbers old new (cron_end_after result)
      due_leaves (Ok done) leaves = inr (whole_after leaves)
      due_leaves (Err fault.FileFault) leaves = inr (stopped_after fault.FileFault leaves)
      due_leaves (Err fault.Memory) (inl nothing) = inl (idle_same nothing)
      due_leaves (Err fault.Memory) (inr some) = inr (stopped_after fault.Memory some)
      due_leaves (Err fault.QueueFull) leaves = (
        record { table = recovered.table; jobs = leaves.jobs; are = to_submit leaves.jobs leaves.are; many = leaves.because },
        idle_same leaves.untouched,
      )
      due_leaves (Err fault.NumbersUsedUp) leaves = (
        record {
          table = recovered.table;
          jobs = leaves.jobs;
          are = to_submit leaves.jobs leaves.are;
          room = leaves.because.room;
          few = leaves.because.few;
        },
        idle_same leaves.untouched,
      )
      due_leaves (Err (fault.Damaged damage)) leaves = absurd leaves
