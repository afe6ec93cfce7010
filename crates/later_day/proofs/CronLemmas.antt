-- A session of a crontab has an effect on the table by its own steps, and leaves the notes of mail alone.
use Rattle.std.proofs.Common.{◌≡◌, ◌≢◌, ◌∙◌, ◌⊎◌, ◌+◌, ◌++◌, ℕ, false, List, [], ◌∷◌, ap, append-nil, inl, inr, length, refl, subst, sym}
use Rattle.host_calls.specs.declared.child.Handed.{Handed}
use Rattle.host_calls.specs.Directory.{Files, IsImage}
use Rattle.host_calls.specs.World.{HasEachImage, LeavesOnly, Moment, World, reading}
use Rattle.host_calls.proofs.WorldLemmas.{at_end, leaves_weaker}
use Rattle.whole_file.specs.Others.{ChangesFiles}
use Rattle.whole_file.proofs.ChangesJoined.{left_alone}
use Rattle.whole_file.proofs.OthersLemmas.{changes_none}
use Rattle.spool_model.specs.declared.job.Job.{Job}
use Rattle.spool_model.specs.declared.step.Step.{Step}
use Rattle.spool_model.specs.JobTable.{JobTable}
use Rattle.spool_model.specs.Steps.{FollowDraws, IsPrefix, after_steps}
use Rattle.spool_shows.specs.Shown.{Shows}
use Rattle.step_runs.specs.Hands.{StartNothing}
use Rattle.step_runs.proofs.HandsLemmas.{prefix_after, prefix_longer, quiet_prefix}
use Rattle.headline.specs.Effects.{Partial, Untouched, Whole}
use Rattle.headline.specs.ShownEffects.{IsShownAlong, IsShownAsBefore, IsShownBegun, IsShownOnTheWay}
use Rattle.mail_notes.specs.Names.{mail_file}
use Rattle.at_mail.specs.Once.{IsBesideMail, LeavesNotes}
use Rattle.cron_session.specs.declared.report.CronEnd.{CronEnd}
use Rattle.cron_session.specs.declared.report.CronEnd.TheVariants.{Done, Busy, FileFault, Damaged, QueueFull, NumbersUsedUp, Memory}
use Rattle.cron_session.specs.SessionOutcome.{IsCronIdle, IsOnTheMark, IsSpoolOrTemp, IsCronStopped, IsUnmarked, IsCronDone, Submits}
use Rattle.cron_session.specs.Steps.{AreToSubmit, Cron, IsMarkedAlready, minute_of, submissions}
use Rattle.cron_session.proofs.SubmitLemmas.{submissions-append}
use Rattle.later_day.specs.EventsLaws.{CronSessionsPass}
use Rattle.later_day.specs.SessionsPass.{PassesCron}
use Rattle.later_day.proofs.NamesApart.{mail_is_no_cron_name, mail_is_no_temp}

-- Submissions.

follow_submissions : (last : ℕ) (jobs : List Job) → FollowDraws false (submissions last jobs)
follow_submissions last [] = tt
follow_submissions last (job ∷ later) = (refl, follow_submissions (last + 1) later)

submissions_start_nothing : (last : ℕ) (jobs : List Job) → StartNothing (submissions last jobs)
submissions_start_nothing last [] = tt
submissions_start_nothing last (job ∷ later) = submissions_start_nothing (last + 1) later

-- those of the first jobs, and a prefix of the next one's, are a prefix of all
first_of_all : (last : ℕ) (made next later : List Job) (prefix : List Step) → IsPrefix prefix (submissions (last + length made) next) →
    IsPrefix (submissions last made ++ prefix) (submissions last (made ++ (next ++ later)))
first_of_all last made next later prefix is =
    let after : ℕ = last + length made in
    let all_are : submissions last (made ++ (next ++ later))
    ≡ submissions last made ++ (submissions after next ++ submissions (after + length next) later) =
    submissions-append last made (next ++ later)
    ∙ ap (λ (steps : List Step). submissions last made ++ steps) (submissions-append after next later) in
    subst (IsPrefix (submissions last made ++ prefix)) (sym all_are)
    (prefix_after (submissions last made) prefix (submissions after next ++ submissions (after + length next) later)
    (prefix_longer prefix (submissions after next) (submissions (after + length next) later) is))

-- Images.

module _ (start : Moment) where
  unmarked_is_before : (image : Files) (handed : List Handed) → IsUnmarked start.directory image → handed ≡ start.handed →
      IsShownAsBefore start image handed
  unmarked_is_before image handed is same =
      record { from = is.alone.from; was = is.alone.was; same = is.same; as_many = same }

  unmarked_leaves_notes : (image : Files) (handed : List Handed) → IsUnmarked start.directory image → handed ≡ start.handed →
      LeavesNotes start image handed
  unmarked_leaves_notes image handed is same = record {
    from = is.alone.from;
    was = is.alone.was;
    same = is.alone.others mail_file mail_is_no_temp;
    given = [];
    grown = same ∙ sym (append-nil start.handed);
    no_notice = refl;
  }

  module _ (table : JobTable) (jobs : List Job) where
    abbrev steps : List Step
    steps = submissions table.last jobs

    along : (prefix : List Step) → IsPrefix prefix steps → (image : Files) (handed : List Handed) →
        Shows image (after_steps table prefix) → handed ≡ start.handed → IsShownAlong table steps start image handed
    along prefix is_prefix image handed shows same = record {
      prefix = prefix;
      is_prefix = is_prefix;
      shows = shows;
      given = [];
      grown = same ∙ sym (append-nil start.handed);
      hands = inl (quiet_prefix table prefix is_prefix.0
          (subst StartNothing is_prefix.1 (submissions_start_nothing table.last jobs)));
    }

    on_the_way : (minute : ℕ) (image : Files) (handed : List Handed) → IsOnTheMark minute table steps start.directory image →
        handed ≡ start.handed → IsShownOnTheWay table steps start image handed
    on_the_way minute image handed is same = elim is [
      | inl before ↦ inl (unmarked_is_before image handed before same)
      | inr marked ↦ inr (along marked.come.shows.prefix marked.come.shows.is_prefix image handed marked.come.shows.shows same)
    ]

    on_the_mark_leaves_notes : (minute : ℕ) (image : Files) (handed : List Handed) →
        IsOnTheMark minute table steps start.directory image → handed ≡ start.handed → LeavesNotes start image handed
    on_the_mark_leaves_notes minute image handed is same = elim is [
      | inl before ↦ unmarked_leaves_notes image handed before same
      | inr marked ↦ record {
        from = marked.others.from;
        was = marked.others.was;
        same = marked.others.others mail_file mail_is_no_cron_name;
        given = [];
        grown = same ∙ sym (append-nil start.handed);
        no_notice = refl;
      }
    ]

-- What a call leaves that only changes files.

module _ (P : Files → Type 0) (Q : Files → List Handed → Type 0) (old new : World) (changes : ChangesFiles P old new)
    (weaker : (image : Files) (handed : List Handed) → P image → handed ≡ old.now.handed → Q image handed) where
  changes_leave : LeavesOnly Q old new
  changes_leave =
      leaves_weaker (λ image handed. P image × (handed ≡ old.now.handed)) Q old new
      (λ image handed is. weaker image handed is.0 is.1) changes.leaves

  changes_left : ((image : Files) → IsImage old.now.directory image → P image) → HasEachImage Q new.now
  changes_left start = at_end Q old new changes_leave (λ image is. weaker image old.now.handed (start image is) refl)

-- Sessions.

module _ (cron : Cron) (numbers : List ℕ) (old new : World) where
  at_start : (image : Files) → IsImage old.now.directory image → IsUnmarked old.now.directory image
  at_start image is = record { alone = left_alone IsSpoolOrTemp old.now.directory image is; same = refl }

  -- nothing was submitted
  idle_passes : (end : CronEnd) → (end ≡ Done → IsMarkedAlready cron (reading old)) → IsCronIdle numbers old new →
      PassesCron cron end numbers old new
  idle_passes end already idle = record {
    effect = Untouched;
    by_its_steps = (idle.none, already);
    later = (
      inl tt,
      record {
        leaves = changes_leave (IsUnmarked old.now.directory) (IsShownAsBefore old.now) old new idle.unmarked (unmarked_is_before old.now);
        now = changes_left (IsUnmarked old.now.directory) (IsShownAsBefore old.now) old new idle.unmarked (unmarked_is_before old.now)
            at_start;
      },
    );
    mail = record {
      leaves = changes_leave (IsUnmarked old.now.directory) (LeavesNotes old.now) old new idle.unmarked (unmarked_leaves_notes old.now);
      now = changes_left (IsUnmarked old.now.directory) (LeavesNotes old.now) old new idle.unmarked (unmarked_leaves_notes old.now)
          at_start;
    };
  }

  -- jobs were to be submitted
  module _ (table : JobTable) (jobs : List Job) (submits : Submits cron table jobs old new) where
    abbrev all : List Step
    all = submissions table.last jobs

    abbrev OnTheMark : Files → Type 0
    OnTheMark image = IsOnTheMark (minute_of cron) table all old.now.directory image

    begun : HasEachImage (IsShownAlong table all old.now) new.now → IsShownBegun table all old new
    begun along_at_end = record {
      shown = submits.are.shown;
      legal = submits.legal;
      leaves = changes_leave OnTheMark (IsShownOnTheWay table all old.now) old new submits.files
          (on_the_way old.now table jobs (minute_of cron));
      now = along_at_end;
    }

    beside_mail : IsBesideMail old new
    beside_mail = record {
      leaves = changes_leave OnTheMark (LeavesNotes old.now) old new submits.files
          (on_the_mark_leaves_notes old.now table jobs (minute_of cron));
      now = changes_left OnTheMark (LeavesNotes old.now) old new submits.files
          (on_the_mark_leaves_notes old.now table jobs (minute_of cron)) (λ image is. inl (at_start image is));
    }

  whole_passes : IsCronDone cron numbers old new → PassesCron cron Done numbers old new
  whole_passes whole =
      let all : List Step = submissions whole.table.last whole.jobs in
      record {
        effect = Whole whole.table all;
        by_its_steps = (
          refl,
          record {
            made = whole.jobs;
            rest = [];
            are = subst (AreToSubmit cron (reading old) whole.table) (sym (append-nil whole.jobs)) whole.submits.are;
            steps_are = ap (submissions whole.table.last) (sym (append-nil whole.jobs));
            numbers_are = whole.numbers_are;
          },
          refl,
        );
        later = (
          inl (submissions_start_nothing whole.table.last whole.jobs),
          (
            follow_submissions whole.table.last whole.jobs,
            record {
              begun = begun whole.table whole.jobs whole.submits (λ image is.
                  along old.now whole.table whole.jobs all ([], sym (append-nil all)) image new.now.handed (whole.holds image is).1
                  whole.submits.files.handed);
              whole = λ image is. (whole.holds image is).1;
            },
          ),
        );
        mail = beside_mail whole.table whole.jobs whole.submits;
      }

  stopped_passes : (end : CronEnd) → end ≢ Done → IsCronStopped cron numbers old new → PassesCron cron end numbers old new
  stopped_passes end unfinished stopped =
      let jobs : List Job = stopped.made ++ (stopped.next ++ stopped.later) in
      record {
        effect = Partial stopped.table (submissions stopped.table.last jobs);
        by_its_steps = (
          unfinished,
          record {
            made = stopped.made;
            rest = stopped.next ++ stopped.later;
            are = stopped.submits.are;
            steps_are = refl;
            numbers_are = stopped.numbers_are;
          },
        );
        later = (
          inl (submissions_start_nothing stopped.table.last jobs),
          (
            follow_submissions stopped.table.last jobs,
            begun stopped.table jobs stopped.submits (λ image is. elim (stopped.ends image is) [
              | inl before ↦ along old.now stopped.table jobs [] (submissions stopped.table.last jobs, refl) image new.now.handed before.2
                  stopped.submits.files.handed
              | inr come ↦ along old.now stopped.table jobs (submissions stopped.table.last stopped.made ++ come.shows.prefix)
                  (first_of_all stopped.table.last stopped.made stopped.next stopped.later come.shows.prefix come.shows.is_prefix)
                  image new.now.handed come.shows.shows stopped.submits.files.handed
            ]),
          ),
        );
        mail = beside_mail stopped.table jobs stopped.submits;
      }

  either_passes : (end : CronEnd) → end ≢ Done → IsCronIdle numbers old new ⊎ IsCronStopped cron numbers old new →
      PassesCron cron end numbers old new
  either_passes end unfinished leaves = elim leaves [
    | inl idle ↦ idle_passes end (λ is. absurd (unfinished is)) idle
    | inr stopped ↦ stopped_passes end unfinished stopped
  ]

still_idle : (numbers : List ℕ) (old new : World) → numbers ≡ [] → new ≡ old → IsCronIdle numbers old new
still_idle numbers old new none same =
    subst (IsCronIdle numbers old) (sym same) (record { none = none; unmarked = changes_none (IsUnmarked old.now.directory) old })

pub cron_sessions_pass : CronSessionsPass
cron_sessions_pass cron old new Done numbers leaves = elim leaves [
  | inl quiet ↦ idle_passes cron numbers old new Done (λ is. quiet.already) quiet.idle
  | inr whole ↦ whole_passes cron numbers old new whole
]
cron_sessions_pass cron old new Busy numbers leaves =
    idle_passes cron numbers old new Busy (λ is. cc) (still_idle numbers old new leaves.0 leaves.1)
cron_sessions_pass cron old new (Damaged damage) numbers leaves =
    idle_passes cron numbers old new (Damaged damage) (λ is. cc) leaves.1
cron_sessions_pass cron old new QueueFull numbers leaves = idle_passes cron numbers old new QueueFull (λ is. cc) leaves.1
cron_sessions_pass cron old new NumbersUsedUp numbers leaves = idle_passes cron numbers old new NumbersUsedUp (λ is. cc) leaves.1
cron_sessions_pass cron old new FileFault numbers leaves = either_passes cron numbers old new FileFault (λ is. cc) leaves
cron_sessions_pass cron old new Memory numbers leaves = either_passes cron numbers old new Memory (λ is. cc) leaves
