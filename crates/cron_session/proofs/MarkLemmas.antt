-- A minute that is marked, and then its jobs are submitted.
use Rattle.std.proofs.Common.{◌≡◌, ◌∙◌, ℕ, List, [], inl, inr, refl, sym, subst}
use Rattle.std.specs.Prelude.{Result, Ok, Err, Some}
use Rattle.std.specs.FinMap as finite
use Rattle.host_calls.specs.Directory.{Files, Directory, IsImage}
use Rattle.host_calls.specs.World.{World}
use Rattle.spool_model.specs.declared.job.Job.{Job}
use Rattle.spool_model.specs.declared.step.Step.{Step}
use Rattle.spool_model.specs.JobTable.{JobTable}
use Rattle.spool_model.specs.Steps.{after_steps}
use Rattle.spool_shows.specs.Shown.{Shows}
use Rattle.host_calls.specs.declared.store_fault.StoreFault.{StoreFault}
use Rattle.spool_store.proofs.BesideLemmas.{shows_the_same, stays_current}
use Rattle.step_runs.specs.Calls.{IsSteppingOn}
use Rattle.step_runs.specs.Current.{EachShows, IsCurrent, IsSpoolName, Kept}
use Rattle.whole_file.specs.Others.{ChangesFiles, IsEither}
use Rattle.whole_file.specs.Placement.{IsPlaced, IsPlacing}
use Rattle.whole_file.proofs.ChangesJoined.{changes_end, changes_on, changes_weaker, left_alone}
use Rattle.whole_file.proofs.OthersLemmas.{one_or_other}
use Rattle.cron_session.specs.Mark.{cron_mark_text}
use Rattle.cron_session.specs.MarkNames.{mark_file, mark_temp}
use Rattle.cron_session.specs.SessionOutcome.{HasCome, HasCronMark, IsOnTheMark, IsUnmarked}
use Rattle.cron_session.specs.Steps.{submissions}
use Rattle.cron_session.specs.inside.MarkThenSubmit.{MarkingEnds, MarkingLeaves}
use Rattle.cron_session.specs.inside.Submissions.{IsPartOf, CronPart, SubmissionsLeave}
use Rattle.cron_session.proofs.NameLemmas.{both_beside, file_beside}

-- what is placed is the mark of the minute
abbrev pub IsMarking : ℕ → Directory → Files → Type 0
IsMarking minute start image = IsPlacing mark_temp mark_file (cron_mark_text minute) start image

-- an image of the start
not_marked_yet : (minute : ℕ) (start : Directory) (image : Files) → IsImage start image → IsMarking minute start image
not_marked_yet minute start image is = record { alone = left_alone (IsEither mark_temp mark_file) start image is; placed = inl refl }

-- an image that has the mark of the start is unmarked
unmarked : (minute : ℕ) (start : Directory) (image : Files) (is : IsMarking minute start image) →
    finite.get image mark_file ≡ finite.get is.alone.from mark_file → IsUnmarked start image
unmarked minute start image is same = record {
  alone = record {
    from = is.alone.from;
    was = is.alone.was;
    others = λ name other. elim (one_or_other name mark_file) [
      | inl at ↦ subst (λ (n : List ℕ). finite.get image n ≡ finite.get is.alone.from n) (sym at) same
      | inr differs ↦ is.alone.others name (λ either. elim either [ inl temp ↦ other (inr temp) | inr at ↦ differs at ])
    ];
  };
  same = shows_the_same (IsEither mark_temp mark_file) both_beside start image is.alone;
}

module _ (minute : ℕ) (table : JobTable) (start : Directory) (shows : EachShows start table) where
  -- the table is shown still
  still_shows : (image : Files) → IsMarking minute start image → Shows image table
  still_shows image is =
      shows_the_same (IsEither mark_temp mark_file) both_beside start image is.alone ∙ shows is.alone.from is.alone.was

  -- one that has that of the minute shows the table
  come : (steps : List Step) (image : Files) → IsMarking minute start image → finite.get image mark_file ≡ Some (cron_mark_text minute)
      → HasCome minute table [] steps image
  come steps image is put = record {
    marked = put;
    shows = record {
      prefix = [];
      is_prefix = (steps, refl);
      shows = still_shows image is;
    };
  }

  marking_on : (steps : List Step) (image : Files) → IsMarking minute start image → IsOnTheMark minute table steps start image
  marking_on steps image is = elim is.placed [
    | inl same ↦ inl (unmarked minute start image is same)
    | inr put ↦ inr (record {
      come = come steps image is put;
      others =
          record { from = is.alone.from; was = is.alone.was; others = λ name other. is.alone.others name (λ either. other (inr either)) };
    })
  ]

-- The mark could not be placed.
pub mark_failed : (minute : ℕ) (table : JobTable) (jobs : List Job) (old new : World) (fault : StoreFault)
    → EachShows old.now.directory table →
    ChangesFiles (IsMarking minute old.now.directory) old new →
    MarkingLeaves minute table jobs (record { made = []; next = []; later = jobs }) old new (Err fault)
mark_failed minute table jobs old new fault shows marks = record {
  files =
      changes_weaker (IsMarking minute old.now.directory) (IsOnTheMark minute table (submissions table.last jobs) old.now.directory) old new
      (marking_on minute table old.now.directory shows (submissions table.last jobs)) marks;
  ends = λ image is.
      let at : IsMarking minute old.now.directory image =
      changes_end (IsMarking minute old.now.directory) old new marks (not_marked_yet minute old.now.directory) image is in
      elim at.placed [
        | inl same ↦ inl (refl, unmarked minute old.now.directory image at same, still_shows minute table old.now.directory shows image at)
        | inr put ↦ inr (come minute table old.now.directory shows [] image at put)
      ];
}

-- The mark was placed.
module _ (minute : ℕ) (table : JobTable) (kept : Kept) (old middle : World) (current : IsCurrent kept old.now.directory table)
    (marks : ChangesFiles (IsMarking minute old.now.directory) old middle)
    (mark : IsPlaced mark_temp mark_file (cron_mark_text minute) old.now.directory middle.now.directory) where
  -- what is kept is current still
  pub current_then : IsCurrent kept middle.now.directory table
  current_then =
      stays_current (IsEither mark_temp mark_file) both_beside kept table old.now.directory middle.now.directory current (record {
        images = λ image is.
            (changes_end (IsMarking minute old.now.directory) old middle marks (not_marked_yet minute old.now.directory) image is).alone;
        durable = mark.durable;
        others = mark.others;
      })

  -- an image on the way of the submissions has the mark
  stepping_marked : (steps : List Step) (image : Files) → IsSteppingOn table steps middle.now.directory image
      → finite.get image mark_file ≡ Some (cron_mark_text minute)
  stepping_marked steps image is = is.others.others mark_file file_beside ∙ mark.placed is.others.from is.others.was

  stepping_on : (steps : List Step) (image : Files) → IsSteppingOn table steps middle.now.directory image
      → HasCronMark minute table steps old.now.directory image
  stepping_on steps image is =
      let at : IsMarking minute old.now.directory is.others.from =
      changes_end (IsMarking minute old.now.directory) old middle marks (not_marked_yet minute old.now.directory)
      is.others.from is.others.was in
      record {
        come = record {
          marked = stepping_marked steps image is;
          shows = record { prefix = is.prefix; is_prefix = is.is_prefix; shows = is.shows };
        };
        others = record {
          from = at.alone.from;
          was = at.alone.was;
          others = λ name other. is.others.others name (λ spool. other (inl spool)) ∙ at.alone.others name (λ either. other (inr either));
        };
      }

  module _ (jobs : List Job) (part : CronPart) (new : World) where
    abbrev all : List Step
    all = submissions table.last jobs

    -- an image of the end
    at_end : ChangesFiles (IsSteppingOn table all middle.now.directory) middle new → (image : Files) → IsImage new.now.directory image
        → IsSteppingOn table all middle.now.directory image
    at_end files = changes_end (IsSteppingOn table all middle.now.directory) middle new files (λ image is. record {
      prefix = [];
      is_prefix = (all, refl);
      shows = current_then.shows image is;
      others = left_alone IsSpoolName middle.now.directory image is;
    })

    ends_by : (result : Result (Unit {0}) StoreFault) → IsPartOf jobs part result → SubmissionsLeave table jobs part middle new result
        → MarkingEnds minute table jobs part old new result
    ends_by (Ok done) is_part leaves = (
      λ image is. (
        stepping_marked all image (at_end leaves.files image is),
        subst (λ (made : List Job). Shows image (after_steps table (submissions table.last made))) is_part.all (leaves.ends image is),
      ),
      λ name other. leaves.others name (λ spool. other (inl spool)) ∙ mark.others name (λ either. other (inr either)),
    )
    ends_by (Err fault) is_part leaves = λ image is. inr (record {
      marked = stepping_marked all image (at_end leaves.files image is);
      shows = leaves.ends image is;
    })

    pub submitted_marked : (result : Result (Unit {0}) StoreFault) → IsPartOf jobs part result
        → SubmissionsLeave table jobs part middle new result →
        MarkingLeaves minute table jobs part old new result
    submitted_marked result is_part leaves = record {
      files = changes_on (IsMarking minute old.now.directory) (IsSteppingOn table all middle.now.directory)
          (IsOnTheMark minute table all old.now.directory) old middle new
          (marking_on minute table old.now.directory current.shows all) (λ image is. inr (stepping_on all image is)) marks leaves.files;
      ends = ends_by result is_part leaves;
    }
