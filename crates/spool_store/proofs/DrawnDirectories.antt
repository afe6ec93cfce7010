-- Images of a directory in which a number is drawn, and the file of the job that has it is placed.
use Rattle.std.proofs.Common.{◌≡◌, ◌+◌, ℕ, Bool, true, List, [], ◌∷◌, sym, ap, subst, ◌∙◌, refl, inl, inr, arith}
use Rattle.std.specs.Prelude.{Ok, Some, IsSome}
use Rattle.std.specs.FinMap as finite
use Rattle.host_calls.specs.Directory.{Files, Directory, IsImage}
use Rattle.job_script.specs.HeaderIn.{header_in}
use Rattle.sequence_file.specs.Draw.{EachGivesNumber, IsDrawing}
use Rattle.sequence_file.specs.Sequence.{sequence_file}
use Rattle.whole_file.specs.Temporary.{temporary_file}
use Rattle.spool_model.specs.declared.job.Job.{Job}
use Rattle.spool_model.specs.declared.step.Step.TheVariants.{Draw}
use Rattle.spool_model.specs.JobTable.{JobTable, entry_at}
use Rattle.start_journal.specs.Journals.{journal_file, journal_in}
use Rattle.whole_file.specs.Others.{IsEither, LeavesOthers}
use Rattle.whole_file.specs.Placement.{IsPlacing}
use Rattle.whole_file.proofs.OthersLemmas.{neither, one_or_other}
use Rattle.spool_shows.specs.ByName.{ShowsByName}
use Rattle.job_name.specs.JobName.{job_named}
use Rattle.sequence_file.specs.LastNumber.{last_in}
use Rattle.spool_shows.specs.Laws.{AgreeElsewhere, HasAccepted, HasDrawn}
use Rattle.spool_shows.specs.Shown.{Shows}
use Rattle.spool_shows.proofs.ByNameReads.{journal_read, read_gives_journal}
use Rattle.spool_shows.proofs.NameLemmas.{AgreeOnNames, agreeing_keep, differ_by, entry_kept, job_name_apart, job_name_differs, journal_apart, sequence_no_job, sound_kept, temporary_no_job}
use Rattle.sequence_file.proofs.LastNumbers.{last_given, last_spelled}
use Rattle.spool_shows.proofs.StepLaws.{accepts_are_shown, by_name, draws_are_shown, shown}
use Rattle.step_runs.specs.Calls.{IsSteppingOn}
use Rattle.step_runs.specs.Current.{EachShows, IsSpoolName}
use Rattle.spool_model.specs.Steps.{submission}

-- where each image shows the table, each gives its last number
pub each_gives : (directory : Directory) (table : JobTable) → EachShows directory table → EachGivesNumber table.last directory
each_gives directory table shows image is = (by_name image table (shows image is)).last

-- the directory shows the same where the sequence file gives the same
same_number_shown : (before after : Files) (table : JobTable) → Shows before table → last_in (finite.get after sequence_file)
    ≡ Ok table.last → AgreeElsewhere temporary_file sequence_file before after → Shows after table
same_number_shown before after table shows number others =
    let is : ShowsByName before table = by_name before table shows in
    let agree : AgreeOnNames before after =
    λ name job named. others name (job_name_apart temporary_file sequence_file name job temporary_no_job sequence_no_job named) in
    shown after table (record {
      read = is.read;
      last = last_spelled (finite.get after sequence_file) table.last number;
      journal = read_gives_journal table.last (finite.get after journal_file) is.read
          (ap (journal_in table.last) (others journal_file journal_apart) ∙ journal_read before table is);
      sound = sound_kept table.last table.last is.read.marks before after (omega arith) agree is.sound;
      batch = is.batch;
      entries = λ at.
          entry_kept is.read.marks before after at (entry_at table at) (agreeing_keep is.read.marks before after at agree) (is.entries at);
    })

-- a name that is none of the store's is neither that of a file that is being made nor another of the store's
pub not_either : (own name : List ℕ) → IsSpoolName own → ¬ (IsSpoolName name) → ¬ (IsEither temporary_file own name)
not_either own name is other =
    neither temporary_file own name (λ same. other (inr (inr (inl same)))) (λ same. other (subst IsSpoolName (sym same) is))

-- While the next number is drawn, an image shows the table before the submission or after its first step.
pub drawing_steps : (table : JobTable) (job : Job) (start : Directory) (image : Files) → EachShows start table
    → IsDrawing table.last start image → IsSteppingOn table (submission table job) start image
drawing_steps table job start image shows drawing =
    let from : Files = drawing.alone.from in
    let others : LeavesOthers IsSpoolName start image = record {
      from = from;
      was = drawing.alone.was;
      others = λ name other. drawing.alone.others name (not_either sequence_file name (inl refl) other);
    } in
    elim drawing.gives [
      | inl last ↦ record {
        prefix = [];
        is_prefix = (submission table job, refl);
        shows = same_number_shown from image table (shows from drawing.alone.was) (last_given _ table.last last) drawing.alone.others;
        others = others;
      }
      | inr next ↦ record {
        prefix = Draw ∷ [];
        is_prefix = (_, refl);
        shows = draws_are_shown from image table (shows from drawing.alone.was)
            (record { number = last_given _ (table.last + 1) next; others = drawing.alone.others });
        others = others;
      }
    ]

-- the image is one of the start with the next number drawn
pub record IsAfterDraw (table : JobTable) (start : Directory) (image : Files) : Type 0 where
  pub from : Files
  pub was : IsImage start from
  pub drawn : HasDrawn table from image

-- the name is that of the job's file under the next number, and the script begins with the header of its user
pub record IsFileOfNext (table : JobTable) (job : Job) (name : List ℕ) : Type 0 where
  pub named : job_named name ≡ Some (record { queue = job.queue; number = table.last + 1; minute = job.minute; new_form = true })
  pub mail : Bool
  pub header : header_in job.script ≡ Some (job.user, mail)

module _ (table : JobTable) (job : Job) (name : List ℕ) (file : IsFileOfNext table job name) where
  -- the sequence file has another name, and so has a file that is being made
  pub sequence_differs : ¬ (IsEither temporary_file name sequence_file)
  sequence_differs = neither temporary_file name sequence_file (differ_by sequence_file temporary_file refl)
      (λ same. job_name_differs name sequence_file _ file.named sequence_no_job (sym same))

  named_apart : ¬ (IsEither temporary_file sequence_file name)
  named_apart = job_name_apart temporary_file sequence_file name _ temporary_no_job sequence_no_job file.named

  module _ (first from image : Files) (drawn : HasDrawn table first from) (others : AgreeElsewhere temporary_file name from image) where
    number : last_in (finite.get image sequence_file) ≡ Ok (table.last + 1)
    number = ap last_in (others sequence_file sequence_differs) ∙ drawn.number

    elsewhere : (other : List ℕ) → ¬ (IsEither temporary_file sequence_file other) → ¬ (other ≡ name)
        → finite.get image other ≡ finite.get first other
    elsewhere other apart differs = others other (neither temporary_file name other (λ same. apart (inl same)) differs)
        ∙ drawn.others other apart

    -- with the script there, the job was accepted
    pub accepted : finite.get image name ≡ Some job.script → HasAccepted table job first image
    accepted placed = record {
      number = number;
      name = name;
      named = file.named;
      mail = file.mail;
      header = file.header;
      placed = placed;
      others = elsewhere;
    }

    -- with what was there before, no more than the number was drawn
    not_placed : finite.get image name ≡ finite.get from name → HasDrawn table first image
    not_placed same = record {
      number = number;
      others = λ other apart. elim (one_or_other other name) [
        | inl is ↦ ap (finite.get image) is ∙ same ∙ drawn.others name named_apart ∙ ap (finite.get first) (sym is)
        | inr differs ↦ elsewhere other apart differs
      ];
    }

  -- While the file is placed, an image shows the table after one step of the submission or after both.
  pub placing_steps : (start middle : Directory) (image : Files) → EachShows start table
      → ((from : Files) → IsImage middle from → IsAfterDraw table start from) → IsPlacing temporary_file name job.script middle image
      → IsSteppingOn table (submission table job) start image
  placing_steps start middle image shows after placing =
      let from : Files = placing.alone.from in
      let draw : IsAfterDraw table start from = after from placing.alone.was in
      let others : LeavesOthers IsSpoolName start image = record {
        from = draw.from;
        was = draw.was;
        others = λ other differs.
            placing.alone.others other (not_either name other (inr (inr (inr (subst IsSome (sym file.named) refl)))) differs)
            ∙ draw.drawn.others other (not_either sequence_file other (inl refl) differs);
      } in
      elim placing.placed [
        | inl same ↦ record {
          prefix = Draw ∷ [];
          is_prefix = (_, refl);
          shows = draws_are_shown draw.from image table (shows draw.from draw.was)
              (not_placed draw.from from image draw.drawn placing.alone.others same);
          others = others;
        }
        | inr script ↦ record {
          prefix = submission table job;
          is_prefix = ([], refl);
          shows = accepts_are_shown draw.from image table job (shows draw.from draw.was)
              (accepted draw.from from image draw.drawn placing.alone.others script);
          others = others;
        }
      ]
