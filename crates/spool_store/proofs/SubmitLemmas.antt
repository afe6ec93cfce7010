-- What the two calls of a submission leave: the draw of its number, and the placing of its job's file.
use Rattle.std.proofs.Common.{◌≡◌, ◌+◌, ◌-◌, ℕ, Bool, true, false, List, sym, ap, subst, ◌∙◌, refl, inl, arith}
use Rattle.std.specs.Prelude.{Option, Some, None, IsSome, OnOk, Result, Ok, Err}
use Rattle.std.specs.Result.{IsErr}
use Rattle.std.specs.FinMap as finite
use Rattle.host_calls.specs.declared.fault.HostFault.{HostFault}
use Rattle.host_calls.specs.Directory.{Files, Directory, IsImage, reading_of}
use Rattle.host_calls.proofs.DirectoryLemmas.{reading_is_image}
use Rattle.host_calls.specs.World.{World}
use Rattle.job_name.specs.JobName.{SpellsJobName}
use Rattle.job_script.specs.HeaderIn.{header_in}
use Rattle.sequence_file.specs.Draw.{IsDrawing, IsNumberDrawn}
use Rattle.sequence_file.specs.Sequence.{GivesNumber, sequence_file}
use Rattle.whole_file.specs.Temporary.{temporary_file}
use Rattle.spool_model.specs.declared.job.Job.{Job}
use Rattle.spool_model.specs.JobTable.{JobTable}
use Rattle.whole_file.specs.Others.{ChangesFiles}
use Rattle.whole_file.specs.Placement.{IsPlaced, IsPlacing}
use Rattle.spool_shows.specs.Shown.{user_of}
use Rattle.sequence_file.proofs.LastNumbers.{last_given}
use Rattle.job_name.proofs.NamedJobs.{name_given}
use Rattle.step_runs.specs.Calls.{IsSteppingOn, StoreCall}
use Rattle.step_runs.specs.Current.{EachShows, Kept}
use Rattle.spool_store.specs.Submission.{HasNewFormFile, IsNextOn, job_of_script, with_job_if}
use Rattle.spool_model.specs.Steps.{submission}
use Rattle.whole_file.proofs.ChangesJoined.{changes_end, changes_on, changes_weaker, left_alone}
use Rattle.spool_store.proofs.DrawnDirectories.{IsAfterDraw, IsFileOfNext, drawing_steps, each_gives, placing_steps}
use Rattle.spool_store.proofs.SubmittedDirectories.{IsSubmitted, keeps_others, submitted_current}

-- each image after the draw is one of the start with the next number drawn
drawn_images : (table : JobTable) (old middle : World) → EachShows old.now.directory table
    → ChangesFiles (IsDrawing table.last old.now.directory) old middle → IsNumberDrawn (table.last + 1) old.now.directory
    middle.now.directory → (image : Files) → IsImage middle.now.directory image → IsAfterDraw table old.now.directory image
drawn_images table old middle shows changes drawn image is =
    let drawing : IsDrawing table.last old.now.directory image =
    changes_end (IsDrawing table.last old.now.directory) old middle changes
    (λ files was.
    record { alone = left_alone _ old.now.directory files was; gives = inl (each_gives old.now.directory table shows files was) })
    image is in
    record {
      from = drawing.alone.from;
      was = drawing.alone.was;
      drawn = record {
        number = last_given (finite.get image sequence_file) (table.last + 1)
            (subst (λ content. GivesNumber content (table.last + 1)) (sym (drawn.placed.placed image is)) (true, drawn.spelled));
        others = drawing.alone.others;
      };
    }

-- each image after the placing has what the placing lets a crash leave
placing_images : (name script : List ℕ) (middle new : World) → ChangesFiles (IsPlacing temporary_file name script middle.now.directory)
    middle new → (image : Files) → IsImage new.now.directory image → IsPlacing temporary_file name script middle.now.directory image
placing_images name script middle new changes =
    changes_end (IsPlacing temporary_file name script middle.now.directory) middle new changes
    (λ files was. record { alone = left_alone _ middle.now.directory files was; placed = inl refl })

-- the script begins with the header of its user
header_of : (found : Option (List ℕ × Bool)) → IsSome found → (mail : Bool) × (found ≡ Some (user_of found, mail))
header_of None some = let impossible : false ≡ true = some in cc
header_of (Some header) some = (header.1, refl)

-- a script that was placed under a name in the new form is in the file of that name
pub placed_new_form : (name script : List ℕ) (queue minute number : ℕ) (temp : List ℕ) (middle new : Directory)
    (result : Result (Unit {0}) HostFault) → SpellsJobName name queue number minute true
    → OnOk result (IsPlaced temp name script middle new) → OnOk result (HasNewFormFile new queue minute script number)
placed_new_form name script queue minute number temp middle new (Ok done) spelled placed =
    record { name = name; spelled = spelled; held = placed.placed (reading_of new) (reading_is_image new) }
placed_new_form name script queue minute number temp middle new (Err fault) spelled placed = tt

module _ (kept : Kept) (table : JobTable) (queue number minute : ℕ) (script : List ℕ) (old : World)
    (next : IsNextOn kept old.now.directory table number) where
  last_is : number - 1 ≡ table.last
  last_is = omega (arith, next.number_is)

  next_is : number - 1 + 1 ≡ table.last + 1
  next_is = omega (arith, next.number_is)

  drawing_at : (new : World) → ChangesFiles (IsDrawing (number - 1) old.now.directory) old new
      → ChangesFiles (IsDrawing table.last old.now.directory) old new
  drawing_at new changes = subst (λ last. ChangesFiles (IsDrawing last old.now.directory) old new) last_is changes

  -- a draw that failed
  pub draw_failed : (new : World) (result : Result (Unit {0}) HostFault) → IsErr result
      → ChangesFiles (IsDrawing (number - 1) old.now.directory) old new → StoreCall table
      (submission table (job_of_script queue minute script)) old new (with_job_if kept (job_of_script queue minute script) result)
  draw_failed new (Ok done) failed changes = let impossible : false ≡ true = failed in cc
  draw_failed new (Err fault) failed changes = record {
    files = changes_weaker _ _ old new (λ image is.
        drawing_steps table (job_of_script queue minute script) old.now.directory image next.current.shows is) (drawing_at new changes);
    current = tt;
    others = tt;
  }

  -- the file that is placed after a draw is that of the job
  file_of_next : (name : List ℕ) → SpellsJobName name queue number minute true → IsSome (header_in script)
      → IsFileOfNext table (job_of_script queue minute script) name
  file_of_next name spelled header =
      let mail : (mail : Bool) × (header_in script ≡ Some (user_of (header_in script), mail)) = header_of (header_in script) header in
      record {
        named = name_given name queue number minute true spelled
            ∙ ap (λ at. Some (record { queue = queue; number = at; minute = minute; new_form = true })) next.number_is;
        mail = mail.0;
        header = mail.1;
      }

  -- a placing after a draw
  pub placing_done : (name : List ℕ) (middle new : World) (result : Result (Unit {0}) HostFault) → SpellsJobName name queue number minute
      true → IsSome (header_in script) → ChangesFiles (IsDrawing (number - 1) old.now.directory) old middle → IsNumberDrawn (number - 1 + 1)
      old.now.directory middle.now.directory → ChangesFiles (IsPlacing temporary_file name script middle.now.directory) middle new
      → OnOk result (IsPlaced temporary_file name script middle.now.directory new.now.directory) → StoreCall table
      (submission table (job_of_script queue minute script)) old new (with_job_if kept (job_of_script queue minute script) result)
  placing_done name middle new result spelled header draws drawn_at places placed = by_result result placed where
    job : Job
    job = job_of_script queue minute script

    file : IsFileOfNext table job name
    file = file_of_next name spelled header

    drawn : IsNumberDrawn (table.last + 1) old.now.directory middle.now.directory
    drawn = subst (λ last. IsNumberDrawn last old.now.directory middle.now.directory) next_is drawn_at

    after : (image : Files) → IsImage middle.now.directory image → IsAfterDraw table old.now.directory image
    after = drawn_images table old middle next.current.shows (drawing_at middle draws) drawn

    changes : ChangesFiles (IsSteppingOn table (submission table job) old.now.directory) old new
    changes = changes_on _ _ _ old middle new
        (λ image is. drawing_steps table job old.now.directory image next.current.shows is)
        (λ image is. placing_steps table job name file old.now.directory middle.now.directory image next.current.shows after is)
        (drawing_at middle draws) places

    by_result : (answer : Result (Unit {0}) HostFault)
        → OnOk answer (IsPlaced temporary_file name script middle.now.directory new.now.directory)
        → StoreCall table (submission table job) old new (with_job_if kept job answer)
    by_result (Err fault) none = record { files = changes; current = tt; others = tt }
    by_result (Ok done) is =
        let whole : IsSubmitted table job name old.now.directory middle.now.directory new.now.directory =
        record { drawn = drawn; placed = is; after = after; placing = placing_images name script middle new places } in
        record {
          files = changes;
          current = submitted_current kept table job name file old.now.directory middle.now.directory new.now.directory
              (subst (IsNextOn kept old.now.directory table) next.number_is next) whole;
          others = keeps_others kept table job name file old.now.directory middle.now.directory new.now.directory
              (subst (IsNextOn kept old.now.directory table) next.number_is next) whole;
        }
