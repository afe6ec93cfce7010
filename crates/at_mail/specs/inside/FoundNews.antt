-- Which jobs are new, on what a store keeps (own).
use Rattle.std.specs.Prelude.{◌≡◌, ◌⊎◌, ◌++◌, [], Bool, true, List, ℕ, map}
use Rattle.std.specs.FinMap as finite
use Rattle.std.specs.List.{All}
use Rattle.host_calls.specs.World.{World, reading}
use Rattle.spool_model.specs.JobTable.{JobTable}
use Rattle.step_runs.specs.Current.{IsCurrent, Kept}
use Rattle.whole_file.specs.Placement.{IsPlaced}
use Rattle.mail_notes.specs.declared.note.Note.{Note}
use Rattle.mail_notes.specs.declared.note.NotedJob.{NotedJob}
use Rattle.mail_notes.specs.Lines.{notes_text}
use Rattle.mail_notes.specs.Names.{mail_file, mail_temp}
use Rattle.mail_session.specs.News.{IsNotedFrom, new_numbers, noting_of}
use Rattle.mail_session.specs.SessionOutcome.{GivesNotes}

-- the notes that were read, the jobs that they have none of, and the text of both
pub record AreNewsOn (tells : Bool) (world : World) (kept : Kept) (new_jobs : List NotedJob) (text : List ℕ) : Type 0 where
  pub notes : List Note
  pub numbers : map (λ job. job.number) new_jobs ≡ new_numbers kept.table notes
  pub text_is : text ≡ notes_text (notes ++ noting_of new_jobs)
  pub gives : tells ≡ true → GivesNotes (finite.get (reading world) mail_file) notes
  pub noted : tells ≡ true → (table : JobTable) → IsCurrent kept world.now.directory table
      → All (IsNotedFrom (reading world) table) new_jobs

-- the text was placed, or there are no new jobs and nothing was done
abbrev pub IsNewsWritten : List NotedJob → List ℕ → World → World → Type 0
IsNewsWritten new_jobs text old new =
    IsPlaced mail_temp mail_file text old.now.directory new.now.directory ⊎ ((new ≡ old) × (new_jobs ≡ []))
