-- What noting the new jobs leaves, by its end (own): a session that is over once they are noted, and sends nothing.
use Rattle.std.specs.Prelude.{◌≡◌, ◌++◌, Bool, List, map}
use Rattle.std.specs.List.{All}
use Rattle.host_calls.specs.Directory.{Files}
use Rattle.host_calls.specs.Session.{Session}
use Rattle.host_calls.specs.World.{World, reading}
use Rattle.host_calls.specs.declared.turn_end.TurnEnd.{TurnEnd}
use Rattle.spool_model.specs.JobTable.{JobTable}
use Rattle.mail_notes.specs.declared.note.Note.{Note}
use Rattle.mail_notes.specs.declared.note.NotedJob.{NotedJob}
use Rattle.mail_session.specs.News.{IsNotedFrom, new_numbers, noting_of}
use Rattle.at_mail.specs.Rewriting.{IsRewriting, IsRewritten, RewriteLeaves, RewritesTo}

-- the live jobs of the table that no note is of, by number, as their files have them
pub record AreNewJobs (files : Files) (table : JobTable) (notes : List Note) (new_jobs : List NotedJob) : Type 0 where
  pub numbers : map (λ job. job.number) new_jobs ≡ new_numbers table notes
  pub each : All (IsNotedFrom files table) new_jobs

-- each image holds the notes, or those of the new jobs after them
pub record IsNoting (old new : World) : Type 0 where
  pub table : JobTable
  pub notes : List Note
  pub new_jobs : List NotedJob
  pub writing : IsRewriting table notes (notes ++ noting_of new_jobs) old new
  pub are_new : AreNewJobs (reading writing.opened) table notes new_jobs

-- the notes of the new jobs are in each image, after those that were there
pub record IsNoted (old new : World) : Type 0 where
  pub table : JobTable
  pub notes : List Note
  pub new_jobs : List NotedJob
  pub written : IsRewritten table notes (notes ++ noting_of new_jobs) old new
  pub are_new : AreNewJobs (reading written.writing.opened) table notes new_jobs

-- what it leaves, by its end
abbrev pub NotingLeaves : World → World → TurnEnd → Type 0
NotingLeaves old new end = RewriteLeaves IsNoted IsNoting old new end

-- the new jobs are noted
abbrev pub NotesNewJobs : Bool → Bool → Session → Session → World → World → TurnEnd → Type 0
NotesNewJobs tells alone before after old new end = RewritesTo IsNoted IsNoting tells alone before after old new end
