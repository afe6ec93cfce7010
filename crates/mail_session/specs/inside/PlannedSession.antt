-- What a session of mail will do is known before its first change (own).
use Rattle.std.specs.Prelude.{◌≡◌, ◌++◌, Bool, true, List, Result, Ok, Err, map}
use Rattle.std.specs.FinMap as finite
use Rattle.std.specs.List.{All}
use Rattle.host_calls.specs.World.{World, reading}
use Rattle.host_calls.specs.declared.store_fault.StoreFault.{StoreFault}
use Rattle.host_calls.specs.declared.store_fault.StoreFault.TheVariants.{Damaged, FileFault, Memory, NumbersUsedUp, QueueFull}
use Rattle.spool_store.specs.Recovery.{IsRecovered, ShowsTheSame}
use Rattle.step_runs.specs.Calls.{ShowsAsBefore}
use Rattle.step_runs.specs.Current.{IsCurrent, Kept}
use Rattle.spool_model.specs.JobTable.{JobTable}
use Rattle.whole_file.specs.Others.{ChangesFiles}
use Rattle.daemon_turn.specs.declared.kid.Kid.{Kid}
use Rattle.mail_notes.specs.declared.note.Note.{Note}
use Rattle.mail_notes.specs.Lines.{notes_text}
use Rattle.mail_notes.specs.Names.{mail_file}
use Rattle.mail_session.specs.declared.plan.MailPlan.{MailPlan}
use Rattle.mail_session.specs.SessionOutcome.{GivesNotes, IsSpoolOrNotesDamage}
use Rattle.mail_session.specs.News.{IsNotedFrom, new_numbers, noting_of}
use Rattle.mail_session.specs.ReadNotes.{IsDamageOf}
use Rattle.mail_session.specs.Stale.{stale_names}
use Rattle.mail_session.specs.Steps.{AreDuesOf}

-- On this table and after these notes the plan is to note the jobs that are new, and to make what is due.
pub record IsPlanFor (table : JobTable) (notes : List Note) (plan : MailPlan) : Type 0 where
  pub numbers : map (λ job. job.number) plan.new_jobs.items ≡ new_numbers table notes
  pub due_notices : AreDuesOf table notes plan.due_notices.items
  pub text : plan.text.items ≡ notes_text (notes ++ noting_of plan.new_jobs.items)

-- The files of this world have the notes, the new jobs are noted from them, and the files that are left over are known.
pub record IsPlanIn (world : World) (table : JobTable) (notes : List Note) (kids : List Kid) (plan : MailPlan) : Type 0 where
  pub gives : GivesNotes (finite.get (reading world) mail_file) notes
  pub noted : All (IsNotedFrom (reading world) table) plan.new_jobs.items
  pub stale : plan.stale.items ≡ stale_names kids (reading world)

-- What is planned on what a store keeps, by the answer; damage is that of the file of notes.
pub record IsPlanOn (tells : Bool) (world : World) (kept : Kept) (kids : List Kid) (plan : MailPlan) : Type 0 where
  pub notes : List Note
  pub plan_for : IsPlanFor kept.table notes plan
  pub plan_in : tells ≡ true → (table : JobTable) → IsCurrent kept world.now.directory table → IsPlanIn world table notes kids plan

abbrev pub NotPlannedOn : World → StoreFault → Type 0
NotPlannedOn world (Damaged damage) = IsDamageOf (finite.get (reading world) mail_file) damage
NotPlannedOn world FileFault = Unit {0}
NotPlannedOn world Memory = Unit {0}
NotPlannedOn world QueueFull = Unit {0}
NotPlannedOn world NumbersUsedUp = Unit {0}

abbrev pub PlansOn : Bool → World → Kept → List Kid → Result MailPlan StoreFault → Type 0
PlansOn tells world kept kids (Ok plan) = IsPlanOn tells world kept kids plan
PlansOn tells world kept kids (Err fault) = tells ≡ true → NotPlannedOn world fault

-- the store was recovered, and this is planned on what it keeps
pub record IsPlanned (tells : Bool) (old new : World) (kids : List Kid) (plan : MailPlan) : Type 0 where
  pub kept : Kept
  pub plan_on : IsPlanOn tells new kept kids plan
  pub changes : tells ≡ true → ChangesFiles (ShowsAsBefore old.now.directory) old new
  pub recovered : tells ≡ true → IsRecovered old.now.directory new.now.directory kept

-- damage is answered where the directory shows it, or else its file of notes
abbrev pub IfDamageOf : World → StoreFault → Type 0
IfDamageOf world (Damaged damage) = IsSpoolOrNotesDamage (reading world) damage
IfDamageOf world FileFault = Unit {0}
IfDamageOf world Memory = Unit {0}
IfDamageOf world QueueFull = Unit {0}
IfDamageOf world NumbersUsedUp = Unit {0}

-- nothing is planned: the directory shows what it showed
pub record IsUnplanned (old new : World) (fault : StoreFault) : Type 0 where
  pub changes : ChangesFiles (ShowsAsBefore old.now.directory) old new
  pub shown : ShowsTheSame old.now.directory new.now.directory
  pub damaged : IfDamageOf old fault

abbrev pub Plans : Bool → World → World → List Kid → Result MailPlan StoreFault → Type 0
Plans tells old new kids (Ok plan) = IsPlanned tells old new kids plan
Plans tells old new kids (Err fault) = tells ≡ true → IsUnplanned old new fault
