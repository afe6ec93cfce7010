-- What a session will do, by what it reads.
use Rattle.std.proofs.Common.{◌≡◌, ◌∙◌, ◌++◌, ℕ, Bool, true, List, Option, Some, None, [], ◌∷◌, map, filter, refl, sym, ap, subst, inl, inr}
use Rattle.std.specs.Prelude.{Result, Ok, Err, option_map}
use Rattle.std.specs.FinMap as finite
use Rattle.std.specs.List.{filter_map, cons_option}
use Rattle.host_calls.specs.declared.damage.Damage.{Damage}
use Rattle.host_calls.specs.Damages.{IfDamaged}
use Rattle.host_calls.specs.World.{World, reading}
use Rattle.record_lines.specs.Lines.{AreRecordLines, AreSpelled}
use Rattle.spool_model.specs.declared.entry.Entry.TheVariants.{Done, Live}
use Rattle.spool_model.specs.declared.row.Row.{Row}
use Rattle.spool_model.specs.JobTable.{JobEntry, JobTable, entry_at}
use Rattle.spool_shows.specs.Shown.{shown_by}
use Rattle.host_calls.specs.declared.store_fault.StoreFault.{StoreFault}
use Rattle.host_calls.specs.declared.store_fault.StoreFault.TheVariants.{Damaged, FileFault, Memory, NumbersUsedUp, QueueFull}
use Rattle.host_calls.specs.StoreFaults.{IsReadingFault}
use Rattle.spool_store.specs.Recovery.{IsRecovered, Recovered, ShowsTheSame}
use Rattle.step_runs.specs.Calls.{ShowsAsBefore}
use Rattle.step_runs.specs.Current.{IsCurrent, Kept}
use Rattle.step_runs.specs.WithoutScripts.{entry_without_script, without_scripts}
use Rattle.step_runs.proofs.ListLemmas.{lists_as_on_the_table}
use Rattle.step_runs.proofs.WithoutScriptsLemmas.{entries_are_without_scripts}
use Rattle.whole_file.specs.Others.{ChangesFiles}
use Rattle.host_calls.proofs.DirectoryLemmas.{reading_is_image}
use Rattle.daemon_turn.specs.declared.kid.Kid.{Kid}
use Rattle.mail_notes.specs.Book.{AreStatesOfNotes}
use Rattle.mail_notes.specs.declared.notice_states.NoticeStates.{NoticeStates}
use Rattle.mail_notes.specs.declared.note.Note.{Note}
use Rattle.mail_notes.specs.declared.note.NotedJob.{NotedJob}
use Rattle.mail_notes.specs.Lines.{HoldsNotes, SpellsNote, notes_text}
use Rattle.mail_notes.specs.Names.{mail_file}
use Rattle.mail_notes.specs.Notes.{IsNoteAllowed}
use Rattle.mail_notes.proofs.NameLemmas.{mail_is_none_of_the_stores}
use Rattle.mail_notes.proofs.TextLemmas.{note_files_are_texts}
use Rattle.mail_session.specs.declared.due.NoticeDue.{NoticeDue}
use Rattle.mail_session.specs.declared.plan.MailPlan.{MailPlan}
use Rattle.mail_session.specs.SessionOutcome.{GivesNotes}
use Rattle.mail_session.specs.News.{is_new, new_numbers, noting_of}
use Rattle.mail_session.specs.ReadNotes.{IsReadBook, IsDamageOf, IsTextOf}
use Rattle.mail_session.specs.Steps.{AreDuesOf, due_of_entry}
use Rattle.mail_session.specs.inside.PlannedSession.{IfDamageOf, IsPlanFor, IsPlanIn, IsUnplanned, NotPlannedOn, Plans, PlansOn}
use Rattle.mail_session.proofs.PostLemmas.{lines_join}

-- no bytes are the lines of no notes
no_lines : (notes : List Note) → AreSpelled SpellsNote [] notes → notes ≡ []
no_lines [] spelled = refl
no_lines (note ∷ later) spelled = absurd (never spelled.1.0.line spelled.0 spelled.1.0.parted) where
  never : (line rest : List ℕ) → ◌≡◌ {A = List ℕ} [] (line ++ 10 ∷ rest) → ⊥
  never [] rest is = cc
  never (byte ∷ line) rest is = cc

-- the file has the notes that were read
pub gives_notes : (held : Option (List ℕ)) (text : List ℕ) (notes : List Note) → AreRecordLines SpellsNote IsNoteAllowed text notes
    → IsTextOf held text → GivesNotes held notes
gives_notes None text notes lines is = no_lines notes (subst (λ (bytes : List ℕ). AreSpelled SpellsNote bytes notes) is lines.spelled)
gives_notes (Some bytes) text notes lines is = subst (λ (of : List ℕ). AreRecordLines SpellsNote IsNoteAllowed of notes) is lines

-- so it holds them
pub holds_notes : (held : Option (List ℕ)) (notes : List Note) → GivesNotes held notes → HoldsNotes held notes
holds_notes None notes is = is
holds_notes (Some bytes) notes lines = note_files_are_texts bytes notes lines.spelled

-- What is planned.

pub plan_for : (table : JobTable) (plan : MailPlan) (text : List ℕ) (notice_states : NoticeStates) (read : IsReadBook text notice_states) →
    ((notes : List Note) → AreStatesOfNotes notes notice_states
    → map (λ (job : NotedJob). job.number) plan.new_jobs.items ≡ new_numbers table notes) →
    ((notes : List Note) → AreStatesOfNotes notes notice_states → AreDuesOf table notes plan.due_notices.items)
    → plan.text.items ≡ text ++ notes_text (noting_of plan.new_jobs.items) →
    IsPlanFor table read.notes plan
plan_for table plan text notice_states read numbers due_notices text_is = record {
  numbers = numbers read.notes read.told;
  due_notices = due_notices read.notes read.told;
  text = text_is
      ∙ ap (λ (t : List ℕ). t ++ notes_text (noting_of plan.new_jobs.items)) (note_files_are_texts text read.notes read.lines.spelled)
      ∙ sym (lines_join read.notes (noting_of plan.new_jobs.items));
}

-- Damage of the file of notes.

-- The plan by the recovery.

shown_by_fault : (of : StoreFault) (old new : World) → ((damage : Damage) → of ≡ Damaged damage → reading new ≡ reading old)
    → IsReadingFault of → Recovered old.now.directory new.now.directory (Err of) → ShowsTheSame old.now.directory new.now.directory
shown_by_fault FileFault old new untouched reads recovered = recovered
shown_by_fault Memory old new untouched reads recovered = recovered
shown_by_fault (Damaged damage) old new untouched reads recovered = ap shown_by (untouched damage refl)
shown_by_fault _ old new untouched reads recovered = absurd reads

damage_by_fault : (of : StoreFault) (old new : World) → Recovered old.now.directory new.now.directory (Err of) → IfDamageOf old of
damage_by_fault FileFault old new recovered = tt
damage_by_fault Memory old new recovered = tt
damage_by_fault (Damaged damage) old new recovered = inl recovered
damage_by_fault QueueFull old new recovered = tt
damage_by_fault NumbersUsedUp old new recovered = tt

-- the store could not be recovered
pub unrecovered : (of : StoreFault) (old new : World) → IsReadingFault of → ChangesFiles (ShowsAsBefore old.now.directory) old new
    → Recovered old.now.directory new.now.directory (Err of) →
    IfDamaged {T = Kept} Damaged (λ damage. reading new ≡ reading old) (Err of) → IsUnplanned old new of
unrecovered of old new reads changes recovered untouched = record {
  changes = changes;
  shown = shown_by_fault of old new (λ damage is. untouched damage (ap (λ (one : StoreFault). Err one) is)) reads recovered;
  damaged = damage_by_fault of old new recovered;
}

shown_still : (kept : Kept) (old opened : World) → IsRecovered old.now.directory opened.now.directory kept
    → ShowsTheSame old.now.directory opened.now.directory
shown_still kept old opened is = is.current.shows (reading opened) (reading_is_image opened.now.directory) ∙ sym is.shown

-- the file of notes reads as before the recovery
pub notes_as_before : (kept : Kept) (old opened : World) → IsRecovered old.now.directory opened.now.directory kept
    → finite.get (reading opened) mail_file ≡ finite.get (reading old) mail_file
notes_as_before kept old opened is = is.others mail_file (mail_is_none_of_the_stores mail_file (inl refl))

damage_of_notes : (of : StoreFault) (kept : Kept) (old opened : World) → IsRecovered old.now.directory opened.now.directory kept
    → NotPlannedOn opened of → IfDamageOf old of
damage_of_notes FileFault kept old opened is damaged = tt
damage_of_notes Memory kept old opened is damaged = tt
damage_of_notes (Damaged damage) kept old opened is damaged =
    inr (is.table, is.shown, subst (λ held. IsDamageOf held damage) (notes_as_before kept old opened is) damaged)
damage_of_notes QueueFull kept old opened is damaged = tt
damage_of_notes NumbersUsedUp kept old opened is damaged = tt

-- and nothing can be planned on it
pub unplanned : (of : StoreFault) (kept : Kept) (old opened : World) → ChangesFiles (ShowsAsBefore old.now.directory) old opened
    → IsRecovered old.now.directory opened.now.directory kept →
    NotPlannedOn opened of → IsUnplanned old opened of
unplanned of kept old opened changes is damaged =
    record { changes = changes; shown = shown_still kept old opened is; damaged = damage_of_notes of kept old opened is damaged }

-- by what came of the recovery
pub plans_by : (tells : Bool) (old opened new : World) (kept : Kept) (kids : List Kid) (result : Result MailPlan StoreFault) →
    (tells ≡ true → ChangesFiles (ShowsAsBefore old.now.directory) old opened)
    → (tells ≡ true → IsRecovered old.now.directory opened.now.directory kept) →
    (tells ≡ true → new ≡ opened) → PlansOn tells opened kept kids result → Plans tells old new kids result
plans_by tells old opened new kept kids (Ok plan) changes recovered looks on = record {
  kept = kept;
  plan_on = record {
    notes = on.notes;
    plan_for = on.plan_for;
    plan_in = λ known. subst (λ (world : World). (table : JobTable) → IsCurrent kept world.now.directory table
        → IsPlanIn world table on.notes kids plan) (sym (looks known)) (on.plan_in known);
  };
  changes = λ known. subst (ChangesFiles (ShowsAsBefore old.now.directory) old) (sym (looks known)) (changes known);
  recovered =
      λ known. subst (λ (world : World). IsRecovered old.now.directory world.now.directory kept) (sym (looks known)) (recovered known);
}
plans_by tells old opened new kept kids (Err fault) changes recovered looks on =
    λ known. subst (λ (world : World). IsUnplanned old world fault) (sym (looks known))
    (unplanned fault kept old opened (changes known) (recovered known) (on known))

-- What is due and new by the table with its scripts.

due_alike : (job : NotedJob) (held : Option JobEntry) → due_of_entry job (option_map entry_without_script held) ≡ due_of_entry job held
due_alike job None = refl
due_alike job (Some (Live live state)) = refl
due_alike job (Some (Done fate)) = refl

dues_alike : (table : JobTable) (jobs : List NotedJob) →
    filter_map (λ (job : NotedJob). due_of_entry job (entry_at (without_scripts table) job.number)) jobs
    ≡ filter_map (λ (job : NotedJob). due_of_entry job (entry_at table job.number)) jobs
dues_alike table [] = refl
dues_alike table (job ∷ later) =
    ap (λ (one : Option NoticeDue).
    cons_option one (filter_map (λ (other : NotedJob). due_of_entry other (entry_at (without_scripts table) other.number)) later))
    (ap (due_of_entry job) (entries_are_without_scripts table job.number) ∙ due_alike job (entry_at table job.number))
    ∙ ap (λ (l : List NoticeDue). cons_option (due_of_entry job (entry_at table job.number)) l) (dues_alike table later)

pub dues_on_the_table : (kept table : JobTable) (notes : List Note) (due_notices : List NoticeDue) → kept ≡ without_scripts table
    → AreDuesOf kept notes due_notices → AreDuesOf table notes due_notices
dues_on_the_table kept table notes due_notices is are = record {
  jobs = are.jobs;
  waiting = are.waiting;
  dues_are = are.dues_are
      ∙ ap (λ (t : JobTable). filter_map (λ (job : NotedJob). due_of_entry job (entry_at t job.number)) are.jobs) is
      ∙ dues_alike table are.jobs;
}

pub new_on_the_table : (kept table : JobTable) (notes : List Note) → kept ≡ without_scripts table
    → new_numbers kept notes ≡ new_numbers table notes
new_on_the_table kept table notes is =
    ap (λ (t : JobTable). new_numbers t notes) is
    ∙ ap (λ (rows : List Row). filter (is_new notes) (map (λ (row : Row). row.number) rows)) (lists_as_on_the_table table).rows

-- Nothing was planned.
