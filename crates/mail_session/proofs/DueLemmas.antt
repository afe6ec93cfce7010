-- What is due of jobs, by the table.
use Rattle.std.proofs.Common.{◌≡◌, ◌≢◌, ◌∙◌, ℕ, List, [], ◌∷◌, Option, Some, None, refl, sym, ap, subst}
use Rattle.std.specs.Prelude.{Contains, option_map}
use Rattle.std.specs.List.{All, cons_option, filter_map}
use Rattle.std.proofs.lemmas.List.Elements.{All-contains_itself, All-head, All-tail, All-weaker}
use Rattle.spool_model.specs.declared.decided.Decided.{Decided}
use Rattle.spool_model.specs.declared.entry.Entry.TheVariants.{Done, Live}
use Rattle.spool_model.specs.declared.fate.Fate.{Fate}
use Rattle.spool_model.specs.declared.fate.Fate.TheVariants.{Finished, Interrupted, Removed}
use Rattle.spool_model.specs.declared.job.Job.{Job}
use Rattle.spool_model.specs.JobTable.{JobEntry, JobState, JobTable, entry_at}
use Rattle.step_runs.specs.WithoutScripts.{entry_without_script, job_without_script, without_scripts}
use Rattle.step_runs.proofs.WithoutScriptsLemmas.{entries_are_without_scripts}
use Rattle.spool_store.specs.Listed.{IsLive, ListsDecided}
use Rattle.mail_notes.specs.declared.note.Note.{Note}
use Rattle.mail_notes.specs.declared.note.Note.TheVariants.{Noted}
use Rattle.mail_notes.specs.declared.note.NotedJob.{NotedJob}
use Rattle.mail_notes.specs.Hands.{Mailing}
use Rattle.mail_session.specs.declared.due.NoticeDue.{NoticeDue}
use Rattle.mail_session.specs.declared.due.NoticeDue.TheVariants.{Drop}
use Rattle.mail_session.specs.Dues.{AreDue, IsDue}
use Rattle.mail_session.specs.Steps.{AreDuesOf, due_by, due_of_entry}

-- a job with this fate is done
pub due_done : (table : JobTable) (decided : List Decided) (job : NotedJob) (fate : Fate) → ListsDecided table decided →
    (done : Decided) → Contains decided done → done.number ≡ job.number → done.fate ≡ fate
    → Some (due_by job fate) ≡ due_of_entry job (entry_at table job.number)
due_done table decided job fate lists done has number_is fate_is =
    sym (ap (due_of_entry job) (ap (entry_at table) (sym number_is) ∙ lists.each done has ∙ ap (λ (of : Fate). Some (Done of)) fate_is))

same_number : (one other : ℕ) (first second : JobEntry) → ◌≡◌ {A = ℕ × JobEntry} (one, first) (other, second) → one ≡ other
same_number one other first second is = ap (λ (entry : ℕ × JobEntry). entry.0) is

-- and one that is neither live nor done is not in the table
pub due_forgotten : (table : JobTable) (decided : List Decided) (job : NotedJob) → ListsDecided table decided
    → (IsLive table job.number → ⊥) →
    ((done : Decided) → Contains decided done → done.number ≢ job.number)
    → Some (Drop job.number) ≡ due_of_entry job (entry_at table job.number)
due_forgotten table decided job lists not_live none = by_entry (entry_at table job.number) refl where
  by_entry : (held : Option JobEntry) → entry_at table job.number ≡ held
      → Some (Drop job.number) ≡ due_of_entry job (entry_at table job.number)
  by_entry None is = sym (ap (due_of_entry job) is)
  by_entry (Some (Live live state)) is = absurd (not_live (live, state, is))
  by_entry (Some (Done fate)) is =
      let found = lists.all job.number fate is in
      absurd (none found.0 found.1 (same_number found.0.number job.number (Done found.0.fate) (Done fate) found.2))

nothing : (fate : Fate) → ◌≡◌ {A = Option JobEntry} None (Some (Done fate)) → ⊥
nothing fate none = cc

not_live : (job : Job) (state : JobState) (fate : Fate) → ◌≡◌ {A = Option JobEntry} (Some (Live job state)) (Some (Done fate)) → ⊥
not_live job state fate live = cc

-- what is due of jobs that wait is due
module _ (of : Mailing) (notes : List Note) (table : JobTable) (without : table ≡ without_scripts of.table)
    (among : (job : NotedJob) → Contains notes (Noted job) → Contains of.notes (Noted job)) where
  same_done : (number : ℕ) (fate : Fate) (held : Option JobEntry) → option_map entry_without_script held ≡ Some (Done fate)
      → held ≡ Some (Done fate)
  same_done number fate None is = absurd (nothing fate is)
  same_done number fate (Some (Live job state)) is = absurd (not_live (job_without_script job) state fate is)
  same_done number fate (Some (Done other)) is = is

  done_there : (number : ℕ) (fate : Fate) → entry_at table number ≡ Some (Done fate) → entry_at of.table number ≡ Some (Done fate)
  done_there number fate is =
      same_done number fate (entry_at of.table number) (sym (entries_are_without_scripts of.table number)
      ∙ ap (λ (t : JobTable). entry_at t number) (sym without) ∙ is)

  due_with : (job : NotedJob) → Contains notes (Noted job) → (fate : Fate) → entry_at table job.number ≡ Some (Done fate)
      → IsDue of (due_by job fate)
  due_with job noted (Finished ending) is =
      (among job noted, record { fate = Finished ending; done = done_there job.number (Finished ending) is; told = refl })
  due_with job noted Interrupted is =
      (among job noted, record { fate = Interrupted; done = done_there job.number Interrupted is; told = refl })
  due_with job noted Removed is = tt

  due_more : (job : NotedJob) → Contains notes (Noted job) → (later : List NoticeDue) → AreDue of later → (held : Option JobEntry)
      → entry_at table job.number ≡ held →
      AreDue of (cons_option (due_of_entry job held) later)
  due_more job noted later rest None is = (tt, rest)
  due_more job noted later rest (Some (Live live state)) is = rest
  due_more job noted later rest (Some (Done fate)) is = (due_with job noted fate is, rest)

  due_all : (jobs : List NotedJob) → All (λ job. Contains notes (Noted job)) jobs
      → AreDue of (filter_map (λ job. due_of_entry job (entry_at table job.number)) jobs)
  due_all [] all = tt
  due_all (job ∷ later) all =
      due_more job (All-head (λ one. Contains notes (Noted one)) job later all)
      (filter_map (λ one. due_of_entry one (entry_at table one.number)) later)
      (due_all later (All-tail (λ one. Contains notes (Noted one)) job later all)) (entry_at table job.number) refl

  pub dues_are_due : (due_notices : List NoticeDue) → AreDuesOf table notes due_notices → AreDue of due_notices
  dues_are_due due_notices are = subst (AreDue of) (sym are.dues_are)
      (due_all are.jobs (All-weaker (Contains are.jobs) (λ job. Contains notes (Noted job)) (λ job has. (are.waiting.each job has).noted)
      are.jobs (All-contains_itself are.jobs)))
