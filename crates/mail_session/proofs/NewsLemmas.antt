-- The live jobs that no note is of.
use Rattle.std.proofs.Common.{◌≡◌, ◌∙◌, ◌+◌, ◌<◌, ◌++◌, ℕ, Bool, true, false, List, Option, Some, None, [], ◌∷◌, get_or, length, map, take, refl, sym, ap, subst}
use Rattle.std.specs.Prelude.{is_some, not, option_map}
use Rattle.std.specs.Borrow.{Bor}
use Rattle.std.specs.Option.{option_copied}
use Rattle.std.specs.List.{All, items_where_true}
use Rattle.std.proofs.lemmas.List.{map-append, take_more}
use Rattle.std.proofs.lemmas.List.Elements.{All-cons, All-head, All-nil, All-push, All-tail}
use Rattle.host_calls.specs.Directory.{Directory, reading_of}
use Rattle.job_name.specs.JobName.{SpellsJobName}
use Rattle.spool_model.specs.declared.entry.Entry.TheVariants.{Live}
use Rattle.spool_model.specs.declared.job.Job.{Job}
use Rattle.spool_model.specs.declared.row.Row.{Row}
use Rattle.spool_model.specs.JobTable.{JobEntry, JobState, JobTable, entry_at}
use Rattle.step_runs.specs.Current.{IsCurrent, Kept}
use Rattle.step_runs.specs.WithoutScripts.{entry_without_script, job_without_script}
use Rattle.step_runs.proofs.WithoutScriptsLemmas.{entries_are_without_scripts}
use Rattle.spool_store.specs.Scripts.{HoldsScript, IsLiveFileName, IsHeaderOn}
use Rattle.record_lines.proofs.SayingLemmas.{saying_names}
use Rattle.mail_notes.specs.declared.note.NotedJob.{NotedJob}
use Rattle.mail_notes.specs.Book.{IsNoticeStateAt}
use Rattle.mail_notes.specs.Notes.{has_note_of, is_noting, is_note_of}
use Rattle.mail_notes.specs.declared.notice_states.NoticeState.{NoticeState}
use Rattle.mail_notes.specs.declared.notice_states.NoticeState.TheVariants.{Closed, Waits}
use Rattle.mail_notes.specs.declared.note.Note.{Note}
use Rattle.spool_shows.proofs.Membership.{contained, made_has}
use Rattle.spool_store.specs.Listed.{IsLive, ListsLive}
use Rattle.spool_store.specs.Rows.{row_entry}
use Rattle.step_runs.proofs.ApartLemmas.{each_all}
use Rattle.mail_session.specs.News.{IsNotedFrom}

-- two live jobs of one entry are one
same_job : (one other : Job) (first second : JobState)
    → ◌≡◌ {A = Option JobEntry} (Some (Live one first)) (Some (Live other second)) → one ≡ other
same_job one other first second is = cc

queue_of : (job other : Job) → other ≡ job_without_script job → other.queue ≡ job.queue
queue_of job other is = ap (λ (j : Job). j.queue) is

minute_of : (job other : Job) → other ≡ job_without_script job → other.minute ≡ job.minute
minute_of job other is = ap (λ (j : Job). j.minute) is

-- what the store says of the file and of the header is what is noted
pub noted_from : (kept : Kept) (directory : Directory) (table : JobTable) (number : ℕ) (file user : List ℕ) (always : Bool)
    → IsCurrent kept directory table →
    IsLiveFileName kept.table kept.old_form number file → HoldsScript table directory number file
    → IsHeaderOn table number (record { user = user; mail = always }) →
    IsNotedFrom (reading_of directory) table (record { number = number; file = file; always = always; user = user })
noted_from kept directory table number file user always current of holds header =
    let script = holds.script in
    let bare : Some (Live of.job of.state) ≡ Some (Live (job_without_script script.job) script.state) =
    sym of.lives ∙ ap (λ (t : JobTable). entry_at t number) current.without_scripts_is ∙ entries_are_without_scripts table number
    ∙ ap (option_map entry_without_script) script.lives in
    let one : of.job ≡ job_without_script script.job = same_job of.job (job_without_script script.job) of.state script.state bare in
    let other : header.job ≡ script.job = same_job header.job script.job header.state script.state (sym header.lives ∙ script.lives) in
    record {
      job = script.job;
      state = script.state;
      lives = script.lives;
      new_form = _;
      spelled = subst (λ (queue : ℕ). SpellsJobName file queue number script.job.minute _) (queue_of script.job of.job one)
          (subst (λ (minute : ℕ). SpellsJobName file of.job.queue number minute _) (minute_of script.job of.job one) of.spelled);
      held = holds.held ∙ ap (λ (bytes : List ℕ). Some bytes) script.script;
      header = ap (λ (j : Job). Rattle.job_script.specs.HeaderIn.header_in j.script) (sym other) ∙ header.header;
    }

-- by the state of a number, some note is of it or none
pub named_by : (notes : List Note) (number : ℕ) (held : Option NoticeState) → IsNoticeStateAt notes number held
    → is_some held ≡ has_note_of number notes
named_by notes number None none = sym none
named_by notes number (Some (Waits job)) waiting = sym (saying_names (is_note_of number) is_noting notes waiting.is_noted)
named_by notes number (Some Closed) closed = sym (saying_names (is_note_of number) is_noting notes closed.is_noted)

pub flipped : (test some named : Bool) → not test ≡ some → some ≡ named → test ≡ not named
flipped true some named is same = ap not (is ∙ same)
flipped false some named is same = ap not (is ∙ same)

-- the numbers of rows are those of live jobs
pub all_live : (table : JobTable) (rows : List Row) → ListsLive table rows → All (IsLive table) (map (λ (row : Row). row.number) rows)
all_live table rows lists = each_all (IsLive table) (map (λ (row : Row). row.number) rows) (λ number has.
    let from = made_has (λ (row : Row). row.number) rows number has in
    subst (IsLive table) from.2 (live_row from.0 (lists.each from.0 (contained rows from.0 from.1)))) where
      live_row : (row : Row) → entry_at table row.number ≡ Some (row_entry row).1 → IsLive table row.number
      live_row row is = (_, _, is)

-- a copy is one where it is of one
pub copied_some : {X : Type 0} → (held : Option (Bor X)) → is_some held ≡ is_some (option_copied held)
copied_some None = refl
copied_some (Some one) = refl

-- what holds of all holds of those that are kept
pub kept_all : {X : Type 0} (P : X → Type 0) (tests : List Bool) (xs : List X) → All P xs → All P (items_where_true tests xs)
kept_all P [] xs all = All-nil P
kept_all P (test ∷ tests) [] all = All-nil P
kept_all P (true ∷ tests) (x ∷ xs) all =
    All-cons P x (items_where_true tests xs) (All-head P x xs all) (kept_all P tests xs (All-tail P x xs all))
kept_all P (false ∷ tests) (x ∷ xs) all = kept_all P tests xs (All-tail P x xs all)

-- one more number
pub number_more : (numbers : List ℕ) (place : ℕ) (number : ℕ) (new_jobs after : List NotedJob) (job : NotedJob) → place < length numbers
    → number ≡ get_or numbers place number →
    map (λ (one : NotedJob). one.number) new_jobs ≡ take place numbers → after ≡ new_jobs ++ job ∷ [] → job.number ≡ number →
    map (λ (one : NotedJob). one.number) after ≡ take (place + 1) numbers
number_more numbers place number new_jobs after job inside at so_far added number_is =
    ap (map (λ (one : NotedJob). one.number)) added ∙ map-append (λ (one : NotedJob). one.number) new_jobs (job ∷ [])
    ∙ ap (λ (l : List ℕ). l ++ job.number ∷ []) so_far ∙ ap (λ (n : ℕ). take place numbers ++ n ∷ []) (number_is ∙ at)
    ∙ sym (take_more numbers place number inside)

-- one more job of which it holds
pub one_more : (P : NotedJob → Type 0) (new_jobs after : List NotedJob) (job : NotedJob) → All P new_jobs → P job
    → after ≡ new_jobs ++ job ∷ [] → All P after
one_more P new_jobs after job all one added = subst (All P) (sym added) (All-push P new_jobs job all one)
