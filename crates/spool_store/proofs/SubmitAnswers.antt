-- The answers of a submission, by what the store keeps.
use Rattle.std.proofs.Common.{◌≡◌, ◌<◌, ◌≤◌, ◌+◌, ℕ, Bool, false, true, List, [], length, subst, sym, ap, ◌∙◌, refl, arith}
use Rattle.std.specs.Prelude.{Option, Some, None, IsSome, MatchOption, Result, Ok, Err}
use Rattle.std.specs.Result.{IsErr}
use Rattle.host_calls.specs.declared.fault.HostFault.{HostFault}
use Rattle.host_calls.specs.Directory.{Directory}
use Rattle.host_calls.specs.World.{World}
use Rattle.job_script.specs.declared.headers.JobHeader.{JobHeader}
use Rattle.job_script.specs.Header.{HasHeader, IsHeaderOf}
use Rattle.job_script.specs.HeaderIn.{header_in}
use Rattle.job_script.proofs.HeaderInLemmas.{header_in-none}
use Rattle.spool_model.specs.declared.job.Job.{Job}
use Rattle.spool_model.specs.declared.number.TheConstants.{LAST_NUMBER}
use Rattle.spool_model.specs.declared.row.Row.{Row}
use Rattle.spool_model.specs.declared.step.Step.{Step}
use Rattle.spool_model.specs.declared.step.Step.TheVariants.{Draw, Accept}
use Rattle.spool_model.specs.JobTable.{JobTable}
use Rattle.spool_model.specs.Steps.{after_step, after_steps, submission}
use Rattle.start_journal.specs.Journals.{JournalRead}
use Rattle.spool_shows.specs.Shown.{user_of}
use Rattle.step_runs.specs.WithoutScripts.{job_without_script}
use Rattle.step_runs.specs.Calls.{StoreCall}
use Rattle.step_runs.specs.Current.{IsCurrent, Kept}
use Rattle.host_calls.specs.declared.store_fault.StoreFault.{StoreFault}
use Rattle.spool_store.specs.Listed.{ListsLive}
use Rattle.spool_store.specs.Stored.{IsStored}
use Rattle.spool_store.specs.Submission.{IsFull, IsNextNumber, IsNextOn, IsUsedUp, job_of_script, kept_after_submission, with_job}
use Rattle.spool_model.specs.Lists.{live_count}
use Rattle.spool_store.proofs.CountLemmas.{rows_counted}
use Rattle.spool_store.proofs.ScannedJobLemmas.{user_read}
use Rattle.spool_store.proofs.SubmittedDirectories.{last_without_scripts}
use Rattle.spool_model.specs.declared.row.TheConstants.{MAX_LIVE}

-- nothing is not something
not_some : (found : Option (List ℕ × Bool)) → found ≡ None → IsSome found → ⊥
not_some None none some = let impossible : false ≡ true = some in cc
not_some (Some header) none some = let impossible : Some header ≡ None = none in cc

-- the script begins with a header, so that one is found
pub header_found : (script : List ℕ) (found : Option JobHeader) → MatchOption found (¬ HasHeader script) (IsHeaderOf script)
    → IsSome (header_in script) → IsSome found
header_found script (Some header) is some = refl
header_found script None none some = absurd (not_some (header_in script) ((header_in-none script).1 none) some)

-- and its user is the one that the script says
header_user : (script : List ℕ) (found : Option JobHeader) (header : JobHeader) → MatchOption found (¬ HasHeader script) (IsHeaderOf script)
    → found ≡ Some header → user_of (header_in script) ≡ header.user
header_user script found header read is =
    (user_read script header.user header.mail (subst (λ given. MatchOption given (¬ HasHeader script) (IsHeaderOf script)) is read)).1

-- What a call leaves, by the answer of the call that files the job.

pub call_failed : (table : JobTable) (steps : List Step) (old new : World) (fault : HostFault) (result : Result (Kept × ℕ) StoreFault)
    → StoreCall table steps old new (Err fault) → IsErr result → StoreCall table steps old new (kept_after_submission result)
call_failed table steps old new fault (Ok stored) call failed = let impossible : false ≡ true = failed in cc
call_failed table steps old new fault (Err other) call failed = record { files = call.files; current = tt; others = tt }

pub call_done : (table : JobTable) (steps : List Step) (old new : World) (kept after : Kept) → after ≡ kept
    → StoreCall {E = HostFault} table steps old new (Ok kept) → StoreCall {E = StoreFault} table steps old new (Ok after)
call_done table steps old new kept after same call = record {
  files = call.files;
  current = subst (λ (at : Kept). IsCurrent at new.now.directory (after_steps table steps)) (sym same) call.current;
  others = call.others;
}

module _ (kept : Kept) (jobs : JobTable) (journal : JournalRead) (old_form : List ℕ)
    (view : ◌≡◌ {A = Kept} (record { table = jobs; journal = journal; old_form = old_form }) kept) where
  jobs_are : jobs ≡ kept.table
  jobs_are = ap (λ (at : Kept). at.table) view

  -- whether there is room, by the number of rows
  pub no_room : (rows : List Row) → ListsLive jobs rows → MAX_LIVE ≤ length rows → IsFull kept.table
  no_room rows lists many = subst IsFull jobs_are (subst (λ count. MAX_LIVE ≤ count) (rows_counted jobs rows lists) many)

  room : (rows : List Row) → ListsLive jobs rows → length rows < MAX_LIVE → live_count kept.table < MAX_LIVE
  room rows lists few =
      subst (λ table. live_count table < MAX_LIVE) jobs_are (subst (λ count. count < MAX_LIVE) (rows_counted jobs rows lists) few)

  pub no_number : IsStored (record { table = jobs; journal = journal; old_form = old_form }) → (rows : List Row) (last : ℕ)
      → ListsLive jobs rows → length rows < MAX_LIVE → last ≡ jobs.last → LAST_NUMBER ≤ last → IsUsedUp kept.table
  no_number stored rows last lists few is greatest =
      let most : jobs.last ≤ LAST_NUMBER = stored.sound.few in
      let all : jobs.last ≡ LAST_NUMBER = omega arith in
      record { room = room rows lists few; greatest = ap (λ (table : JobTable). table.last) (sym jobs_are) ∙ all }

  pub next_number : (rows : List Row) (last : ℕ) → ListsLive jobs rows → length rows < MAX_LIVE → last ≡ jobs.last → last < LAST_NUMBER
      → IsNextNumber kept.table (last + 1)
  next_number rows last lists few is more =
      let last_is : last ≡ kept.table.last = is ∙ ap (λ (table : JobTable). table.last) jobs_are in
      record {
        room = record { room = room rows lists few; more = subst (λ number. number < LAST_NUMBER) last_is more };
        next = ap (λ n. n + 1) last_is;
      }

  -- the next number, of the table of the directory
  pub is_next : IsStored (record { table = jobs; journal = journal; old_form = old_form }) → (directory : Directory) (table : JobTable)
      (number : ℕ) → IsNextNumber kept.table number → IsCurrent kept directory table → IsNextOn kept directory table number
  is_next stored directory table number next current = record {
    stored = subst IsStored view stored;
    current = current;
    number_is = next.next ∙ ap (λ n. n + 1) (ap (λ (at : JobTable). at.last) current.without_scripts_is ∙ last_without_scripts table);
  }

  -- the table of the store with the new job
  pub submitted_table : (drawn after : JobTable) (queue minute number : ℕ) (script : List ℕ) (found : Option JobHeader) (header : JobHeader)
      → drawn ≡ after_step jobs Draw
      → after ≡ after_step drawn (Accept number (record { queue = queue; minute = minute; user = header.user; script = [] }))
      → IsNextNumber kept.table number → MatchOption found (¬ HasHeader script) (IsHeaderOf script) → found ≡ Some header
      → after ≡ after_steps kept.table (submission kept.table (job_without_script (job_of_script queue minute script)))
  submitted_table drawn after queue minute number script found header drawn_is after_is next read is =
      after_is
      ∙ ap (λ at. after_step at (Accept number (record { queue = queue; minute = minute; user = header.user; script = [] }))) drawn_is
      ∙ (λ i. after_step (after_step (jobs_are i) Draw) (Accept (next.next i)
      (record { queue = queue; minute = minute; user = sym (header_user script found header read is) i; script = [] })))

  pub submitted_kept : (after : JobTable) (job : Job) → after ≡ after_steps kept.table (submission kept.table (job_without_script job))
      → ◌≡◌ {A = Kept} (record { table = after; journal = journal; old_form = old_form }) (with_job kept job)
  submitted_kept after job is = λ i. record { table = is i; journal = (view i).journal; old_form = (view i).old_form }
