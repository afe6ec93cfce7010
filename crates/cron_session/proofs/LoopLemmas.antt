-- How far the submissions came.
use Rattle.std.proofs.Common.{◌≡◌, ◌∙◌, ◌<◌, ◌≤◌, ◌+◌, ℕ, Bool, true, List, [], ◌∷◌, ◌++◌, append_assoc, append-nil, drop, get_or, length, take, refl, sym, ap, subst, arith}
use Rattle.std.specs.Prelude.{IsErrAnd, Result, Ok, Err, suc}
use Rattle.std.proofs.lemmas.List.{length-map, length-take-le, map-append, take-append-drop, take_all, take_more}
use Rattle.host_calls.specs.Session.{Session, StaysInside}
use Rattle.host_calls.specs.World.{World}
use Rattle.host_calls.proofs.SessionLemmas.{counts_on}
use Rattle.job_script.specs.declared.context.Context.{Context}
use Rattle.spool_model.specs.declared.job.Job.{Job}
use Rattle.spool_model.specs.JobTable.{JobTable}
use Rattle.spool_model.specs.Lists.{live_count}
use Rattle.spool_model.specs.Steps.{after_steps, submission}
use Rattle.host_calls.specs.declared.store_fault.StoreFault.{StoreFault}
use Rattle.spool_store.proofs.AddedJobs.{submissions_add_one_job}
use Rattle.step_runs.specs.Current.{IsCurrent, Kept}
use Rattle.step_runs.specs.WithoutScripts.{job_without_script}
use Rattle.cron_session.specs.Steps.{next_numbers, submissions}
use Rattle.cron_session.specs.inside.Due.{cron_job, cron_jobs}
use Rattle.cron_session.specs.inside.Submissions.{SubmitsAll, SubmitsOne}
use Rattle.cron_session.proofs.CauseLemmas.{ok_is_none, same_fault}
use Rattle.cron_session.proofs.SubmitLemmas.{SoFar, files_then, numbers_after-push, one_more, stopped_there}

-- what was left so far by the first of the jobs, on each table with which what was kept is current
abbrev pub AllSoFar : Bool → Kept → Kept → List Job → List Job → World → World → Type 0
AllSoFar tells kept store jobs first old here =
    tells ≡ true → (table : JobTable) → IsCurrent kept old.now.directory table → SoFar table jobs first store old here

-- a fault that is handed on
pub submits_at : (tells : Bool) (before after : Session) (old new : World) (kept : Kept) (jobs : List Job) (was is : List ℕ)
    (fault : StoreFault) (result : Result (Unit {0}) StoreFault) → IsErrAnd result (λ other. other ≡ fault) →
    SubmitsAll tells before after old new kept jobs was is (Err fault) → SubmitsAll tells before after old new kept jobs was is result
submits_at tells before after old new kept jobs was is fault (Ok done) same submits = absurd same
submits_at tells before after old new kept jobs was is fault (Err other) same submits =
    subst (λ (of : StoreFault). SubmitsAll tells before after old new kept jobs was is (Err of)) (sym same) submits

module _ (tells : Bool) (before between : Session) (old here : World) (kept store : Kept) (context : Context) (minute : ℕ)
    (due : List (List ℕ)) where
  -- all were submitted
  pub all_submitted : (place : ℕ) (was is : List ℕ) → place ≡ length due → StaysInside before between
      → before.file_faults ≤ between.file_faults →
      is ≡ was ++ next_numbers kept.table.last place →
      AllSoFar tells kept store (cron_jobs context minute due) (cron_jobs context minute (take place due)) old here →
      SubmitsAll tells before between old here kept (cron_jobs context minute due) was is (Ok tt)
  all_submitted place was is whole stays later written so_far = record {
    inside = record { stays = stays; cause = record { later = later; rose = λ bad. absurd (ok_is_none tt bad) } };
    faults = tt;
    part = record { made = jobs; next = []; later = [] };
    is_part = record { are = sym (append-nil jobs); few = omega arith; all = refl };
    written = written
        ∙ ap (λ (count : ℕ). was ++ next_numbers kept.table.last count) (whole ∙ sym (length-map due (cron_job context minute)));
    leaves = λ known table current.
        let at : SoFar table jobs jobs store old here =
        subst (λ (first : List Job). SoFar table jobs first store old here)
        (ap (cron_jobs context minute) (take_all place due (omega (arith, whole)))) (so_far known table current) in
        record { files = at.files; ends = at.current.shows; others = at.others };
  } where
    jobs : List Job
    jobs = cron_jobs context minute due

  module _ (place : ℕ) (commands : List ℕ) (inside : place < length due) (is : commands ≡ get_or due place commands) where
    abbrev jobs : List Job
    jobs = cron_jobs context minute due

    abbrev first : List Job
    first = cron_jobs context minute (take place due)

    abbrev later : List Job
    later = cron_jobs context minute (drop (place + 1) due)

    abbrev job : Job
    job = cron_job context minute commands

    first_more : take (place + 1) due ≡ take place due ++ commands ∷ []
    first_more = take_more due place commands inside ∙ ap (λ (one : List ℕ). take place due ++ one ∷ []) (sym is)

    due_are : due ≡ take place due ++ commands ∷ drop (place + 1) due
    due_are =
        sym (take-append-drop (place + 1) due) ∙ ap (λ (l : List (List ℕ)). l ++ drop (place + 1) due) first_more
        ∙ append_assoc (take place due) (commands ∷ []) (drop (place + 1) due)

    jobs_are : jobs ≡ first ++ job ∷ later
    jobs_are =
        ap (cron_jobs context minute) due_are
        ∙ map-append (cron_job context minute) (take place due) (commands ∷ drop (place + 1) due)

    counted : length first ≡ place
    counted = length-map (take place due) (cron_job context minute) ∙ length-take-le place due (omega (arith, inside))

    -- it was stopped at this one
    pub stopped_submitting : (after : Session) (new : World) (was numbers : List ℕ) (fault : StoreFault) → StaysInside before between →
        numbers ≡ was ++ next_numbers kept.table.last place → AllSoFar tells kept store jobs first old here →
        SubmitsOne tells between after here new store job (Err fault)
        → SubmitsAll tells before after old new kept jobs was numbers (Err fault)
    stopped_submitting after new was numbers fault stays written so_far call = record {
      inside = record {
        stays = record {
          inside = call.inside.stays.inside;
          children = call.inside.stays.children ∙ stays.children;
          counts = counts_on before between after stays.counts call.inside.stays.counts;
        };
        cause = record {
          later = omega (arith, stays.counts.file_faults, call.inside.cause.later);
          rose = λ bad. omega (arith, stays.counts.file_faults, call.inside.cause.rose (same_fault fault bad));
        };
      };
      faults = call.faults;
      part = record { made = first; next = job ∷ []; later = later };
      is_part = record { are = jobs_are; few = omega arith; all = tt };
      written = written ∙ ap (λ (count : ℕ). was ++ next_numbers kept.table.last count) (sym counted);
      leaves = λ known table current.
          let at : SoFar table jobs first store old here = so_far known table current in
          let files = (call.files known (after_steps table (submissions table.last first)) at.current).files in
          record {
            files = files_then table jobs first job later jobs_are kept store old here current at new files;
            ends = stopped_there table jobs first job later jobs_are kept store old here current at new files;
            others = tt;
          };
    }

    -- it was submitted
    pub submitted_more : (after : Session) (new : World) (next : Kept) (number : ℕ) → AllSoFar tells kept store jobs first old here →
        SubmitsOne tells between after here new store job (Ok (next, number)) →
        AllSoFar tells kept next jobs (cron_jobs context minute (take (place + 1) due)) old new
    submitted_more after new next number so_far call = λ known table current.
        let at : SoFar table jobs first store old here = so_far known table current in
        let made = call.files known (after_steps table (submissions table.last first)) at.current in
        subst (λ (some : List Job). SoFar table jobs some next old new)
        (sym (ap (cron_jobs context minute) first_more ∙ map-append (cron_job context minute) (take place due) (commands ∷ [])))
        (one_more table jobs first job later jobs_are kept store old here current at new made.files next made.current made.others)

-- What a submission adds.

pub last_more : (store next : Kept) (of : Job) → next.table ≡ after_steps store.table (submission store.table (job_without_script of))
    → next.table.last ≡ store.table.last + 1
last_more store next of is = ap (λ (table : JobTable). table.last) is

pub live_more : (store next : Kept) (of : Job) → next.table ≡ after_steps store.table (submission store.table (job_without_script of)) →
    live_count next.table ≤ live_count store.table + 1
live_more store next of is =
    subst (λ (table : JobTable). live_count table ≤ live_count store.table + 1) (sym is)
    (submissions_add_one_job store.table (job_without_script of))

pub written_more : (last place number stored : ℕ) (was is more : List ℕ) → stored ≡ last + place
    → is ≡ was ++ next_numbers last place → number ≡ stored + 1 →
    more ≡ is ++ number ∷ [] → more ≡ was ++ next_numbers last (place + 1)
written_more last place number stored was is more at written next pushed =
    pushed ∙ ap (λ (l : List ℕ). l ++ number ∷ []) written ∙ append_assoc was (next_numbers last place) (number ∷ [])
    ∙ ap (λ (n : ℕ). was ++ (next_numbers last place ++ n ∷ [])) is_next
    ∙ ap (λ (l : List ℕ). was ++ l) (sym (numbers_after-push last place))
    ∙ ap (λ (count : ℕ). was ++ next_numbers last count) one_more_is where
      is_next : number ≡ last + (place + 1)
      is_next = omega (arith, at, next)

      one_more_is : suc place ≡ place + 1
      one_more_is = omega arith

-- the session stays on
pub stays_on : (before between after : Session) → StaysInside before between → StaysInside between after → StaysInside before after
stays_on before between after one two =
    record { inside = two.inside; children = two.children ∙ one.children; counts = counts_on before between after one.counts two.counts }
