-- A job that is stored within a session.
use Rattle.std.proofs.Common.{◌≡◌, ◌⊎◌, ◌<◌, ◌+◌, Bool, true, false, ℕ, ℤ, List, [], ◌∷◌, cond, sym, ap, subst, ◌∙◌, refl, inl, inr, arith}
use Rattle.std.specs.Prelude.{Option, Some, None, Result, Ok, Err, IsSome, is_some, nat_le}
use Rattle.std.proofs.lemmas.Bool.Decides.{nat_tests}
use Rattle.at_words.specs.declared.tool_request.ToolRequest.{ToolRequest}
use Rattle.at_words.specs.declared.tool_request.ToolRequest.TheVariants as request
use Rattle.at_words.specs.declared.when.When.{When}
use Rattle.host_calls.specs.World.{World, reading}
use Rattle.step_runs.specs.Calls.{StoreCall}
use Rattle.step_runs.specs.Current.{IsCurrent, Kept}
use Rattle.step_runs.proofs.MadeLemmas.{calls_make_their_steps}
use Rattle.step_runs.proofs.RunLemmas.{calls_are_runs}
use Rattle.job_script.specs.HeaderIn.{header_in}
use Rattle.job_script.specs.JobText.{text_for, job_for}
use Rattle.listing_text.specs.declared.cause.Cause.{Cause}
use Rattle.listing_text.specs.declared.refusal.Refusal.{Refusal}
use Rattle.listing_text.specs.declared.refusal.Refusal.TheVariants as refusal
use Rattle.spool_model.specs.declared.job.Job.{Job}
use Rattle.spool_model.specs.declared.number.TheConstants.{LAST_NUMBER}
use Rattle.spool_model.specs.declared.step.Step.{Step}
use Rattle.spool_model.specs.JobTable.{JobTable}
use Rattle.spool_model.specs.Lists.{live_count}
use Rattle.spool_model.specs.Steps.{AreLegal, submission}
use Rattle.spool_shows.proofs.SoundTables.{shown_tables_are_sound}
use Rattle.host_calls.specs.declared.store_fault.StoreFault.{StoreFault}
use Rattle.host_calls.specs.declared.store_fault.StoreFault.TheVariants.{Damaged, FileFault as Failed, Memory as NoMemory, NumbersUsedUp, QueueFull}
use Rattle.spool_model.specs.declared.row.TheConstants.{MAX_LIVE}
use Rattle.spool_store.specs.Submission.{HasRoom, IsAnswerOn, IsFull, IsUsedUp, job_of_script}
use Rattle.spool_store.proofs.SubmitStored.{submission_legal}
use Rattle.tool_output.specs.declared.caller.Caller.{Caller}
use Rattle.tool_output.specs.declared.command_error.CommandError.{CommandError}
use Rattle.tool_output.specs.Causes.{cause_in, cause_of, error_of}
use Rattle.command_rules.specs.Found.{found_of}
use Rattle.at_commands.specs.inside.SessionOutcome.{AreWorkSteps, Finding}
use Rattle.spool_store.proofs.WrittenJobs.{header_of_written, job_of_written}
use Rattle.command_rules.specs.Sessions.{IsNotOpened, IsStoreOpened, IsWorkedOn}
use Rattle.command_rules.specs.Times.{minute_in}
use Rattle.command_rules.specs.Verdict.{first_refusal, number_check, room_check, table_verdict}
use Rattle.at_commands.specs.inside.StoredJob.{IsJobOf, Stores}
use Rattle.at_commands.proofs.CarryLemmas.{KeepsLists, carries_within, not_entered, not_opened, work_done, work_fails, work_lacks_memory, work_refused}
use Rattle.at_commands.proofs.KeptLemmas.{kept_decides, kept_last}
use Rattle.at_commands.proofs.EntryLemmas.{IsOfEntry}

-- the text of a job begins with the header of its user
pub header_of_job : (caller : Caller) (mail : Bool) (commands script : List ℕ) → IsJobOf caller mail commands script →
    header_in script ≡ Some (caller.context.user, mail)
header_of_job caller mail commands script is =
    ap header_in is.text ∙ header_of_written caller.context mail commands is.user

pub has_header : (caller : Caller) (mail : Bool) (commands script : List ℕ) → IsJobOf caller mail commands script
    → IsSome (header_in script)
has_header caller mail commands script is = ap is_some (header_of_job caller mail commands script is)

-- so its job is that of the submission
pub job_same : (caller : Caller) (queue minute : ℕ) (mail : Bool) (time : Result ℕ Refusal) (commands script : List ℕ)
    → IsJobOf caller mail commands script →
    minute ≡ minute_in time → job_of_script queue minute script ≡ job_for caller.context queue mail (minute_in time) commands
job_same caller queue minute mail time commands script is same =
    ap (λ (of : List ℕ). job_of_script queue minute of) is.text
    ∙ ap (λ (at : ℕ). job_of_script queue at (text_for caller.context mail commands)) same
    ∙ job_of_written caller.context queue (minute_in time) mail commands is.user

-- The checks on a table.

verdict_by : (table : JobTable) (full used : Bool) → nat_le MAX_LIVE (live_count table) ≡ full → nat_le LAST_NUMBER table.last ≡ used →
    first_refusal (room_check table ∷ number_check table ∷ [])
    ≡ cond full (Some refusal.QueueFull) (cond used (Some refusal.NumbersUsedUp) None)
verdict_by table true used is_full is_used = rw is_full refl
verdict_by table false true is_full is_used = rw (is_full, is_used) refl
verdict_by table false false is_full is_used = rw (is_full, is_used) refl

full_refused : (table : JobTable) → IsFull table → first_refusal (room_check table ∷ number_check table ∷ []) ≡ Some refusal.QueueFull
full_refused table full = verdict_by table true _ (grind (arith, nat_tests)) refl

used_up_refused : (table : JobTable) → IsUsedUp table
    → first_refusal (room_check table ∷ number_check table ∷ []) ≡ Some refusal.NumbersUsedUp
used_up_refused table used =
    let few : live_count table < MAX_LIVE = used.room in
    let last : table.last ≡ LAST_NUMBER = used.greatest in
    let room : nat_le MAX_LIVE (live_count table) ≡ false = grind (arith, nat_tests) in
    let greatest : nat_le LAST_NUMBER table.last ≡ true = grind (arith, nat_tests) in
    verdict_by table false true room greatest

room_accepted : (table : JobTable) → HasRoom table → first_refusal (room_check table ∷ number_check table ∷ []) ≡ None
room_accepted table has =
    let few : live_count table < MAX_LIVE = has.room in
    let more : table.last < LAST_NUMBER = has.more in
    let room : nat_le MAX_LIVE (live_count table) ≡ false = grind (arith, nat_tests) in
    let number : nat_le LAST_NUMBER table.last ≡ false = grind (arith, nat_tests) in
    verdict_by table false false room number

module _ (tells : Bool) (caller : Caller) (queue minute : ℕ) (script : List ℕ) (mail : Bool)
    (file : Option (List ℕ)) (when : When) (now : ℤ)
    (time : Result ℕ Refusal) (commands : List ℕ) (is_job : IsJobOf caller mail commands script)
    (same_minute : minute ≡ minute_in time) where
  abbrev asked : ToolRequest
  asked = request.Submit queue mail file when

  abbrev finding : Finding
  finding = found_of now time commands

  keeps : KeepsLists finding
  keeps = record { allow_is = λ allow deny. refl; deny_is = λ allow deny. refl }

  -- no store was had
  pub store_not_opened : (user : List ℕ) (cause : Cause) (old new : World) → caller.context.user ≡ user
      → IsNotOpened tells user old new cause →
      Stores tells true asked caller finding old new (Err (error_of cause))
  store_not_opened user cause old new same is =
      record { carries = not_opened tells true asked caller finding keeps old new user cause same is; number = tt }

  module _ (old middle new : World) (kept : Kept) (opened : IsStoreOpened tells caller.context.user old middle kept) where
    abbrev table : JobTable
    table = opened.table

    abbrev steps : List Step
    steps = submission table (job_of_script queue minute script)

    are : table_verdict asked caller (Ok kept.table) ≡ None → AreWorkSteps asked caller (finding opened.allow opened.deny) table steps
    are none = record {
      none = sym (kept_decides asked caller kept.table table opened.keeps) ∙ none;
      steps_are = ap (λ (job : Job). submission table job) (job_same caller queue minute mail time commands script is_job same_minute);
    }

    legal : tells ≡ true → HasRoom kept.table → AreLegal table steps
    legal known room =
        submission_legal table (job_of_script queue minute script)
        (shown_tables_are_sound (reading old) table (opened.recovered known).shown)
        (subst (λ (last : ℕ). last < LAST_NUMBER) (kept_last kept.table table opened.keeps) room.more)

    -- the submission failed on the way
    worked_on : (fault : StoreFault) → HasRoom kept.table →
        (tells ≡ true → (of : JobTable) → IsCurrent kept middle.now.directory of →
        StoreCall {E = StoreFault} of (submission of (job_of_script queue minute script)) middle new (Err fault)) →
        tells ≡ true → IsWorkedOn (AreWorkSteps asked caller (finding opened.allow opened.deny)) table middle new
    worked_on fault room call known =
        let current : IsCurrent kept middle.now.directory table = (opened.recovered known).current in
        record {
          steps = steps;
          are = are (room_accepted kept.table room);
          legal = legal known room;
          run = calls_are_runs table steps middle new tt current.shows (call known table current).files;
        }

    pub store_failed : (fault : StoreFault) → IsAnswerOn kept.table (Err fault) →
        (((fault ≡ QueueFull) ⊎ (fault ≡ NumbersUsedUp)) → tells ≡ true → new ≡ middle) →
        (tells ≡ true → (of : JobTable) → IsCurrent kept middle.now.directory of →
        StoreCall {E = StoreFault} of (submission of (job_of_script queue minute script)) middle new (Err fault)) →
        Stores tells true asked caller finding old new (Err (error_of (cause_of fault)))
    store_failed Failed answer same call = record {
      carries = work_fails tells true asked caller finding keeps old middle new kept opened (room_accepted kept.table answer)
          (λ known. inr (worked_on Failed answer call known));
      number = tt;
    }
    store_failed NoMemory answer same call = record {
      carries = work_lacks_memory tells true asked caller finding keeps old middle new kept opened
          (λ known. inr (worked_on NoMemory answer call known));
      number = tt;
    }
    store_failed QueueFull answer same call = record {
      carries = work_refused tells true asked caller finding keeps old middle new kept opened refusal.QueueFull
          (full_refused kept.table answer) (same (inl refl));
      number = tt;
    }
    store_failed NumbersUsedUp answer same call = record {
      carries = work_refused tells true asked caller finding keeps old middle new kept opened refusal.NumbersUsedUp
          (used_up_refused kept.table answer) (same (inr refl));
      number = tt;
    }
    store_failed (Damaged damage) answer same call = absurd answer

    pub stored : (store : Kept) (number : ℕ) → IsAnswerOn kept.table (Ok (store, number)) →
        (tells ≡ true → (of : JobTable) → IsCurrent kept middle.now.directory of →
        StoreCall {E = StoreFault} of (submission of (job_of_script queue minute script)) middle new (Ok store)) →
        Stores tells true asked caller finding old new (Ok number)
    stored store number answer call = record {
      carries = work_done tells true asked caller finding keeps old middle new kept opened (room_accepted kept.table answer.0) (λ known.
          (let current : IsCurrent kept middle.now.directory table = (opened.recovered known).current in
          record {
            steps = steps;
            kept = store;
            are = are (room_accepted kept.table answer.0);
            made =
                calls_make_their_steps table steps store middle new (legal known answer.0) tt current.shows (call known table current).files
                (call known table current).current (call known table current).others;
          }));
      number = answer.1 ∙ ap (λ (last : ℕ). last + 1) (kept_last kept.table table opened.keeps);
    }

  -- the spool could not be entered
  pub store_not_entered : (alone : Bool) (cause : Cause) (old new : World) → IsOfEntry cause → (tells ≡ true → alone ≡ true → new ≡ old) →
      Stores tells alone asked caller finding old new (Err (error_of cause))
  store_not_entered alone cause old new entry same =
      record { carries = not_entered tells alone asked caller finding keeps old new cause entry same; number = tt }

-- what a session stored holds after it
pub stores_within : (tells alone : Bool) (asked : ToolRequest) (caller : Caller) (finding : Finding) (before entered left after : World)
    (result : Result ℕ CommandError) →
    (tells ≡ true → alone ≡ true → entered ≡ before) → (tells ≡ true → alone ≡ true → after ≡ left) →
    Stores tells true asked caller finding entered left result → Stores tells alone asked caller finding before after result
stores_within tells alone asked caller finding before entered left after result enters leaves stores = record {
  carries = carries_within tells alone asked caller finding before entered left after (cause_in result) enters leaves stores.carries;
  number = stores.number;
}
