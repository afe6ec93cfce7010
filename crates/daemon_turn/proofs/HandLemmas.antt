-- A start, and the call of the host after it.
use Rattle.std.proofs.Common.{◌≡◌, ◌++◌, ℕ, ℤ, Bool, true, List, [], ◌∷◌, append-nil, arith, sym, ap, subst, ◌∙◌, refl}
use Rattle.std.specs.Prelude.{Option, Some, None, IfNone, IsErrAnd, IsSome, IsSomeAnd, Result, Ok, Err, option_map}
use Rattle.std.specs.FinMap as finite
use Rattle.host_calls.specs.declared.child.Child.{Child}
use Rattle.host_calls.specs.declared.fault.StartFault.{StartFault}
use Rattle.host_calls.specs.declared.fault.StartFault.TheVariants.{Failed, Memory as NoMemory}
use Rattle.host_calls.specs.Directory.{Files, Directory, reading_of}
use Rattle.host_calls.specs.Session.{Session, Starts}
use Rattle.host_calls.specs.World.{StartCall, World, reading}
use Rattle.job_name.specs.JobName.{SpellsJobName}
use Rattle.queue_rules.specs.Queues.{niceness_of}
use Rattle.spool_model.specs.declared.entry.Entry.TheVariants.{Live}
use Rattle.spool_model.specs.declared.job.Job.{Job}
use Rattle.spool_model.specs.declared.state.State.TheVariants.{Running}
use Rattle.spool_model.specs.declared.step.Step.TheVariants.{Start}
use Rattle.spool_model.specs.JobTable.{JobEntry, JobState, JobTable, entry_at}
use Rattle.spool_model.specs.Steps.{IsLegal, after_step, with_state}
use Rattle.spool_model.proofs.TableLemmas.{get-put_same}
use Rattle.step_runs.specs.WithoutScripts.{without_scripts, entry_without_script, job_without_script}
use Rattle.step_runs.specs.Calls.{StoreCall}
use Rattle.step_runs.specs.Current.{IsCurrent, Kept, is_new_form}
use Rattle.step_runs.specs.Made.{IsScriptFile, StartEnds}
use Rattle.step_runs.proofs.WithoutScriptsLemmas.{entries_are_without_scripts}
use Rattle.step_runs.proofs.MadeLemmas.{calls_stop_at_their_step}
use Rattle.step_runs.proofs.StartedLemmas.{starts_end}
use Rattle.step_runs.proofs.TurnLemmas.{legal_when_kept}
use Rattle.host_calls.specs.declared.store_fault.StoreFault.{StoreFault}
use Rattle.host_calls.specs.declared.store_fault.StoreFault.TheVariants.{FileFault, Memory}
use Rattle.spool_store.specs.Listed.{IsLive}
use Rattle.spool_store.specs.Scripts.{HoldsScript, IsLiveFileName}
use Rattle.spool_store.specs.OneStep.{MakesStep}
use Rattle.host_calls.proofs.SessionLemmas.{counts_on}
use Rattle.daemon_turn.specs.inside.StartedJob.{HandingEnds, HandsJobOver}

-- the job that was started runs since then
pub started_entry : (table after : JobTable) (number : ℕ) (second : ℤ) (legal : IsLegal table (Start number second))
    → after ≡ after_step table (Start number second) →
    entry_at after number ≡ Some (Live legal.0 (Running second))
started_entry table after number second legal is =
    ap (λ (t : JobTable). entry_at t number) is
    ∙ ap (λ (found : Option JobEntry). finite.get (with_state number (Running second) found table.entries) number) legal.1
    ∙ get-put_same table.entries number (Live legal.0 (Running second))

-- and lives
pub started_lives : (table after : JobTable) (number : ℕ) (second : ℤ) → IsLegal table (Start number second)
    → after ≡ after_step table (Start number second) → IsLive after number
started_lives table after number second legal is = (legal.0, Running second, started_entry table after number second legal is)

same_job : (one other : Job) (state since : JobState)
    → ◌≡◌ {A = Option JobEntry} (Some (Live one state)) (Some (Live other since)) → one ≡ other
same_job one other state since is = cc

-- the file of a live job has its script, and the niceness of its name's queue is that of the job's
pub script_is : (kept : Kept) (directory : Directory) (table : JobTable) (number : ℕ) (name : List ℕ) (queue nice : ℕ)
    (file : IsLiveFileName kept.table kept.old_form number name) →
    queue ≡ file.job.queue → nice ≡ niceness_of queue → IsCurrent kept directory table → HoldsScript table directory number name →
    IsScriptFile table (reading_of directory) number name nice
script_is kept directory table number name queue nice file queue_is nice_is current holds =
    let shown : entry_at (without_scripts table) number ≡ Some (Live (job_without_script holds.script.job) holds.script.state) =
    entries_are_without_scripts table number ∙ ap (option_map entry_without_script) holds.script.lives in
    let known : entry_at (without_scripts table) number ≡ Some (Live file.job file.state) =
    subst (λ (t : JobTable). entry_at t number ≡ Some (Live file.job file.state)) current.without_scripts_is file.lives in
    let job_is : file.job ≡ job_without_script holds.script.job =
    same_job file.job (job_without_script holds.script.job) file.state holds.script.state (sym known ∙ shown) in
    record {
      job = holds.script.job;
      state = holds.script.state;
      lives = holds.script.lives;
      held = holds.held ∙ ap Some holds.script.script;
      nice_is = nice_is ∙ ap niceness_of (queue_is ∙ ap (λ (job : Job). job.queue) job_is);
    }

module _ (kept : Kept) (number : ℕ) (second : ℤ) (old middle : World) (legal : IsLegal kept.table (Start number second)) where
  -- a start that failed has taken effect or not
  pub start_stopped : (fault : StoreFault) (table : JobTable) → IsCurrent kept old.now.directory table →
      StoreCall {E = StoreFault} table (Start number second ∷ []) old middle (Err fault) →
      HandingEnds table number second old middle (Err fault)
  start_stopped fault table current call =
      calls_stop_at_their_step table (Start number second) old middle
      (legal_when_kept kept old.now.directory table (Start number second) current legal) current.shows call.files

  -- one that took effect is followed by the call that takes its script
  start_ends : (last : Kept) (name : List ℕ) (nice : ℕ) (new : World) (result : Result Child StartFault) (table : JobTable)
      → IsCurrent kept old.now.directory table →
      StoreCall {E = StoreFault} table (Start number second ∷ []) old middle (Ok last) →
      ((directory : Directory) (shown : JobTable) → IsCurrent last directory shown
      → IsScriptFile shown (reading_of directory) number name nice) →
      StartCall number name nice middle new result → StartEnds table number second last old new result
  start_ends last name nice new result table current call file started =
      starts_end table number second name nice last old middle new result
      (legal_when_kept kept old.now.directory table (Start number second) current legal) current.shows call.files call.current call.others
      (file middle.now.directory (after_step table (Start number second)) call.current) started

  pub child_came : (last : Kept) (name : List ℕ) (nice : ℕ) (new : World) (child : Child) (table : JobTable)
      → IsCurrent kept old.now.directory table →
      StoreCall {E = StoreFault} table (Start number second ∷ []) old middle (Ok last) →
      ((directory : Directory) (shown : JobTable) → IsCurrent last directory shown
      → IsScriptFile shown (reading_of directory) number name nice) →
      StartCall {T = Child} number name nice middle new (Ok child) → HandingEnds table number second old new (Ok (last, Some child))
  child_came last name nice new child table current call file started =
      start_ends last name nice new (Ok child) table current call file started

  pub no_child_came : (last : Kept) (name : List ℕ) (nice : ℕ) (new : World) (table : JobTable) → IsCurrent kept old.now.directory table →
      StoreCall {E = StoreFault} table (Start number second ∷ []) old middle (Ok last) →
      ((directory : Directory) (shown : JobTable) → IsCurrent last directory shown
      → IsScriptFile shown (reading_of directory) number name nice) →
      StartCall {T = Child} number name nice middle new (Err Failed) → HandingEnds table number second old new (Ok (last, None))
  no_child_came last name nice new table current call file started =
      start_ends last name nice new (Err Failed) table current call file started

  pub no_memory : (last : Kept) (name : List ℕ) (nice : ℕ) (new : World) (table : JobTable) → IsCurrent kept old.now.directory table →
      StoreCall {E = StoreFault} table (Start number second ∷ []) old middle (Ok last) →
      ((directory : Directory) (shown : JobTable) → IsCurrent last directory shown
      → IsScriptFile shown (reading_of directory) number name nice) →
      StartCall {T = Child} number name nice middle new (Err NoMemory) → HandingEnds table number second old new (Err Memory)
  no_memory last name nice new table current call file started =
      start_ends last name nice new (Err NoMemory) table current call file started

-- what an answer has that exists
pub is_there : {X : Type 0} (P : Type 0) (found : Option X) → IfNone found (P → ⊥) → P → IsSome found
is_there P None absent holds = absurd (absent holds)
is_there P (Some value) absent holds = refl

pub and_there : {X : Type 0} (P : X → Type 0) (found : Option X) → IsSomeAnd found P → IsSome found
and_there P None holds = absurd holds
and_there P (Some value) holds = refl

pub and_some : {X : Type 0} (P : X → Type 0) (found : Option X) (value : X) → found ≡ Some value → IsSomeAnd found P → P value
and_some {X = X} P found value is holds = subst (λ (some : Option X). IsSomeAnd some P) is holds

-- the name of a live job's file is that of its queue
pub named : (table : JobTable) (old_form : List ℕ) (number : ℕ) (name bytes : List ℕ)
    → bytes ≡ name → (file : IsLiveFileName table old_form number name)
    → SpellsJobName bytes file.job.queue number file.job.minute (is_new_form old_form number)
named table old_form number name bytes same file =
    subst (λ (of : List ℕ). SpellsJobName of file.job.queue number file.job.minute (is_new_form old_form number)) (sym same) file.spelled

-- the host's files have the script
pub script_held : (table : JobTable) (files : Files) (number : ℕ) (name : List ℕ) (nice : ℕ) → IsScriptFile table files number name nice
    → IsSome (finite.get files name)
script_held table files number name nice file = subst IsSome (sym file.held) refl

same_fault : {T : Type 0} (one other : StoreFault) → ◌≡◌ {A = Result T StoreFault} (Err one) (Err other) → one ≡ other
same_fault one other is = cc

pub no_fault : {T : Type 0} (value : T) (fault : StoreFault) → ◌≡◌ {A = Result T StoreFault} (Ok value) (Err fault) → ⊥
no_fault value fault is = cc

pub not_memory : {T : Type 0} → ◌≡◌ {A = Result T StoreFault} (Err Memory) (Err FileFault) → ⊥
not_memory is = cc

-- the store could not start the job
pub not_started : (tells : Bool) (before after : Session) (old new : World) (kept : Kept) (number : ℕ) (second : ℤ) (fault : StoreFault)
    (result : Result (Kept × Option Child) StoreFault) → IsErrAnd result (λ other. other ≡ fault)
    → IsLegal kept.table (Start number second) →
    MakesStep tells before after old new kept (Start number second) (Err fault)
    → HandsJobOver tells before after old new kept number second result
not_started tells before after old new kept number second fault (Ok started) is legal makes = absurd is
not_started tells before after old new kept number second fault (Err other) is legal makes =
    subst (λ (of : StoreFault). HandsJobOver tells before after old new kept number second (Err of)) (sym is) (record {
      inside = makes.inside.stays.inside;
      counts = makes.inside.stays.counts;
      children = makes.inside.stays.children ∙ sym (append-nil before.children);
      cause = record {
        later = makes.inside.cause.later;
        rose = λ bad. makes.inside.cause.rose (ap (λ (of : StoreFault). Err of) (same_fault fault FileFault bad));
      };
      faults = makes.faults;
      table_is = tt;
      files = λ known table current. start_stopped kept number second old new legal fault table current (makes.files known table current);
    })

-- After the store's start, which was made:
module _ (tells : Bool) (before between after : Session) (old middle new : World) (kept last : Kept) (number : ℕ) (second : ℤ)
    (legal : IsLegal kept.table (Start number second)) (makes : MakesStep tells before between old middle kept (Start number second)
    (Ok last)) (name : List ℕ) (nice : ℕ) (file : (directory : Directory) (shown : JobTable) → IsCurrent last directory shown
    → IsScriptFile shown (reading_of directory) number name nice) where
  pub given_child : (child : Child) → Starts {E = StartFault} between after (Ok child) →
      (tells ≡ true → StartCall {T = Child} number name nice middle new (Ok child)) →
      HandsJobOver tells before after old new kept number second (Ok (last, Some child))
  given_child child starts call = record {
    inside = starts.inside;
    counts = counts_on before between after makes.inside.stays.counts starts.counts;
    children = starts.children ∙ ap (λ (l : List Child). l ++ child ∷ []) makes.inside.stays.children;
    cause = record {
      later = omega (arith, makes.inside.stays.counts.file_faults, starts.counts.file_faults);
      rose = λ bad. absurd (no_fault (last, Some child) FileFault bad);
    };
    faults = tt;
    table_is = makes.table_is;
    files = λ known table current.
        child_came kept number second old middle legal last name nice new child table current
        (makes.files known table current) file (call known);
  }

  pub given_none : Starts {E = StartFault} between after (Err Failed) →
      (tells ≡ true → StartCall {T = Child} number name nice middle new (Err Failed)) →
      HandsJobOver tells before after old new kept number second (Ok (last, None))
  given_none starts call = record {
    inside = starts.inside;
    counts = counts_on before between after makes.inside.stays.counts starts.counts;
    children = starts.children ∙ ap (λ (l : List Child). l ++ []) makes.inside.stays.children;
    cause = record {
      later = omega (arith, makes.inside.stays.counts.file_faults, starts.counts.file_faults);
      rose = λ bad. absurd (no_fault (last, None) FileFault bad);
    };
    faults = tt;
    table_is = makes.table_is;
    files = λ known table current.
        no_child_came kept number second old middle legal last name nice new table current
        (makes.files known table current) file (call known);
  }

  pub given_no_memory : Starts {E = StartFault} between after (Err NoMemory) →
      (tells ≡ true → StartCall {T = Child} number name nice middle new (Err NoMemory)) →
      HandsJobOver tells before after old new kept number second (Err Memory)
  given_no_memory starts call = record {
    inside = starts.inside;
    counts = counts_on before between after makes.inside.stays.counts starts.counts;
    children = starts.children ∙ ap (λ (l : List Child). l ++ []) makes.inside.stays.children;
    cause = record {
      later = omega (arith, makes.inside.stays.counts.file_faults, starts.counts.file_faults);
      rose = λ bad. absurd (not_memory bad);
    };
    faults = tt;
    table_is = tt;
    files = λ known table current.
        no_memory kept number second old middle legal last name nice new table current (makes.files known table current) file (call known);
  }

  -- the script is there when the host is called
  pub held_now : (tells ≡ true → (table : JobTable) × IsCurrent kept old.now.directory table) → tells ≡ true
      → IsSome (finite.get (reading middle) name)
  held_now current known =
      let table : JobTable = (current known).0 in
      script_held (after_step table (Start number second)) (reading middle) number name nice
      (file middle.now.directory (after_step table (Start number second)) (makes.files known table (current known).1).current)

-- the store's start, at the second as it is written
pub made_at : (tells : Bool) (before after : Session) (old new : World) (kept : Kept) (number : ℕ) (written second : ℤ)
    (result : Result Kept StoreFault) → written ≡ second →
    MakesStep tells before after old new kept (Start number written) result
    → MakesStep tells before after old new kept (Start number second) result
made_at tells before after old new kept number written second result same makes =
    subst (λ (of : ℤ). MakesStep tells before after old new kept (Start number of) result) same makes

-- and what results from it, where it is known whether a child came
pub handed_at : (tells : Bool) (before after : Session) (old new : World) (kept store : Kept) (number : ℕ) (written second : ℤ)
    (found child : Option Child) → written ≡ second → found ≡ child →
    HandsJobOver tells before after old new kept number written (Ok (store, found))
    → HandsJobOver tells before after old new kept number second (Ok (store, child))
handed_at tells before after old new kept store number written second found child same is hands =
    subst (λ (of : ℤ). HandsJobOver tells before after old new kept number of (Ok (store, child))) same
    (subst (λ (of : Option Child). HandsJobOver tells before after old new kept number written (Ok (store, of))) is hands)

pub unhanded_at : (tells : Bool) (before after : Session) (old new : World) (kept : Kept) (number : ℕ) (written second : ℤ)
    (fault : StoreFault) → written ≡ second →
    HandsJobOver tells before after old new kept number written (Err fault)
    → HandsJobOver tells before after old new kept number second (Err fault)
unhanded_at tells before after old new kept number written second fault same hands =
    subst (λ (of : ℤ). HandsJobOver tells before after old new kept number of (Err fault)) same hands
