-- Tables without their scripts.
use Rattle.std.proofs.Common.{◌≡◌, ◌↔◌, ℕ, ℤ, Bool, true, false, cond, List, [], ◌∷◌, map, sym, ap, subst, ◌∙◌, refl}
use Rattle.std.specs.Prelude.{Option, Some, None, option_map, if◌then◌else◌}
use Rattle.std.specs.Cmp.{nat_cmp_total}
use Rattle.std.specs.Ordering.{eq_by_cmp, nat_cmp}
use Rattle.std.specs.FinMap as map_of
use Rattle.std.specs.FinMap.{entries, from_entries, get-entries, get-from_entries, get-insert, get-remove, nat_cmp-IsAntisymmetric, same_map}
use Rattle.std.specs.FinMap.Entries.{find}
use Rattle.spool_model.specs.declared.entry.Entry.TheVariants.{Live, Done}
use Rattle.spool_model.specs.declared.fate.Fate.{Fate}
use Rattle.spool_model.specs.declared.fate.Fate.TheVariants as fate
use Rattle.spool_model.specs.declared.job.Job.{Job}
use Rattle.spool_model.specs.declared.state.State.TheVariants.{Pending, Running}
use Rattle.spool_model.specs.declared.step.Step.{Step}
use Rattle.spool_model.specs.declared.step.Step.TheVariants.{Draw, Accept, Remove, Start, End, Interrupt, Forget}
use Rattle.spool_model.specs.JobTable.{IsDone, IsPending, IsRunning, JobEntries, JobEntry, JobState, JobTable, entry_at, table_of}
use Rattle.spool_model.specs.Steps.{AreLegal, IsFree, after_step, after_steps, entries_after, in_state, is_batch_entry, last_after, last_batch_after, with_state}
use Rattle.step_runs.specs.WithoutScripts.{without_scripts, entries_without_scripts, entry_without_script, job_without_script, step_without_script}
use Rattle.step_runs.specs.Laws.{EntriesAreWithoutScripts, LegalAsOnTheTable, ListsLegalAsOnTheTable, ListsStepAsOnTheTable, ScriptsAreGone, StepsAsOnTheTable}

-- what is found without scripts
find-without_scripts : (list : List (ℕ × JobEntry)) (number : ℕ)
    → find nat_cmp number (entries_without_scripts list) ≡ option_map entry_without_script (find nat_cmp number list)
find-without_scripts [] number = refl
find-without_scripts (first ∷ later) number = by_test (eq_by_cmp nat_cmp number first.0) (find-without_scripts later number) where
  by_test : (b : Bool) → find nat_cmp number (entries_without_scripts later) ≡ option_map entry_without_script (find nat_cmp number later)
      → cond b (Some (entry_without_script first.1)) (find nat_cmp number (entries_without_scripts later))
      ≡ option_map entry_without_script (cond b (Some first.1) (find nat_cmp number later))
  by_test true rest = refl
  by_test false rest = rest

pub entries_are_without_scripts : EntriesAreWithoutScripts
unfolding without_scripts
entries_are_without_scripts table number =
    get-from_entries nat_cmp_total (entries_without_scripts (entries table.entries)) number
    ∙ find-without_scripts (entries table.entries) number
    ∙ ap (option_map entry_without_script) (sym (get-entries table.entries number))

-- an entry without its script has none
no_script : (found : Option JobEntry) (job : Job) (state : JobState)
    → option_map entry_without_script found ≡ Some (Live job state) → job.script ≡ []
no_script None job state is = let impossible : ◌≡◌ {A = Option JobEntry} None (Some (Live job state)) = is in cc
no_script (Some (Done of)) job state is = let impossible : ◌≡◌ {A = Option JobEntry} (Some (Done of)) (Some (Live job state)) = is in cc
no_script (Some (Live whole other)) job state is =
    let entries_are : ◌≡◌ {A = Option JobEntry} (Some (Live (job_without_script whole) other)) (Some (Live job state)) = is in
    let jobs_are : job_without_script whole ≡ job = cc in
    ap (λ (of : Job). of.script) (sym jobs_are)

pub scripts_are_gone : ScriptsAreGone
scripts_are_gone table number job state is =
    no_script (entry_at table number) job state (sym (entries_are_without_scripts table number) ∙ is)

-- the entries of a table without scripts
without_scripts_map : JobEntries → JobEntries
without_scripts_map list = from_entries (entries_without_scripts (entries list))

get-without_scripts_map : (list : JobEntries) (number : ℕ)
    → map_of.get (without_scripts_map list) number ≡ option_map entry_without_script (map_of.get list number)
unfolding without_scripts_map
get-without_scripts_map list number = get-from_entries nat_cmp_total (entries_without_scripts (entries list)) number
    ∙ find-without_scripts (entries list) number ∙ ap (option_map entry_without_script) (sym (get-entries list number))

-- an entry that is pending without its script is pending
pending_of : (found : Option JobEntry) (job : Job) → option_map entry_without_script found ≡ Some (Live job Pending)
    → (whole : Job) × (found ≡ Some (Live whole Pending))
pending_of None job is = let impossible : ◌≡◌ {A = Option JobEntry} None (Some (Live job Pending)) = is in cc
pending_of (Some (Done of)) job is = let impossible : ◌≡◌ {A = Option JobEntry} (Some (Done of)) (Some (Live job Pending)) = is in cc
pending_of (Some (Live whole Pending)) job is = (whole, refl)
pending_of (Some (Live whole (Running second))) job is =
    let impossible : ◌≡◌ {A = Option JobEntry} (Some (Live (job_without_script whole) (Running second))) (Some (Live job Pending)) = is in
    cc

running_of : (found : Option JobEntry) (job : Job) (second : ℤ) → option_map entry_without_script found ≡ Some (Live job (Running second))
    → (whole : Job) × (since : ℤ) × (found ≡ Some (Live whole (Running since)))
running_of None job second is = let impossible : ◌≡◌ {A = Option JobEntry} None (Some (Live job (Running second))) = is in cc
running_of (Some (Done of)) job second is =
    let impossible : ◌≡◌ {A = Option JobEntry} (Some (Done of)) (Some (Live job (Running second))) = is in
    cc
running_of (Some (Live whole Pending)) job second is =
    let impossible : ◌≡◌ {A = Option JobEntry} (Some (Live (job_without_script whole) Pending)) (Some (Live job (Running second))) = is in
    cc
running_of (Some (Live whole (Running since))) job second is = (whole, since, refl)

done_of : (found : Option JobEntry) (of : Fate) → option_map entry_without_script found ≡ Some (Done of)
    → (same : Fate) × (found ≡ Some (Done same))
done_of None of is = let impossible : ◌≡◌ {A = Option JobEntry} None (Some (Done of)) = is in cc
done_of (Some (Done same)) of is = (same, refl)
done_of (Some (Live whole state)) of is =
    let impossible : ◌≡◌ {A = Option JobEntry} (Some (Live (job_without_script whole) state)) (Some (Done of)) = is in
    cc

none_of : (found : Option JobEntry) → option_map entry_without_script found ≡ None → found ≡ None
none_of None is = refl
none_of (Some entry) is = let impossible : ◌≡◌ {A = Option JobEntry} (Some (entry_without_script entry)) None = is in cc

pending_alike : (table : JobTable) (number : ℕ) → IsPending (without_scripts table) number ↔ IsPending table number
pending_alike table number = (
  λ is. pending_of (entry_at table number) is.0 (sym (entries_are_without_scripts table number) ∙ is.1),
  λ is. (job_without_script is.0, entries_are_without_scripts table number ∙ ap (option_map entry_without_script) is.1),
)

running_alike : (table : JobTable) (number : ℕ) → IsRunning (without_scripts table) number ↔ IsRunning table number
running_alike table number = (
  λ is. running_of (entry_at table number) is.0 is.1 (sym (entries_are_without_scripts table number) ∙ is.2),
  λ is. (job_without_script is.0, is.1, entries_are_without_scripts table number ∙ ap (option_map entry_without_script) is.2),
)

done_alike : (table : JobTable) (number : ℕ) → IsDone (without_scripts table) number ↔ IsDone table number
done_alike table number = (
  λ is. done_of (entry_at table number) is.0 (sym (entries_are_without_scripts table number) ∙ is.1),
  λ is. (is.0, entries_are_without_scripts table number ∙ ap (option_map entry_without_script) is.1),
)

last_without_scripts : (table : JobTable) → (without_scripts table).last ≡ table.last
unfolding without_scripts
last_without_scripts table = refl

free_alike : (table : JobTable) (number : ℕ) → IsFree (without_scripts table) number ↔ IsFree table number
free_alike table number = (
  λ is. record {
    last = is.last ∙ last_without_scripts table;
    some = is.some;
    absent = none_of (entry_at table number) (sym (entries_are_without_scripts table number) ∙ is.absent);
  },
  λ is. record {
    last = is.last ∙ sym (last_without_scripts table);
    some = is.some;
    absent = entries_are_without_scripts table number ∙ ap (option_map entry_without_script) is.absent;
  },
)

pub legal_as_on_the_table : LegalAsOnTheTable
unfolding without_scripts
legal_as_on_the_table table Draw = (λ is. is, λ is. is)
legal_as_on_the_table table (Accept number job) = free_alike table number
legal_as_on_the_table table (Remove number) = pending_alike table number
legal_as_on_the_table table (Start number second) = pending_alike table number
legal_as_on_the_table table (End number ending) = running_alike table number
legal_as_on_the_table table (Interrupt number) = running_alike table number
legal_as_on_the_table table (Forget number) = done_alike table number

-- an entry more, or one fewer
put_alike : (list : JobEntries) (number : ℕ) (entry : JobEntry)
    → without_scripts_map (map_of.insert list number entry) ≡ map_of.insert (without_scripts_map list) number (entry_without_script entry)
put_alike list number entry = same_map nat_cmp_total nat_cmp-IsAntisymmetric _ _ (λ other.
    get-without_scripts_map (map_of.insert list number entry) other
    ∙ ap (option_map entry_without_script) (get-insert nat_cmp_total list number entry other)
    ∙ by_test (eq_by_cmp nat_cmp other number) (map_of.get list other)
    ∙ ap (cond (eq_by_cmp nat_cmp other number) (Some (entry_without_script entry))) (sym (get-without_scripts_map list other))
    ∙ sym (get-insert nat_cmp_total (without_scripts_map list) number (entry_without_script entry) other)) where
      by_test : (b : Bool) (found : Option JobEntry) → option_map entry_without_script (cond b (Some entry) found)
          ≡ cond b (Some (entry_without_script entry)) (option_map entry_without_script found)
      by_test true found = refl
      by_test false found = refl

taken_alike : (list : JobEntries) (number : ℕ)
    → without_scripts_map (map_of.remove list number) ≡ map_of.remove (without_scripts_map list) number
taken_alike list number = same_map nat_cmp_total nat_cmp-IsAntisymmetric _ _ (λ other.
    get-without_scripts_map (map_of.remove list number) other
    ∙ ap (option_map entry_without_script) (get-remove nat_cmp_total list number other)
    ∙ by_test (eq_by_cmp nat_cmp other number) (map_of.get list other)
    ∙ ap (cond (eq_by_cmp nat_cmp other number) None) (sym (get-without_scripts_map list other))
    ∙ sym (get-remove nat_cmp_total (without_scripts_map list) number other)) where
      by_test : (b : Bool) (found : Option JobEntry)
          → option_map entry_without_script (cond b None found) ≡ cond b None (option_map entry_without_script found)
      by_test true found = refl
      by_test false found = refl

state_alike : (state : JobState) (entry : JobEntry)
    → entry_without_script (in_state state entry) ≡ in_state state (entry_without_script entry)
state_alike state (Live job other) = refl
state_alike state (Done of) = refl

with_state_alike : (list : JobEntries) (number : ℕ) (state : JobState) (found : Option JobEntry) → without_scripts_map
    (with_state number state found list) ≡ with_state number state (option_map entry_without_script found) (without_scripts_map list)
with_state_alike list number state None = refl
with_state_alike list number state (Some entry) = put_alike list number (in_state state entry)
    ∙ ap (map_of.insert (without_scripts_map list) number) (state_alike state entry)

entries_alike : (list : JobEntries) (step : Step)
    → without_scripts_map (entries_after list step) ≡ entries_after (without_scripts_map list) (step_without_script step)
entries_alike list Draw = refl
entries_alike list (Accept number job) = put_alike list number (Live job Pending)
entries_alike list (Remove number) = put_alike list number (Done fate.Removed)
entries_alike list (Start number second) =
    with_state_alike list number (Running second) (map_of.get list number)
    ∙ ap (λ found. with_state number (Running second) found (without_scripts_map list)) (sym (get-without_scripts_map list number))
entries_alike list (End number ending) = put_alike list number (Done (fate.Finished ending))
entries_alike list (Interrupt number) = put_alike list number (Done fate.Interrupted)
entries_alike list (Forget number) = taken_alike list number

-- the queue of an entry is that of its job
batch_alike : (found : Option JobEntry) → is_batch_entry (option_map entry_without_script found) ≡ is_batch_entry found
batch_alike None = refl
batch_alike (Some (Live job state)) = refl
batch_alike (Some (Done of)) = refl

last_alike : (last : ℕ) (step : Step) → last_after last (step_without_script step) ≡ last_after last step
last_alike last Draw = refl
last_alike last (Accept number job) = refl
last_alike last (Remove number) = refl
last_alike last (Start number second) = refl
last_alike last (End number ending) = refl
last_alike last (Interrupt number) = refl
last_alike last (Forget number) = refl

-- a table by its parts
without_scripts_parts : (table : JobTable)
    → without_scripts table ≡ table_of table.last (without_scripts_map table.entries) table.last_batch
unfolding without_scripts without_scripts_map
without_scripts_parts table = refl

last_batch_alike : (table : JobTable) (step : Step)
    → last_batch_after (without_scripts table) (step_without_script step) ≡ last_batch_after table step
unfolding without_scripts
last_batch_alike table Draw = refl
last_batch_alike table (Accept number job) = refl
last_batch_alike table (Remove number) = refl
last_batch_alike table (Start number second) =
    ap (λ b. if b then Some second else table.last_batch) (ap is_batch_entry (entries_are_without_scripts table number)
    ∙ batch_alike (entry_at table number))
last_batch_alike table (End number ending) = refl
last_batch_alike table (Interrupt number) = refl
last_batch_alike table (Forget number) = refl

pub steps_as_on_the_table : StepsAsOnTheTable
unfolding without_scripts without_scripts_map
steps_as_on_the_table table step =
    λ i. table_of (sym (last_alike table.last step) i) (entries_alike table.entries step i) (sym (last_batch_alike table step) i)

-- lists of steps

pub lists_legal_as_on_the_table : ListsLegalAsOnTheTable
lists_legal_as_on_the_table table [] = (λ is. is, λ is. is)
lists_legal_as_on_the_table table (step ∷ later) =
    let rest : AreLegal (without_scripts (after_step table step)) (map step_without_script later) ↔ AreLegal (after_step table step) later =
    lists_legal_as_on_the_table (after_step table step) later in
    let same : without_scripts (after_step table step) ≡ after_step (without_scripts table) (step_without_script step) =
    steps_as_on_the_table table step in (
      λ legal. (
        (legal_as_on_the_table table step).0 legal.0,
        rest.0 (subst (λ of. AreLegal of (map step_without_script later)) (sym same) legal.1),
      ),
      λ legal.
          ((legal_as_on_the_table table step).1 legal.0, subst (λ of. AreLegal of (map step_without_script later)) same (rest.1 legal.1)),
    )

pub lists_step_as_on_the_table : ListsStepAsOnTheTable
lists_step_as_on_the_table table [] = refl
lists_step_as_on_the_table table (step ∷ later) =
    lists_step_as_on_the_table (after_step table step) later
    ∙ ap (λ of. after_steps of (map step_without_script later)) (steps_as_on_the_table table step)
