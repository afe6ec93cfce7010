-- A number whose script was started, through one step of the table.
use Rattle.std.proofs.Common.{◌≡◌, ◌⊎◌, ◌≤◌, ◌<◌, ℕ, ℤ, Bool, true, false, List, cond, sym, ap, subst, ◌∙◌, refl, inl, inr, arith, IsTrue, Contains}
use Rattle.std.specs.Prelude.{Some, None, nat_eq}
use Rattle.std.proofs.lemmas.Bool.Decides.{eqb_tells}
use Rattle.std.specs.FinMap as map
use Rattle.spool_model.specs.declared.entry.Entry.TheVariants.{Live, Done}
use Rattle.spool_model.specs.declared.fate.Fate.TheVariants.{Removed, Finished, Interrupted}
use Rattle.spool_model.specs.declared.job.Job.{Job}
use Rattle.spool_model.specs.declared.state.State.TheVariants.{Pending, Running}
use Rattle.spool_model.specs.declared.step.Step.{Step}
use Rattle.spool_model.specs.declared.step.Step.TheVariants.{Draw, Accept, Remove, Start, End, Interrupt, Forget}
use Rattle.spool_model.specs.JobTable.{JobEntries, JobEntry, JobTable, entry_at}
use Rattle.spool_model.specs.Steps.{IsLegal, after_step, with_state}
use Rattle.spool_model.proofs.TableLemmas.{get-put, get-put_other, get-put_same, get-taken, other_choice}
use Rattle.headline.specs.Headline.{IsStartedOn}

-- the number was drawn before, and is not the one that was drawn just now
abbrev pub IsOld : Bool → ℕ → ℕ → Type 0
IsOld true number last = number < last
IsOld false number last = number ≤ last

pub old_is_drawn : (drawn : Bool) (number last : ℕ) → IsOld drawn number last → number ≤ last
old_is_drawn true number last old = omega arith
old_is_drawn false number last old = old

-- the number is old, and its start took effect
pub record Holds (all : List Step) (drawn : Bool) (table : JobTable) (number : ℕ) : Type 0 where
  pub some : 1 ≤ number
  pub old : IsOld drawn number table.last
  pub started : IsStartedOn table all number

-- whether a number was drawn just now, after a step
abbrev pub drawn_after : Step → Bool
drawn_after Draw = true
drawn_after (Accept number job) = false
drawn_after (Remove number) = false
drawn_after (Start number second) = false
drawn_after (End number ending) = false
drawn_after (Interrupt number) = false
drawn_after (Forget number) = false

-- an accept follows a draw
abbrev pub MayFollow : Bool → Step → Type 0
MayFollow drawn Draw = Unit {0}
MayFollow drawn (Accept number job) = IsTrue drawn
MayFollow drawn (Remove number) = Unit {0}
MayFollow drawn (Start number second) = Unit {0}
MayFollow drawn (End number ending) = Unit {0}
MayFollow drawn (Interrupt number) = Unit {0}
MayFollow drawn (Forget number) = Unit {0}

-- what is started is not pending
pub started_not_pending : (table : JobTable) (all : List Step) (number : ℕ) (job : Job) → IsStartedOn table all number →
    entry_at table number ≡ Some (Live job Pending) → ⊥
started_not_pending table all number job started pending = elim started [
  | inl running ↦ let same : Some (Live running.0 (Running running.1)) ≡ Some (Live job Pending) = sym running.2 ∙ pending in cc
  | inr other ↦ elim other [
    | inl over ↦ let same : Some (Done over.0) ≡ Some (Live job Pending) = sym over.1 ∙ pending in cc
    | inr gone ↦ let same : None ≡ Some (Live job Pending) = sym gone.0 ∙ pending in cc
  ]
]

-- where the entry is the same, the start has still taken effect
started_same : (table after : JobTable) (all : List Step) (number : ℕ) → entry_at after number ≡ entry_at table number →
    IsStartedOn table all number → IsStartedOn after all number
started_same table after all number same started = elim started [
  | inl running ↦ inl (running.0, running.1, same ∙ running.2)
  | inr other ↦ elim other [
    | inl over ↦ inr (inl (over.0, same ∙ over.1, over.2))
    | inr gone ↦ inr (inr (same ∙ gone.0, gone.1))
  ]
]

-- where one entry was put, the start has still taken effect, if it has by that entry
started_put : (table after : JobTable) (all : List Step) (number changed : ℕ) (put : JobEntry) →
    after.entries ≡ map.insert table.entries changed put →
    (entry_at after number ≡ Some put → IsStartedOn after all number) → IsStartedOn table all number →
    IsStartedOn after all number
started_put table after all number changed put is new started =
    let at : entry_at after number ≡ cond (nat_eq number changed) (Some put) (entry_at table number) =
    ap (λ (entries : JobEntries). map.get entries number) is ∙ get-put table.entries changed number put in
    elim (eqb_tells number changed) [
      | inl same ↦ new (at ∙ ap (λ b. cond b (Some put) (entry_at table number)) same.0)
      | inr apart ↦ started_same table after all number (at ∙ ap (λ b. cond b (Some put) (entry_at table number)) apart.0) started
    ]

-- the entries after a start of a pending job
pub started_entries : (table : JobTable) (number : ℕ) (second : ℤ) (job : Job) → entry_at table number ≡ Some (Live job Pending) →
    (after_step table (Start number second)).entries ≡ map.insert table.entries number (Live job (Running second))
started_entries table number second job pending =
    ap (λ held. with_state number (Running second) held table.entries) pending

-- the entry of a job after its start
pub started_at : (table : JobTable) (number : ℕ) (second : ℤ) (job : Job) → entry_at table number ≡ Some (Live job Pending) →
    entry_at (after_step table (Start number second)) number ≡ Some (Live job (Running second))
started_at table number second job pending =
    ap (λ (entries : JobEntries). map.get entries number) (started_entries table number second job pending)
    ∙ get-put_same table.entries number (Live job (Running second))

-- the start has taken effect after a step, where a step that forgets is one of all
started_after : (all : List Step) (drawn : Bool) (table : JobTable) (step : Step) (number : ℕ) → IsLegal table step →
    MayFollow drawn step → Contains all step → Holds all drawn table number → IsStartedOn (after_step table step) all number
started_after all drawn table Draw number legal follows within holds = holds.started
started_after all true table (Accept accepted job) number legal follows within holds =
    let apart : ¬ (number ≡ accepted) = λ same. omega (arith, holds.old, legal.last) in
    started_same table (after_step table (Accept accepted job)) all number
    (get-put_other table.entries accepted number (Live job Pending) apart) holds.started
started_after all false table (Accept accepted job) number legal follows within holds = absurd (no_draw follows) where
  no_draw : IsTrue false → ⊥
  no_draw is = cc
started_after all drawn table (Remove removed) number legal follows within holds =
    let apart : ¬ (number ≡ removed) =
    λ same. started_not_pending table all number legal.0 holds.started (ap (entry_at table) same ∙ legal.1) in
    started_same table (after_step table (Remove removed)) all number
    (get-put_other table.entries removed number (Done Removed) apart) holds.started
started_after all drawn table (Start started second) number legal follows within holds =
    started_put table (after_step table (Start started second)) all number started (Live legal.0 (Running second))
    (started_entries table started second legal.0 legal.1) (λ is. inl (legal.0, second, is)) holds.started
started_after all drawn table (End ended ending) number legal follows within holds =
    started_put table (after_step table (End ended ending)) all number ended (Done (Finished ending)) refl
    (λ is. inr (inl (Finished ending, is, λ same. cc))) holds.started
started_after all drawn table (Interrupt ended) number legal follows within holds =
    started_put table (after_step table (Interrupt ended)) all number ended (Done Interrupted) refl
    (λ is. inr (inl (Interrupted, is, λ same. cc))) holds.started
started_after all drawn table (Forget forgotten) number legal follows within holds =
    let at : entry_at (after_step table (Forget forgotten)) number ≡ cond (nat_eq number forgotten) None (entry_at table number) =
    get-taken table.entries forgotten number in
    elim (eqb_tells number forgotten) [
      | inl same ↦ inr (inr (
        at ∙ ap (λ b. cond b None (entry_at table number)) same.0,
        subst (λ n. Contains all (Forget n)) (sym same.1) within,
      ))
      | inr apart ↦ started_same table (after_step table (Forget forgotten)) all number
          (at ∙ ap (λ b. cond b None (entry_at table number)) apart.0) holds.started
    ]

-- an old number is old after a step
old_after : (drawn : Bool) (table : JobTable) (step : Step) (number : ℕ) → IsOld drawn number table.last →
    IsOld (drawn_after step) number (after_step table step).last
old_after drawn table Draw number old = let was : number ≤ table.last = old_is_drawn drawn number table.last old in omega (arith, was)
old_after drawn table (Accept accepted job) number old = old_is_drawn drawn number table.last old
old_after drawn table (Remove removed) number old = old_is_drawn drawn number table.last old
old_after drawn table (Start started second) number old = old_is_drawn drawn number table.last old
old_after drawn table (End ended ending) number old = old_is_drawn drawn number table.last old
old_after drawn table (Interrupt ended) number old = old_is_drawn drawn number table.last old
old_after drawn table (Forget forgotten) number old = old_is_drawn drawn number table.last old

pub holds_after : (all : List Step) (drawn : Bool) (table : JobTable) (step : Step) (number : ℕ) → IsLegal table step →
    MayFollow drawn step → Contains all step → Holds all drawn table number →
    Holds all (drawn_after step) (after_step table step) number
holds_after all drawn table step number legal follows within holds = record {
  some = holds.some;
  old = old_after drawn table step number holds.old;
  started = started_after all drawn table step number legal follows within holds;
}

-- Jobs that are pending after a step.

-- a pending job that was not put there by the last change was there before it
pending_before : (entries : JobEntries) (number other : ℕ) (entry : JobEntry) (job : Job) →
    ¬ (Some entry ≡ Some (Live job Pending)) → map.get (map.insert entries number entry) other ≡ Some (Live job Pending) →
    map.get entries other ≡ Some (Live job Pending)
pending_before entries number other entry job differs is =
    other_choice (nat_eq other number) (Some entry) (map.get entries other) _ differs (sym (get-put entries number other entry) ∙ is)

-- what is pending after a step was pending before it, or the step has accepted it
pub pending_after : (table : JobTable) (step : Step) → IsLegal table step → (number : ℕ) (job : Job) →
    entry_at (after_step table step) number ≡ Some (Live job Pending) →
    (entry_at table number ≡ Some (Live job Pending)) ⊎ (step ≡ Accept number job)
pending_after table Draw legal number job is = inl is
pending_after table (Accept accepted other) legal number job is = elim (eqb_tells number accepted) [
  | inl same ↦
      let put : Some (Live other Pending) ≡ Some (Live job Pending) =
      sym (get-put table.entries accepted number (Live other Pending)
      ∙ ap (λ b. cond b (Some (Live other Pending)) (entry_at table number)) same.0) ∙ is in
      let job_is : other ≡ job = cc in
      let number_is : number ≡ accepted = same.1 in
      inr cc
  | inr apart ↦ inl (sym (get-put_other table.entries accepted number (Live other Pending) apart.1) ∙ is)
]
pending_after table (Remove removed) legal number job is =
    inl (pending_before table.entries removed number (Done Removed) job (λ same. cc) is)
pending_after table (Start started second) legal number job is =
    inl (pending_before table.entries started number (Live legal.0 (Running second)) job (λ same. cc)
    (ap (λ (entries : JobEntries). map.get entries number) (sym (started_entries table started second legal.0 legal.1)) ∙ is))
pending_after table (End ended ending) legal number job is =
    inl (pending_before table.entries ended number (Done (Finished ending)) job (λ same. cc) is)
pending_after table (Interrupt ended) legal number job is =
    inl (pending_before table.entries ended number (Done Interrupted) job (λ same. cc) is)
pending_after table (Forget forgotten) legal number job is =
    inl (other_choice (nat_eq number forgotten) None (map.get table.entries number) _ (λ same. cc)
    (sym (get-taken table.entries forgotten number) ∙ is))
