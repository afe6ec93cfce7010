-- A table that an image shows, and what was started by then: what one step keeps of it.
use Rattle.std.proofs.Common.{◌≡◌, ◌≢◌, ◌<◌, ◌++◌, ℕ, ℤ, Bool, false, List, [], ◌∷◌, append-nil, sym, ap, subst, ◌∙◌, refl, inl, inr, arith, All, AllPairs, Contains, length, get_or}
use Rattle.std.specs.Prelude.{Some, IsSome}
use Rattle.std.proofs.lemmas.List.Elements.{All-nil, All-push, All-weaker}
use Rattle.std.proofs.lemmas.List.Quantifiers.{all_pairs_push}
use Rattle.host_calls.specs.declared.child.Handed.{Handed}
use Rattle.spool_model.specs.declared.entry.Entry.TheVariants.{Live}
use Rattle.spool_model.specs.declared.job.Job.{Job}
use Rattle.spool_model.specs.declared.state.State.TheVariants.{Pending, Running}
use Rattle.spool_model.specs.declared.step.Step.{Step}
use Rattle.spool_model.specs.declared.step.Step.TheVariants.{Draw, Accept, Remove, Start, End, Interrupt, Forget}
use Rattle.spool_model.specs.JobTable.{IsDrawn, IsSound, JobTable, entry_at}
use Rattle.spool_model.specs.Steps.{IsLegal, after_step}
use Rattle.spool_model.proofs.StepLemmas.{step_keeps_sound}
use Rattle.step_runs.specs.Hands.{HandsOne, IsStartOf}
use Rattle.headline.specs.Headline.{IsPendingOrAccepted, IsScriptOfJob}
use Rattle.headline.proofs.StartedNumbers.{MayFollow, Holds, drawn_after, old_is_drawn, pending_after, holds_after, started_at, started_not_pending}

-- the numbers differ
abbrev pub Differ : Handed → Handed → Type 0
Differ first second = first.number ≢ second.number

-- The table is sound, each script was started once, is that of a job that was pending in the opening table or that
-- all steps accept, and its start took effect; and each pending job is such a job.
pub record IsGood (opening : JobTable) (all : List Step) (drawn : Bool) (given : List Handed) (table : JobTable) : Type 0 where
  pub sound : IsSound table
  pub once : AllPairs Differ given
  pub of_jobs : All (IsScriptOfJob opening all) given
  pub stand : All (λ handed. Holds all drawn table handed.number) given
  pub pending : (number : ℕ) (job : Job) → entry_at table number ≡ Some (Live job Pending) → IsPendingOrAccepted opening all number job

-- no two of none
none_differ : AllPairs Differ []
none_differ i j d before within = absurd (omega (arith, within))

-- the opening table is good, where nothing was started
pub good_opening : (opening : JobTable) (all : List Step) → IsSound opening → IsGood opening all false [] opening
good_opening opening all sound = record {
  sound = sound;
  once = none_differ;
  of_jobs = All-nil (IsScriptOfJob opening all);
  stand = All-nil (λ handed. Holds all false opening handed.number);
  pending = λ number job is. inl is;
}

-- what was drawn just now counts for nothing where no accept comes
pub good_between : (opening : JobTable) (all : List Step) (drawn : Bool) (given : List Handed) (table : JobTable) →
    IsGood opening all drawn given table → IsGood opening all false given table
good_between opening all drawn given table good = record {
  sound = good.sound;
  once = good.once;
  of_jobs = good.of_jobs;
  stand = All-weaker (λ (handed : Handed). Holds all drawn table handed.number)
      (λ (handed : Handed). Holds all false table handed.number) older given good.stand;
  pending = good.pending;
} where
  older : (handed : Handed) → Holds all drawn table handed.number → Holds all false table handed.number
  older handed holds = record {
    some = holds.some;
    old = old_is_drawn drawn handed.number table.last holds.old;
    started = holds.started;
  }

-- the jobs that are pending after a step
pending_known : (opening : JobTable) (all : List Step) (drawn : Bool) (given : List Handed) (table : JobTable) (step : Step) →
    IsLegal table step → Contains all step → IsGood opening all drawn given table → (number : ℕ) (job : Job) →
    entry_at (after_step table step) number ≡ Some (Live job Pending) → IsPendingOrAccepted opening all number job
pending_known opening all drawn given table step legal within good number job is = elim (pending_after table step legal number job is) [
  | inl before ↦ good.pending number job before
  | inr accepted ↦ inr (subst (Contains all) accepted within)
]

-- each start that took effect did so after a step
all_stand : (opening : JobTable) (all : List Step) (drawn : Bool) (given : List Handed) (table : JobTable) (step : Step) →
    IsLegal table step → MayFollow drawn step → Contains all step → IsGood opening all drawn given table →
    All (λ handed. Holds all (drawn_after step) (after_step table step) handed.number) given
all_stand opening all drawn given table step legal follows within good =
    All-weaker (λ (handed : Handed). Holds all drawn table handed.number)
    (λ (handed : Handed). Holds all (drawn_after step) (after_step table step) handed.number)
    (λ handed holds. holds_after all drawn table step handed.number legal follows within holds) given good.stand

-- a step after which nothing was started yet
pub good_quiet : (opening : JobTable) (all : List Step) (drawn : Bool) (given : List Handed) (table : JobTable) (step : Step) →
    IsLegal table step → MayFollow drawn step → Contains all step → IsGood opening all drawn given table →
    IsGood opening all (drawn_after step) given (after_step table step)
good_quiet opening all drawn given table step legal follows within good = record {
  sound = step_keeps_sound table step good.sound legal;
  once = good.once;
  of_jobs = good.of_jobs;
  stand = all_stand opening all drawn given table step legal follows within good;
  pending = pending_known opening all drawn given table step legal within good;
}

-- the start of a pending job took effect after it
new_holds : (all : List Step) (table : JobTable) (number : ℕ) (second : ℤ) (handed : Handed) → IsSound table →
    IsStartOf table number handed → Holds all false (after_step table (Start number second)) handed.number
new_holds all table number second handed sound is =
    let drawn : IsDrawn table number = sound.each number (subst IsSome (sym is.pending) refl) in
    let number_is : handed.number ≡ number = is.number_is in
    subst (Holds all false (after_step table (Start number second))) (sym number_is) (record {
      some = drawn.some;
      old = drawn.drawn;
      started = inl (is.job, second, running second);
    }) where
      running : (at : ℤ) → entry_at (after_step table (Start number at)) number ≡ Some (Live is.job (Running at))
      running at = started_at table number at is.job is.pending

-- a start, after which its script was started
pub good_start : (opening : JobTable) (all : List Step) (drawn : Bool) (given : List Handed) (table : JobTable) (number : ℕ)
    (second : ℤ) (handed : Handed) → IsLegal table (Start number second) → Contains all (Start number second) →
    IsStartOf table number handed → IsGood opening all drawn given table →
    IsGood opening all false (given ++ handed ∷ []) (after_step table (Start number second))
good_start opening all drawn given table number second handed legal within is good = record {
  sound = step_keeps_sound table (Start number second) good.sound legal;
  once = all_pairs_push Differ given handed good.once apart;
  of_jobs = All-push (IsScriptOfJob opening all) given handed good.of_jobs (record {
    job = is.job;
    of_job = good.pending handed.number is.job pending;
    script = is.script;
    nice = is.nice;
  });
  stand = All-push (λ (one : Handed). Holds all false (after_step table (Start number second)) one.number) given handed
      (all_stand opening all drawn given table (Start number second) legal tt within good)
      (new_holds all table number second handed good.sound is);
  pending = pending_known opening all drawn given table (Start number second) legal within good;
} where
  pending : entry_at table handed.number ≡ Some (Live is.job Pending)
  pending = ap (entry_at table) is.number_is ∙ is.pending

  apart : (k : ℕ) (d : Handed) → k < length given → Differ (get_or given k d) handed
  apart k d before same = started_not_pending table all (get_or given k d).number is.job (good.stand k d before).started
      (ap (entry_at table) same ∙ pending)

-- a step that starts nothing
quiet_none : (opening : JobTable) (all : List Step) (drawn : Bool) (given first : List Handed) (table : JobTable) (step : Step) →
    IsLegal table step → MayFollow drawn step → Contains all step → first ≡ [] →
    IsGood opening all drawn given table → IsGood opening all (drawn_after step) (given ++ first) (after_step table step)
quiet_none opening all drawn given first table step legal follows within none good =
    subst (λ (l : List Handed). IsGood opening all (drawn_after step) l (after_step table step))
    (sym (ap (λ (l : List Handed). given ++ l) none ∙ append-nil given))
    (good_quiet opening all drawn given table step legal follows within good)

-- one step, after which all that it starts was started
pub good_step : (opening : JobTable) (all : List Step) (drawn : Bool) (given first : List Handed) (table : JobTable) (step : Step) →
    IsLegal table step → MayFollow drawn step → Contains all step → HandsOne table step first →
    IsGood opening all drawn given table → IsGood opening all (drawn_after step) (given ++ first) (after_step table step)
good_step opening all drawn given first table (Start number second) legal follows within hands good =
    subst (λ (l : List Handed). IsGood opening all false (given ++ l) (after_step table (Start number second))) (sym hands.2)
    (good_start opening all drawn given table number second hands.0 legal within hands.1 good)
good_step opening all drawn given first table Draw legal follows within hands good =
    quiet_none opening all drawn given first table Draw legal follows within hands good
good_step opening all drawn given first table (Accept number job) legal follows within hands good =
    quiet_none opening all drawn given first table (Accept number job) legal follows within hands good
good_step opening all drawn given first table (Remove number) legal follows within hands good =
    quiet_none opening all drawn given first table (Remove number) legal follows within hands good
good_step opening all drawn given first table (End number ending) legal follows within hands good =
    quiet_none opening all drawn given first table (End number ending) legal follows within hands good
good_step opening all drawn given first table (Interrupt number) legal follows within hands good =
    quiet_none opening all drawn given first table (Interrupt number) legal follows within hands good
good_step opening all drawn given first table (Forget number) legal follows within hands good =
    quiet_none opening all drawn given first table (Forget number) legal follows within hands good
