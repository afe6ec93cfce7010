-- No step makes a job live again that is over.
use Rattle.std.proofs.Common.{◌≡◌, ◌∙◌, ◌⊎◌, ◌<◌, ℕ, Bool, true, false, List, [], ◌∷◌, cond, refl, sym, ap, inl, inr, arith}
use Rattle.std.specs.Prelude.{Option, Some, None, nat_eq}
use Rattle.std.specs.FinMap as map
use Rattle.spool_model.specs.declared.entry.Entry.TheVariants.{Done, Live}
use Rattle.spool_model.specs.declared.fate.Fate.TheVariants.{Finished, Interrupted, Removed}
use Rattle.spool_model.specs.declared.job.Job.{Job}
use Rattle.spool_model.specs.declared.state.State.TheVariants.{Pending, Running}
use Rattle.spool_model.specs.declared.step.Step.{Step}
use Rattle.spool_model.specs.declared.step.Step.TheVariants.{Draw, Accept, Remove, Start, End, Interrupt, Forget}
use Rattle.spool_model.specs.JobTable.{JobEntries, JobEntry, JobState, JobTable}
use Rattle.spool_model.specs.Steps.{AreLegal, FollowDraws, after_step, after_steps, entries_after, with_state}
use Rattle.spool_model.proofs.TableLemmas.{get-put, get-taken}
use Rattle.at_mail.specs.Laws.{StepsReviveNoJob}
use Rattle.at_mail.specs.TrimmedNotes.{is_live_in, is_of_live}
use Rattle.at_mail.proofs.StayingLemmas.{same_number}

module _ (entries : JobEntries) (number : ℕ) where
  -- what is put under a number is dead, or the entry was live before
  put_dead : (at : ℕ) (entry : JobEntry) → is_of_live (Some entry) ≡ false
      → is_of_live (map.get (map.insert entries at entry) number) ≡ true
      → is_of_live (map.get entries number) ≡ true
  put_dead at entry dead is = by_place (nat_eq number at) (sym (ap is_of_live (get-put entries at number entry)) ∙ is) where
    by_place : (here : Bool) → is_of_live (cond here (Some entry) (map.get entries number)) ≡ true
        → is_of_live (map.get entries number) ≡ true
    by_place true lives = absurd (let impossible : true ≡ false = sym lives ∙ dead in cc)
    by_place false lives = lives

  -- a started job was live
  started : (at : ℕ) (state : JobState) (held : Option JobEntry) → map.get entries at ≡ held
      → is_of_live (map.get (with_state at state held entries) number) ≡ true
      → is_of_live (map.get entries number) ≡ true
  started at state None held is = is
  started at state (Some (Done fate)) held is = put_dead at (Done fate) refl is
  started at state (Some (Live job before)) held is =
      by_place (nat_eq number at) refl (sym (ap is_of_live (get-put entries at number (Live job state))) ∙ is)
    where
      by_place : (here : Bool) → nat_eq number at ≡ here → is_of_live (cond here (Some (Live job state)) (map.get entries number)) ≡ true
          → is_of_live (map.get entries number) ≡ true
      by_place true same lives = ap (λ (one : ℕ). is_of_live (map.get entries one)) (same_number number at same) ∙ ap is_of_live held
      by_place false same lives = lives

  -- a removed entry was live, if one is now
  forgotten : (at : ℕ) → is_of_live (map.get (map.remove entries at) number) ≡ true → is_of_live (map.get entries number) ≡ true
  forgotten at is = by_place (nat_eq number at) (sym (ap is_of_live (get-taken entries at number)) ∙ is) where
    by_place : (here : Bool) → is_of_live (cond here None (map.get entries number)) ≡ true → is_of_live (map.get entries number) ≡ true
    by_place true lives = absurd (let impossible : false ≡ true = lives in cc)
    by_place false lives = lives

  -- an accepted job is live
  accepted : (at : ℕ) (job : Job) → is_of_live (map.get (map.insert entries at (Live job Pending)) number) ≡ true
      → (is_of_live (map.get entries number) ≡ true) ⊎ (number ≡ at)
  accepted at job is = by_place (nat_eq number at) refl (sym (ap is_of_live (get-put entries at number (Live job Pending))) ∙ is) where
    by_place : (here : Bool) → nat_eq number at ≡ here → is_of_live (cond here (Some (Live job Pending)) (map.get entries number)) ≡ true
        → (is_of_live (map.get entries number) ≡ true) ⊎ (number ≡ at)
    by_place true same lives = inr (same_number number at same)
    by_place false same lives = inl lives

-- the job of the number is live, or its number is drawn later, or it was the last that was drawn
abbrev pub MayLive : Bool → JobTable → ℕ → Type 0
MayLive drawn table number = (is_live_in table number ≡ true) ⊎ ((table.last < number) ⊎ ((drawn ≡ true) × (number ≡ table.last)))

-- a step that draws and accepts nothing
quiet : (table : JobTable) (entries : JobEntries) (number : ℕ) (drawn : Bool)
    → (is_of_live (map.get entries number) ≡ true → is_live_in table number ≡ true)
    → (is_of_live (map.get entries number) ≡ true) ⊎ ((table.last < number) ⊎ ((false ≡ true) × (number ≡ table.last)))
    → MayLive drawn table number
quiet table entries number drawn was (inl lives) = inl (was lives)
quiet table entries number drawn was (inr (inl new)) = inr (inl new)
quiet table entries number drawn was (inr (inr never)) = absurd (let impossible : false ≡ true = never.0 in cc)

drawn_now : (table : JobTable) (number : ℕ) (drawn : Bool) → MayLive true (after_step table Draw) number → MayLive drawn table number
drawn_now table number drawn (inl lives) = inl lives
drawn_now table number drawn (inr (inl new)) = inr (inl (omega (arith, new)))
drawn_now table number drawn (inr (inr at)) = inr (inl (omega (arith, at.1)))

accepted_now : (table : JobTable) (number at : ℕ) (job : Job) (drawn : Bool) → at ≡ table.last → drawn ≡ true
    → MayLive false (after_step table (Accept at job)) number
    → MayLive drawn table number
accepted_now table number at job drawn last was (inl lives) = elim (accepted table.entries number at job lives) [
  | inl lived ↦ inl lived
  | inr same ↦ inr (inr (was, same ∙ last))
]
accepted_now table number at job drawn last was (inr (inl new)) = inr (inl new)
accepted_now table number at job drawn last was (inr (inr never)) = absurd (let impossible : false ≡ true = never.0 in cc)

may_live : (steps : List Step) (drawn : Bool) (table : JobTable) (number : ℕ) → AreLegal table steps → FollowDraws drawn steps
    → is_live_in (after_steps table steps) number ≡ true → MayLive drawn table number
may_live [] drawn table number legal follow is = inl is
may_live (Draw ∷ later) drawn table number legal follow is =
    drawn_now table number drawn (may_live later true (after_step table Draw) number legal.1 follow is)
may_live (Accept at job ∷ later) drawn table number legal follow is =
    accepted_now table number at job drawn legal.0.last follow.0
    (may_live later false (after_step table (Accept at job)) number legal.1 follow.1 is)
may_live (Remove at ∷ later) drawn table number legal follow is =
    quiet table (entries_after table.entries (Remove at)) number drawn (put_dead table.entries number at (Done Removed) refl)
    (may_live later false (after_step table (Remove at)) number legal.1 follow is)
may_live (Start at second ∷ later) drawn table number legal follow is =
    quiet table (entries_after table.entries (Start at second)) number drawn
    (started table.entries number at (Running second) (map.get table.entries at) refl)
    (may_live later false (after_step table (Start at second)) number legal.1 follow is)
may_live (End at ending ∷ later) drawn table number legal follow is =
    quiet table (entries_after table.entries (End at ending)) number drawn (put_dead table.entries number at (Done (Finished ending)) refl)
    (may_live later false (after_step table (End at ending)) number legal.1 follow is)
may_live (Interrupt at ∷ later) drawn table number legal follow is =
    quiet table (entries_after table.entries (Interrupt at)) number drawn (put_dead table.entries number at (Done Interrupted) refl)
    (may_live later false (after_step table (Interrupt at)) number legal.1 follow is)
may_live (Forget at ∷ later) drawn table number legal follow is =
    quiet table (entries_after table.entries (Forget at)) number drawn (forgotten table.entries number at)
    (may_live later false (after_step table (Forget at)) number legal.1 follow is)

pub steps_revive_no_job : StepsReviveNoJob
steps_revive_no_job table steps legal follow number is = by_way (may_live steps false table number legal follow is) where
  by_way : MayLive false table number → (is_live_in table number ≡ true) ⊎ (table.last < number)
  by_way (inl lives) = inl lives
  by_way (inr (inl new)) = inr new
  by_way (inr (inr never)) = absurd (let impossible : false ≡ true = never.0 in cc)
