-- What legal steps keep.
use Rattle.std.proofs.Common.{◌≡◌, ◌⊎◌, ◌+◌, ◌≤◌, ◌<◌, ℕ, Bool, true, false, List, [], ◌∷◌, cond, sym, ap, subst, ◌∙◌, refl, inl, inr, arith, IsTrue}
use Rattle.std.specs.Prelude.{Option, Some, None, IsSome, nat_eq, if◌then◌else◌}
use Rattle.std.proofs.lemmas.Bool.Decides.{eqb_tells}
use Rattle.std.specs.Ordering.{nat_cmp}
use Rattle.std.specs.FinMap as map
use Rattle.std.specs.FinMap.{get-empty}
use Rattle.spool_model.specs.declared.entry.Entry.TheVariants.{Live}
use Rattle.spool_model.specs.declared.job.Job.{Job}
use Rattle.spool_model.specs.declared.state.State.TheVariants.{Pending, Running}
use Rattle.spool_model.specs.declared.number.TheConstants.{LAST_NUMBER}
use Rattle.spool_model.specs.declared.step.Step.{Step}
use Rattle.spool_model.specs.declared.step.Step.TheVariants.{Draw, Accept, Remove, Start, End, Interrupt, Forget}
use Rattle.spool_model.specs.JobTable.{JobTable, JobEntries, JobEntry, IsSound, IsDrawn, entry_at}
use Rattle.spool_model.specs.Steps.{IsLegal, AreLegal, IsFree, FollowDraws, after_step, last_after, times_accepted, with_state}
use Rattle.spool_model.specs.Laws.{LastNeverFalls, NoStepLeadsBackToPending, NumbersAreAcceptedOnce, OldNumbersAreNotAccepted, StepsKeepTheTableSound, PrefixesAreLegal, PrefixAndRest}
use Rattle.spool_model.proofs.TableLemmas.{other_choice, get-put, get-put_other, get-taken, some_after_put, some_after_taken}

-- a step does not lower the last number
pub last_rises : (last : ℕ) (step : Step) → last ≤ last_after last step
last_rises last Draw = omega arith
last_rises last (Accept number job) = omega arith
last_rises last (Remove number) = omega arith
last_rises last (Start number second) = omega arith
last_rises last (End number ending) = omega arith
last_rises last (Interrupt number) = omega arith
last_rises last (Forget number) = omega arith

pub last_never_falls : LastNeverFalls
last_never_falls table [] legal = omega arith
last_never_falls table (step ∷ later) legal =
    omega (arith, last_rises table.last step, last_never_falls (after_step table step) later legal.1)

-- a pending job that was not put there by the last change was there before it
pending_before : (entries : JobEntries) (number other : ℕ) (entry : JobEntry) (job : Job) → ¬ (Some entry ≡ Some (Live job Pending))
    → map.get (map.insert entries number entry) other ≡ Some (Live job Pending) → map.get entries other ≡ Some (Live job Pending)
pending_before entries number other entry job differs is =
    other_choice (nat_eq other number) (Some entry) (map.get entries other) _ differs (sym (get-put entries number other entry) ∙ is)

pending_before_taken : (entries : JobEntries) (number other : ℕ) (job : Job)
    → map.get (map.remove entries number) other ≡ Some (Live job Pending) → map.get entries other ≡ Some (Live job Pending)
pending_before_taken entries number other job is =
    other_choice (nat_eq other number) None (map.get entries other) _ (λ same. cc) (sym (get-taken entries number other) ∙ is)

-- no entry, and some entry
no_entry : (held : Option JobEntry) → held ≡ None → IsSome held → ⊥
no_entry None none some = cc
no_entry (Some entry) none some = cc

pub no_step_leads_back_to_pending : NoStepLeadsBackToPending
no_step_leads_back_to_pending table Draw legal number job some is = is
no_step_leads_back_to_pending table (Accept accepted other) legal number job some is = elim (eqb_tells number accepted) [
  | inl same ↦ absurd (no_entry _ (ap (entry_at table) same.1 ∙ legal.absent) some)
  | inr apart ↦ sym (get-put_other table.entries accepted number _ apart.1) ∙ is
]
no_step_leads_back_to_pending table (Remove removed) legal number job some is =
    pending_before table.entries removed number _ job (λ same. cc) is
no_step_leads_back_to_pending table (Start started second) legal number job some is =
    pending_before table.entries started number (Live legal.0 (Running second)) job (λ same. cc)
    (subst (λ held. map.get (with_state started (Running second) held table.entries) number ≡ Some (Live job Pending)) legal.1 is)
no_step_leads_back_to_pending table (End ended ending) legal number job some is =
    pending_before table.entries ended number _ job (λ same. cc) is
no_step_leads_back_to_pending table (Interrupt ended) legal number job some is =
    pending_before table.entries ended number _ job (λ same. cc) is
no_step_leads_back_to_pending table (Forget forgotten) legal number job some is = pending_before_taken table.entries forgotten number job is

-- an entry after a change of a job that has one was there before it
some_by_change : (table : JobTable) (number changed : ℕ) (before after : JobEntry) → entry_at table changed ≡ Some before
    → IsSome (map.get (map.insert table.entries changed after) number) → IsSome (entry_at table number)
some_by_change table number changed before after was some = elim (some_after_put table.entries changed number after some) [
  | inl same ↦ subst IsSome (sym (ap (entry_at table) same ∙ was)) refl
  | inr there ↦ there
]

-- an entry after a step was there before it, or its number was free
some_before : (table : JobTable) (step : Step) → IsLegal table step → (number : ℕ) → IsSome (entry_at (after_step table step) number)
    → IsSome (entry_at table number) ⊎ IsFree table number
some_before table Draw legal number some = inl some
some_before table (Accept accepted job) legal number some = elim (some_after_put table.entries accepted number _ some) [
  | inl same ↦ inr (subst (IsFree table) (sym same) legal)
  | inr there ↦ inl there
]
some_before table (Remove removed) legal number some = inl (some_by_change table number removed _ _ legal.1 some)
some_before table (Start started second) legal number some =
    inl (some_by_change table number started (Live legal.0 Pending) (Live legal.0 (Running second)) legal.1
    (subst (λ held. IsSome (map.get (with_state started (Running second) held table.entries) number)) legal.1 some))
some_before table (End ended ending) legal number some = inl (some_by_change table number ended _ _ legal.2 some)
some_before table (Interrupt ended) legal number some = inl (some_by_change table number ended _ _ legal.2 some)
some_before table (Forget forgotten) legal number some = inl (some_after_taken table.entries forgotten number some)

-- what was drawn stays drawn
still_drawn : (table : JobTable) (step : Step) (number : ℕ) → IsDrawn table number → IsDrawn (after_step table step) number
still_drawn table step number drawn = record { some = drawn.some; drawn = omega (arith, drawn.drawn, last_rises table.last step) }

-- a number that is free was drawn
free_is_drawn : (table : JobTable) (number : ℕ) → IsFree table number → IsDrawn table number
free_is_drawn table number free = record { some = free.some; drawn = omega (arith, free.last) }

-- no step leads past the greatest number
few_after : (table : JobTable) (step : Step) → IsSound table → IsLegal table step → last_after table.last step ≤ LAST_NUMBER
few_after table Draw sound legal = omega (arith, legal)
few_after table (Accept number job) sound legal = sound.few
few_after table (Remove number) sound legal = sound.few
few_after table (Start number second) sound legal = sound.few
few_after table (End number ending) sound legal = sound.few
few_after table (Interrupt number) sound legal = sound.few
few_after table (Forget number) sound legal = sound.few

-- a legal step keeps a sound table sound
pub step_keeps_sound : (table : JobTable) (step : Step) → IsSound table → IsLegal table step → IsSound (after_step table step)
step_keeps_sound table step sound legal = record {
  few = few_after table step sound legal;
  each = λ number some. still_drawn table step number (elim (some_before table step legal number some) [
    | inl there ↦ sound.each number there
    | inr free ↦ free_is_drawn table number free
  ]);
}

pub steps_keep_the_table_sound : StepsKeepTheTableSound
steps_keep_the_table_sound table [] sound legal = sound
steps_keep_the_table_sound table (step ∷ later) sound legal =
    steps_keep_the_table_sound (after_step table step) later (step_keeps_sound table step sound legal.0) legal.1

pub prefixes_are_legal : PrefixesAreLegal
prefixes_are_legal table [] beyond legal = record { prefix_legal = tt; rest_legal = legal; joined = refl }
prefixes_are_legal table (step ∷ later) beyond legal =
    let rest : PrefixAndRest (after_step table step) later beyond = prefixes_are_legal (after_step table step) later beyond legal.1 in
    record { prefix_legal = (legal.0, rest.prefix_legal); rest_legal = rest.rest_legal; joined = rest.joined }

-- the number was drawn before, and is not the one that was drawn just now
abbrev IsOld : Bool → ℕ → ℕ → Type 0
IsOld true number last = number < last
IsOld false number last = number ≤ last

-- what is old was drawn
old_is_drawn : (drawn : Bool) (number last : ℕ) → IsOld drawn number last → number ≤ last
old_is_drawn true number last old = omega arith
old_is_drawn false number last old = old

-- a step that accepts another number does not count
other_accepted : (number accepted times : ℕ) → ¬ (number ≡ accepted) → (if nat_eq number accepted then times + 1 else times) ≡ times
other_accepted number accepted times differ = elim (eqb_tells number accepted) [
  | inl same ↦ absurd (differ same.1)
  | inr apart ↦ ap (λ b. cond b (times + 1) times) apart.0
]

-- a number that is old is no longer accepted
none_of_old : (drawn : Bool) (table : JobTable) (steps : List Step) → AreLegal table steps → FollowDraws drawn steps → (number : ℕ)
    → IsOld drawn number table.last → times_accepted number steps ≡ 0
none_of_old drawn table [] legal follow number old = refl
none_of_old drawn table (Draw ∷ later) legal follow number old =
    let was : number ≤ table.last = old_is_drawn drawn number table.last old in
    none_of_old true (after_step table Draw) later legal.1 follow number (omega arith)
none_of_old true table (Accept accepted job ∷ later) legal follow number old =
    let differ : ¬ (number ≡ accepted) = λ same. omega (arith, legal.0.last) in
    other_accepted number accepted _ differ
    ∙ none_of_old false (after_step table (Accept accepted job)) later legal.1 follow.1 number (omega arith)
none_of_old false table (Accept accepted job ∷ later) legal follow number old = absurd (no_draw follow.0) where
  no_draw : IsTrue false → ⊥
  no_draw is = cc
none_of_old drawn table (Remove removed ∷ later) legal follow number old =
    none_of_old false (after_step table (Remove removed)) later legal.1 follow number (old_is_drawn drawn number table.last old)
none_of_old drawn table (Start started second ∷ later) legal follow number old =
    none_of_old false (after_step table (Start started second)) later legal.1 follow number (old_is_drawn drawn number table.last old)
none_of_old drawn table (End ended ending ∷ later) legal follow number old =
    none_of_old false (after_step table (End ended ending)) later legal.1 follow number (old_is_drawn drawn number table.last old)
none_of_old drawn table (Interrupt ended ∷ later) legal follow number old =
    none_of_old false (after_step table (Interrupt ended)) later legal.1 follow number (old_is_drawn drawn number table.last old)
none_of_old drawn table (Forget forgotten ∷ later) legal follow number old =
    none_of_old false (after_step table (Forget forgotten)) later legal.1 follow number (old_is_drawn drawn number table.last old)

pub old_numbers_are_not_accepted : OldNumbersAreNotAccepted
old_numbers_are_not_accepted table steps legal follow number old = none_of_old false table steps legal follow number old

-- each number is accepted at most once, whether or not one was drawn just now
at_most_once : (drawn : Bool) (table : JobTable) (steps : List Step) → AreLegal table steps → FollowDraws drawn steps → (number : ℕ)
    → times_accepted number steps ≤ 1
at_most_once drawn table [] legal follow number = omega arith
at_most_once drawn table (Draw ∷ later) legal follow number = at_most_once true (after_step table Draw) later legal.1 follow number
at_most_once drawn table (Accept accepted job ∷ later) legal follow number = elim (eqb_tells number accepted) [
  | inl same ↦
      let was : number ≤ table.last = omega (arith, same.1, legal.0.last) in
      let none : times_accepted number later ≡ 0 =
      none_of_old false (after_step table (Accept accepted job)) later legal.1 follow.1 number was in
      let one : times_accepted number (Accept accepted job ∷ later) ≡ times_accepted number later + 1 =
      ap (λ b. cond b (times_accepted number later + 1) (times_accepted number later)) same.0 in
      omega (arith, one, none)
  | inr apart ↦
      let others : times_accepted number (Accept accepted job ∷ later) ≡ times_accepted number later =
      other_accepted number accepted _ apart.1 in
      omega (arith, others, at_most_once false (after_step table (Accept accepted job)) later legal.1 follow.1 number)
]
at_most_once drawn table (Remove removed ∷ later) legal follow number =
    at_most_once false (after_step table (Remove removed)) later legal.1 follow number
at_most_once drawn table (Start started second ∷ later) legal follow number =
    at_most_once false (after_step table (Start started second)) later legal.1 follow number
at_most_once drawn table (End ended ending ∷ later) legal follow number =
    at_most_once false (after_step table (End ended ending)) later legal.1 follow number
at_most_once drawn table (Interrupt ended ∷ later) legal follow number =
    at_most_once false (after_step table (Interrupt ended)) later legal.1 follow number
at_most_once drawn table (Forget forgotten ∷ later) legal follow number =
    at_most_once false (after_step table (Forget forgotten)) later legal.1 follow number

pub numbers_are_accepted_once : NumbersAreAcceptedOnce
numbers_are_accepted_once table steps legal follow number = at_most_once false table steps legal follow number

-- a new table is sound
pub new_is_sound : (entries : JobEntries) → entries ≡ map.empty → IsSound (record { last = 0; entries = entries; last_batch = None })
new_is_sound entries none = rw none (record {
  few = omega arith;
  each = λ number some. absurd (no_entry _ (get-empty nat_cmp number) some);
})

-- a legal step keeps a table sound that is known by its fields
pub sound_after : (inside table : JobTable) (step taken : Step) → inside ≡ table → taken ≡ step → IsLegal table taken → IsSound inside
    → IsSound (after_step inside step)
sound_after inside table step taken is same legal sound =
    step_keeps_sound inside step sound (subst (λ step. IsLegal inside step) same (subst (λ table. IsLegal table taken) (sym is) legal))
