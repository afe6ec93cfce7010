-- What is too much of done jobs, and that it may be forgotten.
use Rattle.std.proofs.Common.{◌≡◌, ◌-◌, ℕ, Bool, true, List, [], ◌∷◌, length, map, take, inl, inr, sym, ap, subst, ◌∙◌, refl}
use Rattle.std.proofs.lemmas.List.{length-map, take-map}
use Rattle.host_calls.specs.Session.{IsInside, Session}
use Rattle.host_calls.specs.World.{World}
use Rattle.spool_model.specs.declared.decided.Decided.{Decided}
use Rattle.spool_model.specs.declared.decided.TheConstants.{MAX_DONE}
use Rattle.spool_model.specs.declared.step.Step.{Step}
use Rattle.spool_model.specs.declared.step.Step.TheVariants.{Forget}
use Rattle.spool_model.specs.JobTable.{IsDone, JobTable}
use Rattle.spool_model.specs.Lists.{done_numbers, surplus}
use Rattle.spool_model.specs.Steps.{AreLegal, after_step}
use Rattle.spool_model.proofs.TableLemmas.{get-taken_other}
use Rattle.spool_shows.proofs.Membership.{Has}
use Rattle.step_runs.specs.WithoutScripts.{without_scripts}
use Rattle.step_runs.specs.Current.{IsCurrent, Kept}
use Rattle.step_runs.proofs.ApartLemmas.{Apart}
use Rattle.step_runs.proofs.ListLemmas.{lists_as_on_the_table}
use Rattle.step_runs.proofs.RowLemmas.{done_apart, done_held, take_apart, take_has}
use Rattle.spool_store.specs.Listed.{ListsDecided}
use Rattle.spool_store.specs.StepSequences.{MayMakeSteps}
use Rattle.spool_store.proofs.CountLemmas.{decided_listed}
use Rattle.spool_store.proofs.MakeLemmas.{changes_made}

-- the surplus, by the list of what is done
pub surplus_listed : (table : JobTable) (decided : List Decided) (count : ℕ) → ListsDecided table decided
    → count ≡ length decided - MAX_DONE →
    map (λ (done : Decided). done.number) (take count decided) ≡ surplus table
surplus_listed table decided count lists is =
    sym (take-map (λ (done : Decided). done.number) count decided)
    ∙ ap (λ (n : ℕ). take n (map (λ (done : Decided). done.number) decided)) (is
    ∙ ap (λ (n : ℕ). n - MAX_DONE) (sym (length-map decided (λ (done : Decided). done.number))))
    ∙ ap (λ (numbers : List ℕ). take (length numbers - MAX_DONE) numbers) (sym (decided_listed table decided lists))

-- what is kept without scripts has the surplus of the table
pub surplus_without_scripts : (table : JobTable) → surplus (without_scripts table) ≡ surplus table
surplus_without_scripts table = ap (λ (numbers : List ℕ). take (length numbers - MAX_DONE) numbers) (lists_as_on_the_table table).done

-- jobs of different numbers that are done are forgotten one after another
forgets_legal : (table : JobTable) (numbers : List ℕ) → Apart numbers → ((number : ℕ) → Has numbers number → IsDone table number) →
    AreLegal table (map Forget numbers)
forgets_legal table [] apart each = tt
forgets_legal table (number ∷ later) apart each = (
  each number (inl refl),
  forgets_legal (after_step table (Forget number)) later apart.1
      (λ other has. (let is : IsDone table other = each other (inr has) in
      (is.0, get-taken_other table.entries number other (λ same. apart.0 (subst (Has later) same has)) ∙ is.1))),
)

pub surplus_legal : (table : JobTable) → AreLegal table (map Forget (surplus table))
surplus_legal table =
    let count : ℕ = length (done_numbers table) - MAX_DONE in
    forgets_legal table (surplus table) (take_apart count (done_numbers table) (done_apart table))
    (λ number has. done_held table number (take_has count (done_numbers table) number has))

-- so that a call may
pub may_forget : {tells : Bool} {session : Session} {world : World} {kept : Kept} (steps : List Step)
    → steps ≡ map Forget (surplus kept.table) → IsInside session →
    (tells ≡ true → (table : JobTable) × IsCurrent kept world.now.directory table) → MayMakeSteps tells session world kept steps
may_forget {tells} {session} {world} {kept} steps is inside current = subst (MayMakeSteps tells session world kept) (sym is)
    (record {
      inside = inside;
      legal = surplus_legal kept.table;
      changes = changes_made Forget (surplus kept.table) (λ _. tt);
      current = current;
    })
