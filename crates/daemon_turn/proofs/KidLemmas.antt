-- Which children stay, and that no two have one number.
use Rattle.std.proofs.Common.{◌≡◌, ◌++◌, ◌||◌, ◌&&◌, ◌==◌, ℕ, Bool, true, false, not, cond, List, [], ◌∷◌, filter, map, sym, ap, subst, ◌∙◌, refl, inl, inr}
use Rattle.std.specs.Prelude.{Some}
use Rattle.std.specs.List.{list_any}
use Rattle.std.proofs.lemmas.Bool.{eqb-true}
use Rattle.std.proofs.lemmas.List.Folds.{list_any-append}
use Rattle.spool_model.specs.declared.entry.Entry.TheVariants.{Live}
use Rattle.spool_model.specs.declared.job.Job.{Job}
use Rattle.spool_model.specs.declared.row.Row.{Row}
use Rattle.spool_model.specs.JobTable.{JobTable, entry_at}
use Rattle.spool_model.specs.Lists.{live_rows, is_running}
use Rattle.spool_shows.proofs.Membership.{Has, filtered_has, has_made, one_passes}
use Rattle.daemon_turn.specs.declared.kid.Kid.{Kid}
use Rattle.spool_model.specs.declared.turn_step.TurnStep.{TurnStep}
use Rattle.spool_model.specs.declared.turn_step.TurnStep.TheVariants.{HandedOver, Ended, Interrupted, Forgotten}
use Rattle.daemon_turn.specs.Decisions.{asked_kids, has_kid, interrupts, is_job_without_kid, is_running_entry, runs_in}
use Rattle.daemon_turn.specs.Kids.{kept_kids, tells_end_of}
use Rattle.spool_model.specs.StepsOf.{number_of_step}
use Rattle.daemon_turn.specs.inside.Ended.{without_ended}
use Rattle.daemon_turn.specs.inside.PendingNumbers.{started_of}
use Rattle.step_runs.proofs.ApartLemmas.{Apart, filter_alike}
use Rattle.step_runs.proofs.RowLemmas.{row_held}

-- what passes two tests
filter_both : {X : Type 0} (one other : X → Bool) (xs : List X) → filter (λ x. one x && other x) xs ≡ filter other (filter one xs)
filter_both one other [] = refl
filter_both {X} one other (x ∷ xs) = by_test (one x) (filter_both one other xs) where
  by_test : (b : Bool) → filter (λ y. one y && other y) xs ≡ filter other (filter one xs) →
      cond (b && other x) (x ∷ filter (λ y. one y && other y) xs) (filter (λ y. one y && other y) xs)
      ≡ filter other (cond b (x ∷ filter one xs) (filter one xs))
  by_test true same = ap (λ (l : List X). cond (other x) (x ∷ l) l) same
  by_test false same = same

-- a step that reports an end has its number
end_number : (number : ℕ) (step : TurnStep) → tells_end_of number step ≡ true → number_of_step step ≡ number
end_number number (HandedOver other second) is = cc
end_number number (Ended other ending) is = eqb-true other number is
end_number number (Interrupted other) is = cc
end_number number (Forgotten other) is = cc

-- steps of other jobs report no end
pub no_end_of : (number : ℕ) (steps : List TurnStep) → (Has (map number_of_step steps) number → ⊥)
    → list_any (tells_end_of number) steps ≡ false
no_end_of number steps none = by_test (list_any (tells_end_of number) steps) refl where
  by_test : (b : Bool) → list_any (tells_end_of number) steps ≡ b → b ≡ false
  by_test false is = refl
  by_test true is =
      let found : (step : TurnStep) × Has steps step × (tells_end_of number step ≡ true) = one_passes (tells_end_of number) steps is in
      absurd
      (none (subst (Has (map number_of_step steps)) (end_number number found.0 found.2) (has_made number_of_step steps found.0 found.1)))

-- the children that stay, by the ends among the first steps, where the others are of no running job
pub kids_stay : (table : JobTable) (first others : List TurnStep) (kids : List Kid) →
    ((kid : Kid) → runs_in table kid ≡ true → list_any (tells_end_of kid.number) others ≡ false) →
    without_ended first (asked_kids table kids) ≡ kept_kids table (first ++ others) kids
kids_stay table first others kids none =
    filter_alike (λ (kid : Kid). not (list_any (tells_end_of kid.number) first))
    (λ (kid : Kid). not (list_any (tells_end_of kid.number) (first ++ others))) (asked_kids table kids)
    (λ kid has. ap not (or_false (list_any (tells_end_of kid.number) first) (list_any (tells_end_of kid.number) others)
    (none kid (filtered_has (runs_in table) kids kid has).1)
    ∙ sym (list_any-append (tells_end_of kid.number) first others)))
    ∙ sym (filter_both (runs_in table) (λ (kid : Kid). not (list_any (tells_end_of kid.number) (first ++ others))) kids) where
      or_false : (a b : Bool) → b ≡ false → a ≡ (a || b)
      or_false true b is = refl
      or_false false b is = sym is

-- a test that implies another finds alike among what passes the other
any_kept : {X : Type 0} (one other : X → Bool) (xs : List X) → ((x : X) → Has xs x → one x ≡ true → other x ≡ true)
    → list_any one (filter other xs) ≡ list_any one xs
any_kept one other [] implies = refl
any_kept {X} one other (x ∷ xs) implies = by_tests (one x) (other x) refl refl (any_kept one other xs (λ y has. implies y (inr has))) where
  by_tests : (a b : Bool) → one x ≡ a → other x ≡ b → list_any one (filter other xs) ≡ list_any one xs →
      list_any one (cond b (x ∷ filter other xs) (filter other xs)) ≡ (a || list_any one xs)
  by_tests true true is also rest = ap (λ v. v || list_any one (filter other xs)) is
  by_tests true false is also rest = let impossible : true ≡ false = sym (implies x (inl refl) is) ∙ also in cc
  by_tests false true is also rest = ap (λ v. v || list_any one (filter other xs)) is ∙ rest
  by_tests false false is also rest = rest

-- a row that runs has the children of the asked ones
pub interrupts_asked : (table : JobTable) (kids : List Kid) → interrupts table (asked_kids table kids) ≡ interrupts table kids
interrupts_asked table kids =
    ap (map (λ (row : Row). Interrupted row.number))
    (filter_alike (is_job_without_kid (asked_kids table kids)) (is_job_without_kid kids) (live_rows table)
    (λ row has. by_state (is_running row.state) row has refl)) where
      running_kid : (row : Row) → Has (live_rows table) row → is_running row.state ≡ true → (kid : Kid) → Has kids kid
          → (kid.number == row.number) ≡ true → runs_in table kid ≡ true
      running_kid row has is kid there same =
          let held : (job : Job) × (entry_at table row.number ≡ Some (Live job row.state)) = row_held table row has in
          ap (λ (n : ℕ). is_running_entry (entry_at table n)) (eqb-true kid.number row.number same) ∙ ap is_running_entry held.1 ∙ is

      by_state : (b : Bool) (row : Row) → Has (live_rows table) row → is_running row.state ≡ b
          → is_job_without_kid (asked_kids table kids) row ≡ is_job_without_kid kids row
      by_state true row has is =
          ap (λ found. is_running row.state && not found)
          (any_kept (λ (kid : Kid). kid.number == row.number) (runs_in table) kids (running_kid row has is))
      by_state false row has is =
          ap (λ v. v && not (has_kid (asked_kids table kids) row.number)) is ∙ sym (ap (λ v. v && not (has_kid kids row.number)) is)

-- the numbers of which a child came are some of the numbers
pub started_has : (numbers : List ℕ) (flags : List Bool) (number : ℕ) → Has (started_of numbers flags) number → Has numbers number
started_has [] flags number has = has
started_has (first ∷ numbers) [] number has = absurd has
started_has (first ∷ numbers) (true ∷ flags) number (inl same) = inl same
started_has (first ∷ numbers) (true ∷ flags) number (inr has) = inr (started_has numbers flags number has)
started_has (first ∷ numbers) (false ∷ flags) number has = inr (started_has numbers flags number has)

pub started_apart : (numbers : List ℕ) (flags : List Bool) → Apart numbers → Apart (started_of numbers flags)
started_apart [] flags apart = tt
started_apart (first ∷ numbers) [] apart = tt
started_apart (first ∷ numbers) (true ∷ flags) apart =
    (λ has. apart.0 (started_has numbers flags first has), started_apart numbers flags apart.1)
started_apart (first ∷ numbers) (false ∷ flags) apart = started_apart numbers flags apart.1
