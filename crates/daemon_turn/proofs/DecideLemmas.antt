-- What is finished of running jobs, part by part.
use Rattle.std.proofs.Common.{◌≡◌, ◌≤◌, ◌<◌, ◌-◌, ◌++◌, ◌||◌, ℕ, zero, suc, Bool, true, false, not, List, [], ◌∷◌, append_assoc, append-nil, drop, filter, length, map, min, take, sym, ap, subst, ◌∙◌, refl, arith, inl, inr}
use Rattle.std.specs.Prelude.{AllPairs, IfOk, IsErrAnd, Option, Some, None, Result, Ok, Err, Vec}
use Rattle.std.specs.declared.alloc.Global.{Global}
use Rattle.std.specs.List.{list_any}
use Rattle.std.proofs.lemmas.Bool.{cases_lt}
use Rattle.std.proofs.lemmas.List.{take-append-drop, take_rest}
use Rattle.std.proofs.lemmas.List.Folds.{list_any-append, list_any_none}
use Rattle.host_calls.specs.declared.child.Ending.{Ending}
use Rattle.host_calls.specs.Session.{IsInside, Session, StaysInside}
use Rattle.host_calls.specs.World.{World}
use Rattle.spool_model.specs.declared.row.Row.{Row}
use Rattle.spool_model.specs.JobTable.{JobTable}
use Rattle.spool_model.specs.Lists.{live_rows}
use Rattle.spool_model.specs.Steps.{AreLegal, after_steps}
use Rattle.spool_model.specs.Laws.{PrefixAndRest}
use Rattle.spool_model.proofs.StepLemmas.{prefixes_are_legal}
use Rattle.step_runs.specs.Current.{IsCurrent, Kept}
use Rattle.spool_store.specs.StepSequences.{AreChanges, MayMakeSteps}
use Rattle.host_calls.specs.declared.store_fault.StoreFault.{StoreFault}
use Rattle.host_calls.specs.declared.store_fault.StoreFault.TheVariants.{Memory}
use Rattle.spool_shows.proofs.Membership.{Has, has_left, made_has}
use Rattle.daemon_turn.specs.declared.kid.Kid.{Kid}
use Rattle.spool_model.specs.declared.turn_step.TurnStep.{TurnStep}
use Rattle.spool_model.specs.declared.turn_step.TurnStep.TheVariants.{Ended, Interrupted}
use Rattle.daemon_turn.specs.Decisions.{end_steps, interrupts, is_job_without_kid, questions, runs_in}
use Rattle.daemon_turn.specs.Kids.{AreKidsByNumber, AreChildren, tells_end_of}
use Rattle.spool_model.specs.StepsOf.{number_of_step, steps_of_turn}
use Rattle.daemon_turn.specs.inside.AskedChildren.{AsksAll}
use Rattle.daemon_turn.specs.inside.Decisions.{AreEndsRecorded, MakesDecisions, MayDecide}
use Rattle.daemon_turn.specs.inside.Ended.{AreEndsByNumber, is_end, without_ended}
use Rattle.daemon_turn.specs.inside.TurnParts.{TurnPart, joined_parts, quiet_part}
use Rattle.daemon_turn.specs.inside.MadeSteps.{MakesAll}
use Rattle.step_runs.proofs.ApartLemmas.{Apart, all_each, each_all, filter_alike, pairs_cons, pairs_head, pairs_nil, pairs_tail, rise_apart}
use Rattle.daemon_turn.proofs.AskLemmas.{ends_of_none, questions_of_none}
use Rattle.daemon_turn.proofs.DecisionLemmas.{EachRuns, decisions_legal, end_of_kid}
use Rattle.daemon_turn.proofs.GoLemmas.{asked_part, asks_go, goes_then, memory_goes, steps_join}

-- Whether the steps may be made.

abbrev kid_number : Kid → ℕ
kid_number kid = kid.number

-- steps that give up or end starts nothing
quiet_interrupts : (rows : List Row) → AreChanges (steps_of_turn (map (λ (row : Row). Interrupted row.number) rows))
quiet_interrupts [] = tt
quiet_interrupts (row ∷ rows) = (tt, quiet_interrupts rows)

quiet_ends : (kids : List Kid) (answers : List (Option Ending)) → AreChanges (steps_of_turn (end_steps kids answers))
quiet_ends [] answers = tt
quiet_ends (kid ∷ kids) [] = tt
quiet_ends (kid ∷ kids) (None ∷ answers) = quiet_ends kids answers
quiet_ends (kid ∷ kids) (Some ending ∷ answers) = (tt, quiet_ends kids answers)

module _ (tells : Bool) (session : Session) (world : World) (kept : Kept) (kids : List Kid)
    (may : MayDecide tells session world kept kids) where
  pub each_runs : EachRuns kept.table kids
  each_runs = all_each (λ kid. runs_in kept.table kid ≡ true) kids may.run

  pub kids_apart : Apart (map kid_number kids)
  kids_apart = rise_apart kid_number kids may.ordered

  legal_parts : (answers : List (Option Ending))
      → PrefixAndRest kept.table (steps_of_turn (interrupts kept.table kids)) (steps_of_turn (end_steps kids answers))
  legal_parts answers =
      prefixes_are_legal kept.table (steps_of_turn (interrupts kept.table kids)) (steps_of_turn (end_steps kids answers))
      (subst (AreLegal kept.table) (steps_join (interrupts kept.table kids) (end_steps kids answers))
      (decisions_legal kept.table kids kids_apart each_runs answers))

  pub may_give_up : (interrupted : List TurnStep) → interrupted ≡ interrupts kept.table kids
      → MayMakeSteps tells session world kept (steps_of_turn interrupted)
  may_give_up interrupted is = record {
    inside = may.go.inside;
    legal = subst (λ (steps : List TurnStep). AreLegal kept.table (steps_of_turn steps)) (sym is) (legal_parts []).prefix_legal;
    changes = subst (λ (steps : List TurnStep). AreChanges (steps_of_turn steps)) (sym is)
        (quiet_interrupts (filter (is_job_without_kid kids) (live_rows kept.table)));
    current = may.go.current;
  }

  pub may_end_all : (now : Kept) (between : Session) (middle : World) (known : List TurnStep) (answers : List (Option Ending))
      → IsInside between →
      now.table ≡ after_steps kept.table (steps_of_turn (interrupts kept.table kids)) → known ≡ end_steps kids answers →
      (tells ≡ true → (table : JobTable) × IsCurrent now middle.now.directory table)
      → MayMakeSteps tells between middle now (steps_of_turn known)
  may_end_all now between middle known answers inside table_is is current = record {
    inside = inside;
    legal = subst (λ (steps : List TurnStep). AreLegal now.table (steps_of_turn steps)) (sym is)
        (subst (λ (table : JobTable). AreLegal table (steps_of_turn (end_steps kids answers))) (sym table_is)
        (legal_parts answers).rest_legal);
    changes = subst (λ (steps : List TurnStep). AreChanges (steps_of_turn steps)) (sym is) (quiet_ends kids answers);
    current = current;
  }

-- a host whose children stay still has those of the children
pub children_stay : (before after : Session) (kids : List Kid) → after.children ≡ before.children ++ [] → AreChildren before.children kids
    → AreChildren after.children kids
children_stay before after kids same are = subst (λ l. AreChildren l kids) (sym (same ∙ append-nil before.children)) are

-- The steps that were made.

module _ (tells : Bool) (before : Session) (old : World) (kept : Kept) (kids : List Kid) (interrupted : List TurnStep) (was : List TurnStep)
    (lost_is : interrupted ≡ interrupts kept.table kids) where
  -- stopped at a job that is given up
  pub stopped_giving_up : (after : Session) (new : World) (is : List TurnStep) (fault : StoreFault) (result : Result Kept StoreFault)
      → IsErrAnd result (λ other. other ≡ fault) →
      MakesAll tells before after old new kept interrupted was is (Err fault)
      → MakesDecisions tells before after old new kept kids was is result
  stopped_giving_up after new is fault (Ok store) err makes = absurd err
  stopped_giving_up after new is fault (Err other) err makes =
      subst (λ (of : StoreFault). MakesDecisions tells before after old new kept kids was is (Err of)) (sym err) (record {
        part = quiet_part makes.made makes.next;
        goes = makes.goes;
        decided = record {
          answers = [];
          few = omega arith;
          prefix = (
            makes.prefix.0,
            ap (λ (l : List TurnStep). l ++ end_steps kids []) (sym lost_is)
                ∙ ap (λ (l : List TurnStep). interrupted ++ l) (ends_of_none kids)
                ∙ append-nil interrupted ∙ makes.prefix.1,
          );
          all = tt;
          asked = sym (questions_of_none kids);
          flags = refl;
          added = refl;
        };
        written = makes.written;
      })

  -- after all of them
  module _ (first : Session) (given_up : World) (now : Kept) (between : List TurnStep)
      (makes : MakesAll tells before first old given_up kept interrupted was between (Ok now)) where
    abbrev giving : TurnPart
    giving = quiet_part makes.made makes.next

    given_are : makes.made ≡ interrupts kept.table kids
    given_are = makes.all ∙ lost_is

    pub given_up_table : now.table ≡ after_steps kept.table (steps_of_turn (interrupts kept.table kids))
    given_up_table = makes.goes.table_is ∙ ap (λ (steps : List TurnStep). after_steps kept.table (steps_of_turn steps)) given_are

    -- stopped at a question
    pub stopped_asking : {E : Type 0} (after : Session) (new : World) (asked : Result (Vec TurnStep Global) E)
        (result : Result Kept StoreFault) → IsErrAnd result (λ other. other ≡ Memory) →
        StaysInside first after → AsksAll tells kids given_up new asked
        → MakesDecisions tells before after old new kept kids was between result
    stopped_asking after new asked (Ok store) err stays asks = absurd err
    stopped_asking after new asked (Err other) err stays asks =
        subst (λ (of : StoreFault). MakesDecisions tells before after old new kept kids was between (Err of)) (sym err) (record {
          part = joined_parts giving (asked_part (questions kids asks.answers));
          goes = goes_then tells before first after old given_up new kept now giving
              (asked_part (questions kids asks.answers)) (Err Memory) makes.goes
              (memory_goes tells first after given_up new now (questions kids asks.answers) stays asks.asked);
          decided = record {
            answers = asks.answers;
            few = asks.few;
            prefix = (
              end_steps kids asks.answers,
              ap (λ (l : List TurnStep). l ++ end_steps kids asks.answers)
                  (sym (append-nil (makes.made ++ []) ∙ append-nil makes.made ∙ given_are)),
            );
            all = tt;
            asked = refl;
            flags = refl;
            added = refl;
          };
          written = makes.written ∙ ap (λ (l : List TurnStep). was ++ l) (sym (append-nil makes.made));
        })

    -- all were asked, and their ends made, or the first of them
    pub ended_all : {E : Type 0} (asked_at after : Session) (middle new : World) (told : Vec TurnStep Global) (known is : List TurnStep)
        (result : Result Kept StoreFault) →
        StaysInside first asked_at → (asks : AsksAll {E = E} tells kids given_up middle (Ok told)) → known ≡ told.items
        → MakesAll tells asked_at after middle new now known between is result →
        MakesDecisions tells before after old new kept kids was is result
    ended_all asked_at after middle new told known is result stays asks same ended = record {
      part = whole;
      goes = goes_then tells before asked_at after old middle new kept now
          (joined_parts giving (asked_part (questions kids asks.answers))) ending result
          (goes_then tells before first asked_at old given_up middle kept now giving
          (asked_part (questions kids asks.answers)) (Ok now) makes.goes
          (asks_go tells first asked_at given_up middle now (questions kids asks.answers) stays asks.asked))
          ended.goes;
      decided = record {
        answers = asks.answers;
        few = asks.few;
        prefix = (
          ended.prefix.0,
          ap (λ (l : List TurnStep). l ++ end_steps kids asks.answers) (sym first_part)
              ∙ ap (λ (l : List TurnStep). (makes.made ++ []) ++ l) (sym known_is ∙ ended.prefix.1)
              ∙ regroup (makes.made ++ []) ended.made ended.next ended.prefix.0,
        );
        all = all_of result ended;
        asked = append-nil (questions kids asks.answers);
        flags = refl;
        added = refl;
      };
      written = ended.written ∙ ap (λ (l : List TurnStep). l ++ ended.made) makes.written ∙ append_assoc was makes.made (ended.made)
          ∙ ap (λ (l : List TurnStep). was ++ (l ++ ended.made)) (sym (append-nil makes.made));
    } where
      ending : TurnPart
      ending = quiet_part ended.made ended.next

      whole : TurnPart
      whole = joined_parts (joined_parts giving (asked_part (questions kids asks.answers))) ending

      known_is : known ≡ end_steps kids asks.answers
      known_is = same ∙ asks.all.1

      first_part : makes.made ++ [] ≡ interrupts kept.table kids
      first_part = append-nil makes.made ∙ given_are

      regroup : (a b c d : List TurnStep) → a ++ ((b ++ c) ++ d) ≡ ((a ++ b) ++ c) ++ d
      regroup a b c d = simp append_assoc

      all_of : (of : Result Kept StoreFault) (makes_ends : MakesAll tells asked_at after middle new now known between is of) →
          IfOk of (λ store. (length asks.answers ≡ length kids)
          × ((makes.made ++ []) ++ makes_ends.made ≡ interrupts kept.table kids ++ end_steps kids asks.answers))
      all_of (Ok store) makes_ends = (
        asks.all.0,
        ap (λ (l : List TurnStep). l ++ makes_ends.made) first_part
            ∙ ap (λ (l : List TurnStep). interrupts kept.table kids ++ l) (makes_ends.all ∙ known_is),
      )
      all_of (Err fault) makes_ends = tt

-- Of the steps that were written down, the ends.

-- a list that begins as two others do begins with the first, or as it does
split : (interrupted later steps rest : List TurnStep) → interrupted ++ later ≡ steps ++ rest →
    ((beyond : List TurnStep) × (later ≡ drop (length interrupted) steps ++ beyond))
    × ((others : List TurnStep) × (interrupted ≡ take (length interrupted) steps ++ others))
split [] later steps rest is = ((rest, is), ([], refl))
split (first ∷ interrupted) later [] rest is = ((later, refl), (first ∷ interrupted, refl))
split (first ∷ interrupted) later (step ∷ steps) rest is =
    let same : first ≡ step = cc in
    let others : interrupted ++ later ≡ steps ++ rest = cc in
    let parts = split interrupted later steps rest others in
    (parts.0, (parts.1.0, ap (λ (one : TurnStep). one ∷ interrupted) same ∙ ap (λ (l : List TurnStep). step ∷ l) parts.1.1))

pairs_left : {X : Type 0} (R : X → X → Type 0) (xs ys : List X) → AllPairs R (xs ++ ys) → AllPairs R xs
pairs_left R [] ys pairs = pairs_nil R
pairs_left R (x ∷ xs) ys pairs = pairs_cons R x xs (λ y has. pairs_head R x (xs ++ ys) pairs y (has_left xs ys y has))
    (pairs_left R xs ys (pairs_tail R x (xs ++ ys) pairs))

abbrev IsBelow : TurnStep → TurnStep → Type 0
IsBelow one other = number_of_step one < number_of_step other

ends_rise : (kids : List Kid) (answers : List (Option Ending)) → AreKidsByNumber kids → AllPairs IsBelow (end_steps kids answers)
ends_rise [] answers rise = pairs_nil IsBelow
ends_rise (kid ∷ kids) [] rise = pairs_nil IsBelow
ends_rise (kid ∷ kids) (None ∷ answers) rise = ends_rise kids answers (pairs_tail (λ one other. one.number < other.number) kid kids rise)
ends_rise (kid ∷ kids) (Some ending ∷ answers) rise =
    pairs_cons IsBelow (Ended kid.number ending) (end_steps kids answers)
    (λ step has.
    (let of : (other : Kid) × (known : Ending) × Has kids other × (Ended other.number known ≡ step) = end_of_kid kids answers step has in
    subst (λ (one : TurnStep). kid.number < number_of_step one) of.3
    (pairs_head (λ one other. one.number < other.number) kid kids rise of.0 of.2)))
    (ends_rise kids answers (pairs_tail (λ one other. one.number < other.number) kid kids rise))

ends_each : (kids : List Kid) (answers : List (Option Ending)) (step : TurnStep) → Has (end_steps kids answers) step → is_end step ≡ true
ends_each kids answers step has =
    let of : (other : Kid) × (known : Ending) × Has kids other × (Ended other.number known ≡ step) = end_of_kid kids answers step has in
    ap is_end (sym of.3)

prefix_of_ends : (kids : List Kid) (answers : List (Option Ending)) (prefix beyond : List TurnStep) → AreKidsByNumber kids
    → end_steps kids answers ≡ prefix ++ beyond → AreEndsByNumber prefix
prefix_of_ends kids answers prefix beyond rise is = record {
  each = each_all (λ step. is_end step ≡ true) prefix
      (λ step has. ends_each kids answers step (subst (λ (l : List TurnStep). Has l step) (sym is) (has_left prefix beyond step has)));
  ordered = pairs_left IsBelow prefix beyond (subst (AllPairs IsBelow) is (ends_rise kids answers rise));
}

-- what is given up tells of no end
no_end : (rows : List Row) (number : ℕ) (step : TurnStep) → Has (map (λ (row : Row). Interrupted row.number) rows) step
    → tells_end_of number step ≡ false
no_end rows number step has =
    let of : (row : Row) × Has rows row × (Interrupted row.number ≡ step) =
    made_has (λ (row : Row). Interrupted row.number) rows step has in
    ap (tells_end_of number) (sym of.2)

module _ (table : JobTable) (kids : List Kid) (part : TurnPart) (result : Result Kept StoreFault)
    (decided : AreEndsRecorded table kids part result) (rise : AreKidsByNumber kids) where
  abbrev interrupted : List TurnStep
  interrupted = interrupts table kids

  parts : ((beyond : List TurnStep) × (end_steps kids decided.answers ≡ drop (length interrupted) part.steps ++ beyond))
      × ((others : List TurnStep) × (interrupted ≡ take (length interrupted) part.steps ++ others))
  parts = split interrupted (end_steps kids decided.answers) part.steps (part.next ++ decided.prefix.0)
      (decided.prefix.1 ∙ append_assoc part.steps part.next decided.prefix.0)

  pub reported_ends : AreEndsByNumber (drop (length interrupted) part.steps)
  reported_ends = prefix_of_ends kids decided.answers (drop (length interrupted) part.steps) parts.0.0 rise parts.0.1

  none_lost : (number : ℕ) → list_any (tells_end_of number) (take (length interrupted) part.steps) ≡ false
  none_lost number = list_any_none (tells_end_of number) (take (length interrupted) part.steps)
      (each_all (λ step. tells_end_of number step ≡ false) (take (length interrupted) part.steps) (λ step has.
      no_end (filter (is_job_without_kid kids) (live_rows table)) number step
      (subst (λ (l : List TurnStep). Has l step) (sym parts.1.1) (has_left (take (length interrupted) part.steps) parts.1.0 step has))))

  ends_alike : (number : ℕ) → list_any (tells_end_of number) (drop (length interrupted) part.steps)
      ≡ list_any (tells_end_of number) part.steps
  ends_alike number =
      ap (λ b. b || list_any (tells_end_of number) (drop (length interrupted) part.steps)) (sym (none_lost number))
      ∙ sym (list_any-append (tells_end_of number) (take (length interrupted) part.steps) (drop (length interrupted) part.steps))
      ∙ ap (list_any (tells_end_of number)) (take-append-drop (length interrupted) part.steps)

  pub reported_without : (all : List Kid) → without_ended (drop (length interrupted) part.steps) all ≡ without_ended part.steps all
  reported_without all =
      filter_alike (λ (kid : Kid). not (list_any (tells_end_of kid.number) (drop (length interrupted) part.steps)))
      (λ (kid : Kid). not (list_any (tells_end_of kid.number) part.steps)) all
      (λ kid has. ap not (ends_alike kid.number))

-- The slice of the steps that were written down after those that give jobs up.

drop_past : (count : ℕ) (steps : List TurnStep) → length steps ≤ count → drop count steps ≡ []
drop_past zero [] past = refl
drop_past (suc count) [] past = refl
drop_past zero (step ∷ steps) past = absurd (omega arith)
drop_past (suc count) (step ∷ steps) past = drop_past count steps (omega arith)

drop_least : (count : ℕ) (steps : List TurnStep) → drop (min count (length steps)) steps ≡ drop count steps
drop_least count steps = elim (cases_lt count (length steps)) [
  | inl below ↦ ap (λ (n : ℕ). drop n steps) (let is : min count (length steps) ≡ count = omega arith in is)
  | inr past ↦ ap (λ (n : ℕ). drop n steps) (let is : min count (length steps) ≡ length steps = omega arith in is)
      ∙ drop_past (length steps) steps (omega arith) ∙ sym (drop_past count steps past)
]

pub reported_slice : (interrupted all steps reported : List TurnStep) (first counted : ℕ) → interrupted ≡ all → reported ≡ steps
    → first ≡ min (length interrupted) counted → counted ≡ length reported →
    take (length reported - first) (drop first reported) ≡ drop (length all) steps
reported_slice interrupted all steps reported first counted lost_is same is count =
    take_rest reported first
    ∙ ap (λ (n : ℕ). drop n reported) (is ∙ ap (min (length interrupted)) count)
    ∙ drop_least (length interrupted) reported
    ∙ ap (λ (l : List TurnStep). drop (length l) reported) lost_is
    ∙ ap (drop (length all)) same

-- What is known once all have answered.

-- what is kept is current still
pub now_current : {E : Type 0} (tells : Bool) (before first : Session) (old given_up middle : World) (kept now : Kept)
    (interrupted : List TurnStep) (kids : List Kid) (was between : List TurnStep) (told : Vec TurnStep Global) →
    (tells ≡ true → (table : JobTable) × IsCurrent kept old.now.directory table)
    → MakesAll tells before first old given_up kept interrupted was between (Ok now) →
    AsksAll {E = E} tells kids given_up middle (Ok told) → tells ≡ true → (table : JobTable) × IsCurrent now middle.now.directory table
now_current tells before first old given_up middle kept now _ kids was between told current makes asks is =
    let table : JobTable = (current is).0 in
    (_, (asks.asked is now _ (makes.goes.files is table (current is).1).ends.current).current)
