-- Jobs that are started one after another.
use Rattle.std.proofs.Common.{◌≡◌, ◌≤◌, ◌<◌, ◌+◌, ◌++◌, ℕ, ℤ, Bool, true, false, List, [], ◌∷◌, append_assoc, append-nil, add-one, drop, get_or, length, length-append, map, take, sym, ap, subst, ◌∙◌, refl, arith, inl, inr}
use Rattle.std.specs.Prelude.{IfOk, IsErrAnd, Some, None, Result, Ok, Err}
use Rattle.std.proofs.Math.Seq.{take-length, take-suc}
use Rattle.std.proofs.lemmas.List.{drop_more, map-append, take-append-drop}
use Rattle.host_calls.specs.declared.child.Child.{Child}
use Rattle.host_calls.specs.declared.child.Ending.TheVariants.{NotStarted}
use Rattle.host_calls.specs.Session.{IsInside, Session}
use Rattle.host_calls.specs.World.{World}
use Rattle.spool_model.specs.declared.step.Step.TheVariants.{Start}
use Rattle.spool_model.specs.JobTable.{IsPending, IsRunning, JobTable}
use Rattle.spool_model.specs.Steps.{IsLegal, after_step, after_steps}
use Rattle.step_runs.specs.Current.{IsCurrent, Kept}
use Rattle.host_calls.specs.declared.store_fault.StoreFault.{StoreFault}
use Rattle.host_calls.specs.declared.store_fault.StoreFault.TheVariants.{Memory}
use Rattle.spool_store.specs.StepSequences.{MayMakeSteps}
use Rattle.spool_store.specs.OneStep.{MayStep}
use Rattle.spool_shows.proofs.Membership.{Has}
use Rattle.daemon_turn.specs.declared.kid.Kid.{Kid}
use Rattle.spool_model.specs.declared.turn_step.TurnStep.{TurnStep}
use Rattle.spool_model.specs.declared.turn_step.TurnStep.TheVariants.{HandedOver, Ended}
use Rattle.daemon_turn.specs.StartOrder.{start_steps, steps_of_starts}
use Rattle.spool_model.specs.StepsOf.{number_of_step, steps_of_turn}
use Rattle.daemon_turn.specs.inside.TurnParts.{StartsPart, MakesPart, TurnPart, joined_parts, quiet_part}
use Rattle.daemon_turn.specs.inside.StartedJob.{HandsJobOver}
use Rattle.daemon_turn.specs.inside.StartedJobs.{Launches}
use Rattle.daemon_turn.specs.inside.MadeSteps.{MakesAll}
use Rattle.daemon_turn.specs.inside.PendingNumbers.{ArePendingNumbers, started_of}
use Rattle.step_runs.proofs.ApartLemmas.{Apart, all_each, apart_differ, differ_apart, each_all}
use Rattle.host_calls.proofs.SessionLemmas.{stays_inside}
use Rattle.step_runs.proofs.MadeLemmas.{no_steps_are_made}
use Rattle.daemon_turn.proofs.GoLemmas.{asked_part, goes_none, goes_then, handed_part, hands_go, memory_goes, no_part}
use Rattle.daemon_turn.proofs.HandLemmas.{started_entry}
use Rattle.daemon_turn.proofs.WaitLemmas.{waiting_after}

-- One start.

-- the job runs once its start took effect
pub started_runs : (table after : JobTable) (number : ℕ) (second : ℤ) → IsLegal table (Start number second)
    → after ≡ after_step table (Start number second) → IsRunning after number
started_runs table after number second legal is =
    (legal.0, second, started_entry table after number second legal is)

pub may_end : (tells : Bool) (before between : Session) (old middle : World) (kept store : Kept) (number : ℕ) (second : ℤ)
    → IsLegal kept.table (Start number second) →
    (tells ≡ true → (table : JobTable) × IsCurrent kept old.now.directory table)
    → HandsJobOver tells before between old middle kept number second (Ok (store, None)) →
    MayMakeSteps tells between middle store (steps_of_turn (Ended number NotStarted ∷ []))
may_end tells before between old middle kept store number second legal current hands = record {
  inside = hands.inside;
  legal = (started_runs kept.table store.table number second legal hands.table_is, tt);
  changes = (tt, tt);
  current = λ known. (let first : (table : JobTable) × IsCurrent kept old.now.directory table = current known in
      (after_step first.0 (Start number second), (hands.files known first.0 first.1).made.current));
}

module _ (tells : Bool) (before between after : Session) (old middle new : World) (kept : Kept) (number : ℕ) (second : ℤ) (kids : List Kid)
    (was : List TurnStep) where
  pub launched_not : (fault : StoreFault) (more : List Kid) (is : List TurnStep) (result : Result Kept StoreFault)
      → IsErrAnd result (λ other. other ≡ fault) → more ≡ kids → is ≡ was →
      HandsJobOver tells before between old middle kept number second (Err fault)
      → Launches tells before between old middle kept (number ∷ []) second kids more was is result
  launched_not fault more is (Ok store) err same written hands = absurd err
  launched_not fault more is (Err other) err same written hands = subst (λ (of : StoreFault).
      Launches tells before between old middle kept (number ∷ []) second kids more was is (Err of)) (sym err) (record {
        part = handed_part number second (Err fault);
        goes = hands_go tells before between old middle kept number second (Err fault) hands;
        started = record { few = omega arith; prefix = ([], refl); all = tt; numbered = refl; asked = refl };
        written = written ∙ sym (append-nil was);
        kids_are = same ∙ sym (append-nil kids);
      })

  pub launched : (store : Kept) (child : Child) (more : List Kid) (is : List TurnStep)
      → HandsJobOver tells before between old middle kept number second (Ok (store, Some child)) →
      is ≡ was ++ HandedOver number second ∷ [] → more ≡ kids ++ record { number = number; child = child } ∷ [] →
      Launches tells before between old middle kept (number ∷ []) second kids more was is (Ok store)
  launched store child more is hands written kids_are = record {
    part = handed_part number second (Ok (store, Some child));
    goes = hands_go tells before between old middle kept number second (Ok (store, Some child)) hands;
    started = record { few = omega arith; prefix = ([], refl); all = (refl, refl); numbered = refl; asked = refl };
    written = written;
    kids_are = kids_are;
  }

  -- no child came
  abbrev ended : List TurnStep
  ended = Ended number NotStarted ∷ []

  pub launched_none : (store : Kept) (more : List Kid) (written is : List TurnStep) (result : Result Kept StoreFault)
      → HandsJobOver tells before between old middle kept number second (Ok (store, None)) →
      more ≡ kids → written ≡ was ++ HandedOver number second ∷ []
      → MakesAll tells between after middle new store (Ended number NotStarted ∷ []) written is result →
      Launches tells before after old new kept (number ∷ []) second kids more was is result
  launched_none store more written is result hands same first makes = record {
    part = joined_parts (handed_part number second (Ok (store, None))) (quiet_part makes.made makes.next);
    goes = goes_then tells before between after old middle new kept store (handed_part number second (Ok (store, None)))
        (quiet_part makes.made makes.next) result
        (hands_go tells before between old middle kept number second (Ok (store, None)) hands)
        makes.goes;
    started = record {
      few = omega arith;
      prefix = (makes.prefix.0, ap (λ (l : List TurnStep). HandedOver number second ∷ l) makes.prefix.1);
      all = all result makes.all;
      numbered = refl;
      asked = refl;
    };
    written = makes.written ∙ ap (λ (l : List TurnStep). l ++ makes.made) first
        ∙ append_assoc was (HandedOver number second ∷ []) makes.made;
    kids_are = same ∙ sym (append-nil kids);
  } where
    all : (of : Result Kept StoreFault) → IfOk of (λ last. makes.made ≡ ended) →
        IfOk of (λ last. (length (false ∷ []) ≡ length (number ∷ []))
        × (HandedOver number second ∷ makes.made ≡ steps_of_starts (number ∷ []) second (false ∷ [])))
    all (Ok last) same = (refl, ap (λ (l : List TurnStep). HandedOver number second ∷ l) same)
    all (Err fault) same = tt

-- there was no memory to write the start down
pub launched_nothing : (tells : Bool) (session : Session) (world : World) (kept : Kept) (numbers : List ℕ) (second : ℤ)
    (kids more : List Kid) (was is : List TurnStep) (result : Result Kept StoreFault) →
    IsErrAnd result (λ other. other ≡ Memory) → IsInside session → more ≡ kids → is ≡ was
    → Launches tells session session world world kept numbers second kids more was is result
launched_nothing tells session world kept numbers second kids more was is (Ok store) err inside same written = absurd err
launched_nothing tells session world kept numbers second kids more was is (Err other) err inside same written = subst (λ (of : StoreFault).
    Launches tells session session world world kept numbers second kids more was is (Err of)) (sym err) (record {
      part = asked_part [];
      goes = memory_goes tells session session world world kept [] (stays_inside session inside)
          (λ known now table current. no_steps_are_made table now world current);
      started =
          record { few = omega arith; prefix = (steps_of_starts numbers second [], refl); all = tt; numbered = none numbers; asked = refl };
      written = written ∙ sym (append-nil was);
      kids_are = same ∙ sym (append-nil kids);
    }) where
      none : (all : List ℕ) → [] ≡ started_of all []
      none [] = refl
      none (number ∷ all) = refl

-- The loop.

-- the steps of starts that have all answered, and of others after them
starts_join : (first later : List ℕ) (second : ℤ) (flags more : List Bool) → length flags ≡ length first →
    steps_of_starts (first ++ later) second (flags ++ more) ≡ steps_of_starts first second flags ++ steps_of_starts later second more
starts_join [] later second [] more same = refl
starts_join [] later second (flag ∷ flags) more same = absurd (omega arith)
starts_join (number ∷ first) later second [] more same = absurd (omega arith)
starts_join (number ∷ first) later second (flag ∷ flags) more same =
    ap (λ (l : List TurnStep). start_steps number second flag ++ l) (starts_join first later second flags more (omega arith))
    ∙ sym (append_assoc (start_steps number second flag) (steps_of_starts first second flags) (steps_of_starts later second more))

started_join : (first later : List ℕ) (flags more : List Bool) → length flags ≡ length first →
    started_of (first ++ later) (flags ++ more) ≡ started_of first flags ++ started_of later more
started_join [] later [] more same = refl
started_join [] later (flag ∷ flags) more same = absurd (omega arith)
started_join (number ∷ first) later [] more same = absurd (omega arith)
started_join (number ∷ first) later (true ∷ flags) more same =
    ap (λ (l : List ℕ). number ∷ l) (started_join first later flags more (omega arith))
started_join (number ∷ first) later (false ∷ flags) more same = started_join first later flags more (omega arith)

-- what starts, and the end of one, say whose job they are
pub start_numbers : (numbers : List ℕ) (second : ℤ) (flags : List Bool) (number : ℕ)
    → Has (map number_of_step (steps_of_starts numbers second flags)) number → Has numbers number
start_numbers [] second flags number has = absurd has
start_numbers (first ∷ numbers) second [] number (inl same) = inl same
start_numbers (first ∷ numbers) second [] number (inr none) = absurd none
start_numbers (first ∷ numbers) second (true ∷ flags) number (inl same) = inl same
start_numbers (first ∷ numbers) second (true ∷ flags) number (inr has) = inr (start_numbers numbers second flags number has)
start_numbers (first ∷ numbers) second (false ∷ flags) number (inl same) = inl same
start_numbers (first ∷ numbers) second (false ∷ flags) number (inr (inl same)) = inl same
start_numbers (first ∷ numbers) second (false ∷ flags) number (inr (inr has)) = inr (start_numbers numbers second flags number has)

-- so many of the jobs were started
pub record HasLaunched (tells : Bool) (before after : Session) (old new : World) (kept now : Kept) (numbers : List ℕ)
    (count : ℕ) (second : ℤ)
    (kids more : List Kid) (was is : List TurnStep) : Type 0 where
  pub part : TurnPart
  pub goes : MakesPart tells before after old new kept part (Ok now)
  pub counted : length part.flags ≡ count
  pub steps : part.steps ≡ steps_of_starts (take count numbers) second part.flags
  pub numbered : map (λ kid. kid.number) part.added ≡ started_of (take count numbers) part.flags
  pub asked : part.questions ≡ []
  pub written : is ≡ was ++ part.steps
  pub kids_are : more ≡ kids ++ part.added
  pub waiting : ArePendingNumbers now.table (drop count numbers)

pub none_launched : (tells : Bool) (session : Session) (world : World) (kept : Kept) (numbers : List ℕ) (second : ℤ)
    (kids : List Kid) (was : List TurnStep) →
    IsInside session → ArePendingNumbers kept.table numbers
    → HasLaunched tells session session world world kept kept numbers 0 second kids kids was was
none_launched tells session world kept numbers second kids was inside waiting = record {
  part = no_part;
  goes = goes_none tells session world kept inside;
  counted = refl;
  steps = refl;
  numbered = refl;
  asked = refl;
  written = sym (append-nil was);
  kids_are = sym (append-nil kids);
  waiting = waiting;
}

module _ (tells : Bool) (before between after : Session) (old middle new : World) (kept now : Kept) (numbers : List ℕ) (count : ℕ)
    (second : ℤ) (kids more last : List Kid) (was is later : List TurnStep) (default : ℕ) (below : count < length numbers)
    (has : HasLaunched tells before between old middle kept now numbers count second kids more was is) where
  abbrev number : ℕ
  number = get_or numbers count default

  dropped : drop count numbers ≡ number ∷ drop (count + 1) numbers
  dropped = drop_more numbers count default below

  taken : take (count + 1) numbers ≡ take count numbers ++ number ∷ []
  taken = ap (λ (n : ℕ). take n numbers) (add-one count) ∙ take-suc numbers count default below

  waiting_now : ArePendingNumbers now.table (number ∷ drop (count + 1) numbers)
  waiting_now = subst (ArePendingNumbers now.table) dropped has.waiting

  pub pending_now : IsPending now.table number
  pending_now = all_each (IsPending now.table) (number ∷ drop (count + 1) numbers) waiting_now.each number (inl refl)

  pub may_start : (tells ≡ true → (table : JobTable) × IsCurrent kept old.now.directory table)
      → MayStep tells between middle now (Start number second)
  may_start current = record {
    inside = has.goes.inside;
    legal = pending_now;
    current = λ known. (let first : (table : JobTable) × IsCurrent kept old.now.directory table = current known in
        let gives : StartsPart first.0 has.part old middle (Ok now) = has.goes.files known first.0 first.1 in
        (after_steps first.0 (steps_of_turn has.part.steps), gives.ends.current));
  }

  rest_apart : Apart (number ∷ drop (count + 1) numbers)
  rest_apart = differ_apart (number ∷ drop (count + 1) numbers) waiting_now.apart

  -- those after it still wait
  rest_waits : (store : Kept) (part : TurnPart) → store.table ≡ after_steps now.table (steps_of_turn part.steps)
      → part.steps ≡ steps_of_starts (number ∷ []) second part.flags →
      ArePendingNumbers store.table (drop (count + 1) numbers)
  rest_waits store part table_is steps =
      subst (λ (table : JobTable). ArePendingNumbers table (drop (count + 1) numbers)) (sym table_is)
      (waiting_after now.table part.steps (drop (count + 1) numbers) (record {
        each = each_all (IsPending now.table) (drop (count + 1) numbers)
            (λ one here. all_each (IsPending now.table) (number ∷ drop (count + 1) numbers) waiting_now.each one (inr here));
        apart = apart_differ (drop (count + 1) numbers) rest_apart.1;
      }) (λ one here there. by_one one here (start_numbers (number ∷ []) second part.flags one
      (subst (λ (l : List TurnStep). Has (map number_of_step l) one) steps there)))) where
        by_one : (one : ℕ) → Has (drop (count + 1) numbers) one → Has (number ∷ []) one → ⊥
        by_one one here (inl same) = rest_apart.0 (subst (Has (drop (count + 1) numbers)) (sym same) here)
        by_one one here (inr none) = none

  length_taken : length has.part.flags ≡ length (take count numbers)
  length_taken = has.counted ∙ sym (counted numbers count below) where
    counted : (all : List ℕ) (n : ℕ) → n < length all → length (take n all) ≡ n
    counted [] n under = absurd (omega arith)
    counted (one ∷ all) Rattle.std.proofs.Common.zero under = refl
    counted (one ∷ all) (Rattle.std.proofs.Common.suc n) under = ap Rattle.std.proofs.Common.suc (counted all n (omega arith))

  pub one_launched : (store : Kept) → Launches tells between after middle new now (number ∷ []) second more last is later (Ok store) →
      HasLaunched tells before after old new kept store numbers (count + 1) second kids last was later
  one_launched store one = record {
    part = joined_parts has.part one.part;
    goes = goes_then tells before between after old middle new kept now has.part one.part (Ok store) has.goes one.goes;
    counted = omega (arith, length-append has.part.flags one.part.flags, has.counted, one.started.all.0);
    steps = ap (λ (l : List TurnStep). l ++ one.part.steps) has.steps
        ∙ ap (λ (l : List TurnStep). steps_of_starts (take count numbers) second has.part.flags ++ l) one.started.all.1
        ∙ sym (starts_join (take count numbers) (number ∷ []) second has.part.flags one.part.flags length_taken)
        ∙ ap (λ (l : List ℕ). steps_of_starts l second (has.part.flags ++ one.part.flags)) (sym taken);
    numbered = map-append (λ (kid : Kid). kid.number) has.part.added one.part.added
        ∙ ap (λ (l : List ℕ). l ++ map (λ (kid : Kid). kid.number) one.part.added) has.numbered
        ∙ ap (λ (l : List ℕ). started_of (take count numbers) has.part.flags ++ l) one.started.numbered
        ∙ sym (started_join (take count numbers) (number ∷ []) has.part.flags one.part.flags length_taken)
        ∙ ap (λ (l : List ℕ). started_of l (has.part.flags ++ one.part.flags)) (sym taken);
    asked = ap (λ l. l ++ one.part.questions) has.asked ∙ one.started.asked;
    written = one.written ∙ ap (λ (l : List TurnStep). l ++ one.part.steps) has.written ∙ append_assoc was has.part.steps one.part.steps;
    kids_are = one.kids_are ∙ ap (λ (l : List Kid). l ++ one.part.added) has.kids_are ∙ append_assoc kids has.part.added one.part.added;
    waiting = rest_waits store one.part one.goes.table_is one.started.all.1;
  }

  -- all numbers, by those that were started, the next and the rest
  split : numbers ≡ take count numbers ++ number ∷ drop (count + 1) numbers
  split = sym (take-append-drop count numbers) ∙ ap (λ (l : List ℕ). take count numbers ++ l) dropped

  -- the steps of the next start are a prefix of those of it and the rest
  one_prefix : (flags : List Bool) → length flags ≤ 1 → (beyond : List TurnStep)
      × (steps_of_starts (number ∷ drop (count + 1) numbers) second flags ≡ steps_of_starts (number ∷ []) second flags ++ beyond)
  one_prefix [] few = ([], refl)
  one_prefix (true ∷ []) few = (steps_of_starts (drop (count + 1) numbers) second [], refl)
  one_prefix (false ∷ []) few = (steps_of_starts (drop (count + 1) numbers) second [], refl)
  one_prefix (flag ∷ other ∷ flags) few = absurd (omega arith)

  started_one : (flags : List Bool) → length flags ≤ 1
      → started_of (number ∷ drop (count + 1) numbers) flags ≡ started_of (number ∷ []) flags
  started_one [] few = refl
  started_one (true ∷ []) few = ap (λ (l : List ℕ). number ∷ l) (nothing (drop (count + 1) numbers)) where
    nothing : (rest : List ℕ) → started_of rest [] ≡ []
    nothing [] = refl
    nothing (one ∷ rest) = refl
  started_one (false ∷ []) few = nothing (drop (count + 1) numbers) where
    nothing : (rest : List ℕ) → started_of rest [] ≡ []
    nothing [] = refl
    nothing (one ∷ rest) = refl
  started_one (flag ∷ other ∷ flags) few = absurd (omega arith)

  pub stopped_launch : (fault : StoreFault) (result : Result Kept StoreFault) → IsErrAnd result (λ other. other ≡ fault) →
      Launches tells between after middle new now (number ∷ []) second more last is later (Err fault) →
      Launches tells before after old new kept numbers second kids last was later result
  stopped_launch fault (Ok store) err one = absurd err
  stopped_launch fault (Err other) err one =
      subst (λ (of : StoreFault). Launches tells before after old new kept numbers second kids last was later (Err of)) (sym err) (
      let rest = one_prefix one.part.flags one.started.few in
      record {
        part = joined_parts has.part one.part;
        goes = goes_then tells before between after old middle new kept now has.part one.part (Err fault) has.goes one.goes;
        started = record {
          few = omega (arith, length-append has.part.flags one.part.flags, has.counted, one.started.few, below);
          prefix = (
            one.started.prefix.0 ++ rest.0,
            ap (λ (l : List ℕ). steps_of_starts l second (has.part.flags ++ one.part.flags)) split
                ∙ starts_join (take count numbers) (number ∷ drop (count + 1) numbers) second has.part.flags one.part.flags length_taken
                ∙ ap (λ (l : List TurnStep). steps_of_starts (take count numbers) second has.part.flags ++ l) (rest.1
                ∙ ap (λ (l : List TurnStep). l ++ rest.0) one.started.prefix.1)
                ∙ ap (λ (l : List TurnStep). l ++ (((one.part.steps ++ one.part.next) ++ one.started.prefix.0) ++ rest.0)) (sym has.steps)
                ∙ regroup has.part.steps one.part.steps one.part.next one.started.prefix.0 rest.0,
          );
          all = tt;
          numbered = map-append (λ (kid : Kid). kid.number) has.part.added one.part.added
              ∙ ap (λ (l : List ℕ). l ++ map (λ (kid : Kid). kid.number) one.part.added) has.numbered
              ∙ ap (λ (l : List ℕ). started_of (take count numbers) has.part.flags ++ l) (one.started.numbered
              ∙ sym (started_one one.part.flags one.started.few))
              ∙ sym (started_join (take count numbers) (number ∷ drop (count + 1) numbers) has.part.flags one.part.flags length_taken)
              ∙ ap (λ (l : List ℕ). started_of l (has.part.flags ++ one.part.flags)) (sym split);
          asked = ap (λ l. l ++ one.part.questions) has.asked ∙ one.started.asked;
        };
        written = one.written ∙ ap (λ (l : List TurnStep). l ++ one.part.steps) has.written
            ∙ append_assoc was has.part.steps one.part.steps;
        kids_are = one.kids_are ∙ ap (λ (l : List Kid). l ++ one.part.added) has.kids_are ∙ append_assoc kids has.part.added one.part.added;
      }) where
        regroup : (a b c d e : List TurnStep) → a ++ (((b ++ c) ++ d) ++ e) ≡ ((a ++ b) ++ c) ++ (d ++ e)
        regroup a b c d e = simp append_assoc

-- all jobs were started
pub all_launched : (tells : Bool) (before after : Session) (old new : World) (kept now : Kept) (numbers : List ℕ) (count : ℕ) (second : ℤ)
    (kids more : List Kid) (was is : List TurnStep) →
    count ≡ length numbers → HasLaunched tells before after old new kept now numbers count second kids more was is →
    Launches tells before after old new kept numbers second kids more was is (Ok now)
all_launched tells before after old new kept now numbers count second kids more was is whole has =
    let all : take count numbers ≡ numbers = ap (λ (n : ℕ). take n numbers) whole ∙ take-length numbers in
    let steps : has.part.steps ≡ steps_of_starts numbers second has.part.flags = has.steps
    ∙ ap (λ (l : List ℕ). steps_of_starts l second has.part.flags) all in
    let none : has.part.next ≡ [] = has.goes.whole in
    record {
      part = has.part;
      goes = has.goes;
      started = record {
        few = omega (arith, has.counted, whole);
        prefix = (
          [],
          sym (ap (λ (l : List TurnStep). (has.part.steps ++ l) ++ []) none ∙ append-nil (has.part.steps ++ [])
              ∙ append-nil has.part.steps ∙ steps),
        );
        all = (has.counted ∙ whole, steps);
        numbered = has.numbered ∙ ap (λ (l : List ℕ). started_of l has.part.flags) all;
        asked = has.asked;
      };
      written = has.written;
      kids_are = has.kids_are;
    }

-- the second as it is written
pub launches_at : (tells : Bool) (before after : Session) (old new : World) (kept : Kept) (numbers : List ℕ) (written second : ℤ)
    (kids more : List Kid) (was is : List TurnStep) (result : Result Kept StoreFault) →
    written ≡ second → Launches tells before after old new kept numbers written kids more was is result
    → Launches tells before after old new kept numbers second kids more was is result
launches_at tells before after old new kept numbers written second kids more was is result same launches =
    subst (λ (of : ℤ). Launches tells before after old new kept numbers of kids more was is result) same launches

pub report_at : (was before is : List TurnStep) (number : ℕ) (written second : ℤ) → written ≡ second → before ≡ was
    → is ≡ before ++ HandedOver number written ∷ [] → is ≡ was ++ HandedOver number second ∷ []
report_at was before is number written second same kept pushed =
    pushed ∙ ap (λ (of : ℤ). before ++ HandedOver number of ∷ []) same ∙ ap (λ (l : List TurnStep). l ++ HandedOver number second ∷ []) kept
