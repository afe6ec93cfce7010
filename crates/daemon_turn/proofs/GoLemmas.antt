-- Parts of a turn, one after another.
use Rattle.std.proofs.Common.{◌≡◌, ◌++◌, ℕ, ℤ, Bool, true, false, List, [], ◌∷◌, append_assoc, append-nil, filter, map, sym, ap, subst, ◌∙◌, refl, arith}
use Rattle.std.specs.Prelude.{IfOk, Option, Some, None, Result, Ok, Err, is_some, option_to_list}
use Rattle.std.proofs.lemmas.List.{map-append}
use Rattle.std.proofs.lemmas.List.Elements.{filter-append}
use Rattle.host_calls.specs.declared.child.Asked.{Asked}
use Rattle.host_calls.specs.declared.child.Child.{Child}
use Rattle.host_calls.specs.declared.child.Handed.{Handed}
use Rattle.host_calls.specs.Session.{IsInside, Session, StaysInside}
use Rattle.host_calls.specs.World.{World}
use Rattle.spool_model.specs.declared.step.Step.{Step}
use Rattle.spool_model.specs.JobTable.{JobTable}
use Rattle.spool_model.specs.Steps.{after_steps}
use Rattle.step_runs.specs.Current.{IsCurrent, Kept}
use Rattle.step_runs.specs.Made.{AreMade, AreStopped, IsStarted, flags_of}
use Rattle.step_runs.proofs.HandsLemmas.{steps_then}
use Rattle.step_runs.proofs.MadeLemmas.{made_steps_are_stopped, no_steps_are_made, steps_are_made_after, steps_are_stopped_after}
use Rattle.host_calls.specs.declared.store_fault.StoreFault.{StoreFault}
use Rattle.host_calls.specs.declared.store_fault.StoreFault.TheVariants.{FileFault, Memory}
use Rattle.daemon_turn.specs.declared.kid.Kid.{Kid}
use Rattle.spool_model.specs.declared.turn_step.TurnStep.{TurnStep}
use Rattle.spool_model.specs.declared.turn_step.TurnStep.TheVariants.{HandedOver}
use Rattle.daemon_turn.specs.Kids.{started_numbers}
use Rattle.spool_model.specs.StepsOf.{step_of, steps_of_turn}
use Rattle.daemon_turn.specs.inside.TurnParts.{StartsPart, MakesPart, TurnPart, TurnPartEnds, joined_parts}
use Rattle.daemon_turn.specs.inside.StartedJob.{HandsJobOver}
use Rattle.host_calls.proofs.SessionLemmas.{counts_on, no_counts}
use Rattle.daemon_turn.proofs.HandLemmas.{no_fault, not_memory}

-- no part
abbrev pub no_part : TurnPart
no_part = record { steps = []; next = []; questions = []; flags = []; added = [] }

pub goes_none : (tells : Bool) (session : Session) (world : World) (kept : Kept) → IsInside session
    → MakesPart tells session session world world kept no_part (Ok kept)
goes_none tells session world kept inside = record {
  inside = inside;
  counts = no_counts session;
  cause = record { later = omega arith; rose = λ bad. absurd (no_fault kept FileFault bad) };
  faults = tt;
  children = sym (append-nil session.children);
  table_is = refl;
  whole = refl;
  files = λ known table current. record { given = []; flagged = refl; numbered = refl; ends = no_steps_are_made table kept world current };
}

-- the steps of two parts
pub steps_join : (first later : List TurnStep) → steps_of_turn (first ++ later) ≡ steps_of_turn first ++ steps_of_turn later
steps_join first later = map-append step_of first later

pub after_join : (table : JobTable) (first later : List TurnStep)
    → after_steps table (steps_of_turn (first ++ later)) ≡ after_steps (after_steps table (steps_of_turn first)) (steps_of_turn later)
after_join table first later = ap (after_steps table) (steps_join first later)
    ∙ steps_then table (steps_of_turn first) (steps_of_turn later)

started_join : (given more : List Handed) → started_numbers (given ++ more) ≡ started_numbers given ++ started_numbers more
started_join given more =
    ap (map (λ (handed : Handed). handed.number)) (filter-append (λ (handed : Handed). handed.started) given more)
    ∙ map-append (λ (handed : Handed). handed.number) (filter (λ (handed : Handed). handed.started) given)
    (filter (λ (handed : Handed). handed.started) more)

table_then : (kept middle : Kept) (first later : List TurnStep) (result : Result Kept StoreFault)
    → middle.table ≡ after_steps kept.table (steps_of_turn first) →
    IfOk result (λ store. store.table ≡ after_steps middle.table (steps_of_turn later))
    → IfOk result (λ store. store.table ≡ after_steps kept.table (steps_of_turn (first ++ later)))
table_then kept middle first later (Ok store) before beyond = beyond
    ∙ ap (λ (table : JobTable). after_steps table (steps_of_turn later)) before ∙ sym (after_join kept.table first later)
table_then kept middle first later (Err fault) before beyond = tt

ends_then : (table : JobTable) (first later : TurnPart) (given more : List Handed) (middle : Kept) (start between end : World)
    (result : Result Kept StoreFault) →
    TurnPartEnds table first given start between (Ok middle)
    → TurnPartEnds (after_steps table (steps_of_turn first.steps)) later more between end result →
    TurnPartEnds table (joined_parts first later) (given ++ more) start end result
ends_then table first later given more middle start between end (Ok kept) before beyond =
    subst (λ (steps : List Step). AreMade table steps (given ++ more) (first.questions ++ later.questions) kept start end)
    (sym (steps_join first.steps later.steps))
    (steps_are_made_after table (steps_of_turn first.steps) (steps_of_turn later.steps) given more first.questions later.questions middle
    kept start between end before beyond)
ends_then table first later given more middle start between end (Err fault) before beyond =
    subst (λ (steps : List Step). AreStopped table steps (steps_of_turn later.next) (given ++ more) (first.questions ++ later.questions)
    start end) (sym (steps_join first.steps later.steps))
    (steps_are_stopped_after table (steps_of_turn first.steps) (steps_of_turn later.steps) (steps_of_turn later.next) given more
    first.questions later.questions middle start between end before beyond)

-- one part after another, which was made
pub goes_then : (tells : Bool) (before between after : Session) (start middle end : World) (kept now : Kept) (first later : TurnPart)
    (result : Result Kept StoreFault) →
    MakesPart tells before between start middle kept first (Ok now) → MakesPart tells between after middle end now later result →
    MakesPart tells before after start end kept (joined_parts first later) result
goes_then tells before between after start middle end kept now first later result one other = record {
  inside = other.inside;
  counts = counts_on before between after one.counts other.counts;
  cause = record {
    later = omega (arith, one.counts.file_faults, other.counts.file_faults);
    rose = λ bad. omega (arith, one.counts.file_faults, other.cause.rose bad);
  };
  faults = other.faults;
  children = other.children ∙ ap (λ (l : List Child). l ++ map (λ (kid : Kid). kid.child) later.added) one.children
      ∙ append_assoc before.children (map (λ (kid : Kid). kid.child) first.added) (map (λ (kid : Kid). kid.child) later.added)
      ∙ ap (λ (l : List Child). before.children ++ l) (sym (map-append (λ (kid : Kid). kid.child) first.added later.added));
  table_is = table_then kept now first.steps later.steps result one.table_is other.table_is;
  whole = other.whole;
  files = λ known table current.
      let was : StartsPart table first start middle (Ok now) = one.files known table current in
      let made : AreMade table (steps_of_turn first.steps) was.given first.questions now start middle = was.ends in
      let is : StartsPart (after_steps table (steps_of_turn first.steps)) later middle end result =
      other.files known (after_steps table (steps_of_turn first.steps)) made.current in
      record {
        given = was.given ++ is.given;
        flagged = map-append (λ (handed : Handed). handed.started) was.given is.given
            ∙ ap (λ (l : List Bool). l ++ flags_of is.given) was.flagged ∙ ap (λ (l : List Bool). first.flags ++ l) is.flagged;
        numbered = started_join was.given is.given ∙ ap (λ (l : List ℕ). l ++ started_numbers is.given) was.numbered
            ∙ ap (λ (l : List ℕ). map (λ (kid : Kid). kid.number) first.added ++ l) is.numbered
            ∙ sym (map-append (λ (kid : Kid). kid.number) first.added later.added);
        ends = ends_then table first later was.given is.given now start middle end result was.ends is.ends;
      };
}

-- Questions.

abbrev pub asked_part : List Asked → TurnPart
asked_part questions = record { steps = []; next = []; questions = questions; flags = []; added = [] }

pub asks_go : (tells : Bool) (before after : Session) (old new : World) (kept : Kept) (questions : List Asked) → StaysInside before after →
    (tells ≡ true → (now : Kept) (table : JobTable) → IsCurrent now old.now.directory table → AreMade table [] [] questions now old new) →
    MakesPart tells before after old new kept (asked_part questions) (Ok kept)
asks_go tells before after old new kept questions stays asked = record {
  inside = stays.inside;
  counts = stays.counts;
  cause = record { later = stays.counts.file_faults; rose = λ bad. absurd (no_fault kept FileFault bad) };
  faults = tt;
  children = stays.children ∙ sym (append-nil before.children);
  table_is = refl;
  whole = refl;
  files = λ known table current. record { given = []; flagged = refl; numbered = refl; ends = asked known kept table current };
}

-- where memory runs out
pub memory_goes : (tells : Bool) (before after : Session) (old new : World) (kept : Kept) (questions : List Asked)
    → StaysInside before after →
    (tells ≡ true → (now : Kept) (table : JobTable) → IsCurrent now old.now.directory table → AreMade table [] [] questions now old new) →
    MakesPart tells before after old new kept (asked_part questions) (Err Memory)
memory_goes tells before after old new kept questions stays asked = record {
  inside = stays.inside;
  counts = stays.counts;
  cause = record { later = stays.counts.file_faults; rose = λ bad. absurd (not_memory bad) };
  faults = tt;
  children = stays.children ∙ sym (append-nil before.children);
  table_is = tt;
  whole = tt;
  files = λ known table current. record {
    given = [];
    flagged = refl;
    numbered = refl;
    ends = made_steps_are_stopped table [] [] questions kept old new (asked known kept table current);
  };
}

-- A start.

abbrev pub kept_by : Result (Kept × Option Child) StoreFault → Result Kept StoreFault
kept_by (Ok started) = Ok started.0
kept_by (Err fault) = Err fault

-- the child of a start of which a child came
abbrev pub kid_of : ℕ → Option Child → List Kid
kid_of number None = []
kid_of number (Some child) = record { number = number; child = child } ∷ []

abbrev pub handed_part : ℕ → ℤ → Result (Kept × Option Child) StoreFault → TurnPart
handed_part number second (Ok started) =
    record {
      steps = HandedOver number second ∷ [];
      next = [];
      questions = [];
      flags = is_some started.1 ∷ [];
      added = kid_of number started.1;
    }
handed_part number second (Err fault) = record { steps = []; next = HandedOver number second ∷ []; questions = []; flags = []; added = [] }

child_of : (number : ℕ) (child : Option Child) → option_to_list child ≡ map (λ (kid : Kid). kid.child) (kid_of number child)
child_of number None = refl
child_of number (Some child) = refl

number_kept : (number : ℕ) (child : Option Child) (handed : Handed) → handed.number ≡ number → handed.started ≡ is_some child →
    started_numbers (handed ∷ []) ≡ map (λ (kid : Kid). kid.number) (kid_of number child)
number_kept number None handed same flag = by_flag handed.started flag where
  by_flag : (b : Bool) → b ≡ false → map (λ (one : Handed). one.number) (Rattle.std.proofs.Common.cond b (handed ∷ []) []) ≡ []
  by_flag true is = let impossible : true ≡ false = is in cc
  by_flag false is = refl
number_kept number (Some child) handed same flag = by_flag handed.started flag where
  by_flag : (b : Bool) → b ≡ true → map (λ (one : Handed). one.number) (Rattle.std.proofs.Common.cond b (handed ∷ []) []) ≡ number ∷ []
  by_flag true is = ap (λ (n : ℕ). n ∷ []) same
  by_flag false is = let impossible : false ≡ true = is in cc

first_flag : (handed : Handed) (flag : Bool) → flags_of (handed ∷ []) ≡ flag ∷ [] → handed.started ≡ flag
first_flag handed flag is = cc

pub hands_go : (tells : Bool) (before after : Session) (old new : World) (kept : Kept) (number : ℕ) (second : ℤ)
    (result : Result (Kept × Option Child) StoreFault) →
    HandsJobOver tells before after old new kept number second result
    → MakesPart tells before after old new kept (handed_part number second result) (kept_by result)
hands_go tells before after old new kept number second (Ok started) hands = record {
  inside = hands.inside;
  counts = hands.counts;
  cause = record { later = hands.cause.later; rose = λ bad. absurd (no_fault started.0 FileFault bad) };
  faults = tt;
  children = hands.children ∙ ap (λ (l : List Child). before.children ++ l) (child_of number started.1);
  table_is = hands.table_is;
  whole = refl;
  files = λ known table current.
      let start : IsStarted table number second (is_some started.1) started.0 old new = hands.files known table current in
      record {
        given = start.handed ∷ [];
        flagged = start.flagged;
        numbered = number_kept number started.1 start.handed start.is.number_is (first_flag start.handed (is_some started.1) start.flagged);
        ends = start.made;
      };
}
hands_go tells before after old new kept number second (Err fault) hands = record {
  inside = hands.inside;
  counts = hands.counts;
  cause = record { later = hands.cause.later; rose = λ bad. hands.cause.rose (ap (λ (of : StoreFault). Err of) (same_fault fault bad)) };
  faults = hands.faults;
  children = hands.children;
  table_is = tt;
  whole = tt;
  files = λ known table current. record { given = []; flagged = refl; numbered = refl; ends = hands.files known table current };
} where
  same_fault : (one : StoreFault) → ◌≡◌ {A = Result Kept StoreFault} (Err one) (Err FileFault) → one ≡ FileFault
  same_fault one is = cc
