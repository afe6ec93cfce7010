-- The work of a turn: a recovery, and the steps of the turn.
use Rattle.std.proofs.Common.{◌≡◌, ◌++◌, ℕ, Bool, true, not, cond, List, [], ◌∷◌, append-nil, filter, map, sym, ap, subst, ◌∙◌, refl, arith, inl, inr}
use Rattle.std.specs.Prelude.{All, Contains, IfOk, IfSome, IfNone, IsErrAnd, IsPermutation, Option, Some, None, Result, Ok, Err}
use Rattle.std.specs.List.{list_any}
use Rattle.std.proofs.lemmas.List.{length-map}
use Rattle.std.proofs.lemmas.List.Elements.{All-contains}
use Rattle.std.proofs.lemmas.List.Sorted.{All-permutation, IsPermutation-refl}
use Rattle.host_calls.specs.declared.child.Child.{Child}
use Rattle.host_calls.specs.declared.child.Ending.{Ending}
use Rattle.host_calls.specs.declared.child.Handed.{Handed}
use Rattle.host_calls.specs.declared.damage.Damage.{Damage}
use Rattle.host_calls.specs.Damages.{IfDamaged}
use Rattle.host_calls.specs.Session.{CallsInside, Session, StaysInside}
use Rattle.host_calls.specs.World.{World, reading}
use Rattle.spool_model.specs.JobTable.{JobTable}
use Rattle.spool_model.specs.Steps.{after_steps}
use Rattle.spool_shows.specs.Shown.{Shows, shown_by}
use Rattle.spool_shows.proofs.Membership.{Has, contained, filtered_has, has_contained}
use Rattle.whole_file.specs.Others.{ChangesFiles}
use Rattle.step_runs.specs.Attempts.{IsBegun}
use Rattle.step_runs.specs.WithoutScripts.{without_scripts}
use Rattle.step_runs.specs.Calls.{ShowsAsBefore}
use Rattle.step_runs.specs.Current.{Kept}
use Rattle.step_runs.specs.Made.{AreMade, AreStopped, HandsPrefixes, flags_of}
use Rattle.step_runs.proofs.AttemptLemmas.{recoveries_begin_nothing}
use Rattle.step_runs.proofs.MadeLemmas.{prefixes_changed, prefixes_then, made_steps_are_achieved, no_steps_are_made, stopped_steps_are_begun}
use Rattle.host_calls.specs.declared.store_fault.StoreFault.{StoreFault}
use Rattle.host_calls.specs.declared.store_fault.StoreFault.TheVariants as fault
use Rattle.host_calls.specs.StoreFaults.{IsReadingFault, IsOfStep}
use Rattle.spool_store.specs.Recovery.{IsRecovered, Recovered, ShowsTheSame}
use Rattle.daemon_turn.specs.declared.kid.Kid.{Kid}
use Rattle.spool_model.specs.declared.turn_step.TurnStep.{TurnStep}
use Rattle.daemon_turn.specs.Decisions.{asked_kids, is_running_entry, questions, runs_in}
use Rattle.daemon_turn.specs.Kids.{AreKidsByNumber, AreChildren, AreKidsAfter, KeepsChildren, kept_kids, tells_end_of}
use Rattle.daemon_turn.specs.TurnOutcome.{TurnHandsOver, IsTurnIdle, IsTurnStopped, IsTurnDone, DaemonAt, TurnLeaves}
use Rattle.daemon_turn.specs.StartOrder.{Turn}
use Rattle.spool_model.specs.StepsOf.{steps_of_turn}
use Rattle.daemon_turn.specs.inside.Decisions.{MayDecide}
use Rattle.daemon_turn.specs.inside.Ended.{without_ended}
use Rattle.daemon_turn.specs.inside.TurnParts.{StartsPart, MakesPart, TurnPart}
use Rattle.daemon_turn.specs.inside.Turned.{MakesTurn}
use Rattle.host_calls.specs.SessionEnds.{end_after}
use Rattle.daemon_turn.specs.inside.TurnWork.{TurnsOn, TurnWorks, unit_of}
use Rattle.step_runs.proofs.ApartLemmas.{all_each, each_all, rise_filter}
use Rattle.daemon_turn.proofs.AskLemmas.{questions_of_none}
use Rattle.daemon_turn.proofs.WithoutScriptsTurns.{asked_alike, first_alike, kids_after_alike, turn_alike}
use Rattle.daemon_turn.proofs.DecisionLemmas.{asked_run}
use Rattle.daemon_turn.proofs.GoLemmas.{asked_part, memory_goes, steps_join}
use Rattle.host_calls.proofs.SessionLemmas.{counts_on, stays_inside}
use Rattle.daemon_turn.proofs.KidLemmas.{kids_stay}

-- The children whose jobs run.

all_kept : (test : Kid → Bool) (kids : List Kid) → ((kid : Kid) → Has kids kid → test kid ≡ true) → filter test kids ≡ kids
all_kept test [] each = refl
all_kept test (kid ∷ kids) each =
    ap (λ b. cond b (kid ∷ filter test kids) (filter test kids)) (each kid (inl refl))
    ∙ ap (λ (l : List Kid). kid ∷ l) (all_kept test kids (λ other has. each other (inr has)))

-- children whose jobs all run are all asked
pub asked_itself : (table : JobTable) (kids : List Kid) → All (λ kid. runs_in table kid ≡ true) kids → kids ≡ asked_kids table kids
asked_itself table kids run = sym (all_kept (runs_in table) kids (all_each (λ kid. runs_in table kid ≡ true) kids run))

-- The children after a recovery may be asked.
pub may_decide : (tells : Bool) (before after : Session) (old new : World) (kept : Kept) (kids left : List Kid)
    → left ≡ asked_kids kept.table kids → AreKidsByNumber kids → AreChildren before.children kids →
    StaysInside before after → (tells ≡ true → IsRecovered old.now.directory new.now.directory kept) → MayDecide tells after new kept left
may_decide tells before after old new kept kids left is ordered children stays recovered =
    subst (MayDecide tells after new kept) (sym is) (record {
      go = record { inside = stays.inside; current = λ known. ((recovered known).table, (recovered known).current) };
      run = each_all (λ kid. runs_in kept.table kid ≡ true) (asked_kids kept.table kids) (asked_run kept.table kids);
      ordered = rise_filter (λ (kid : Kid). kid.number) (runs_in kept.table) kids ordered;
      children = record {
        each = λ kid has. subst (λ (l : List Child). Contains l kid.child) (sym stays.children)
            (children.each kid
            (contained kids kid (filtered_has (runs_in kept.table) kids kid (has_contained (asked_kids kept.table kids) kid has)).0));
      };
    })

-- No memory for the plan of a turn.
without_none : (kids : List Kid) → without_ended [] kids ≡ kids
without_none kids = all_kept (λ kid. not (list_any (tells_end_of kid.number) [])) kids (λ kid has. refl)

pub unplanned : (tells : Bool) (session : Session) (world : World) (kept : Kept) (turn : Turn) (kids : List Kid) (was : List TurnStep)
    (result : Result (Unit {0}) StoreFault) →
    IsErrAnd result (λ other. other ≡ fault.Memory) → MayDecide tells session world kept kids → was ≡ []
    → kids ≡ asked_kids kept.table turn.kids →
    TurnsOn tells session session world world kept turn kids was result
unplanned tells session world kept turn kids was (Ok done) err may none are = absurd err
unplanned tells session world kept turn kids was (Err other) err may none are = record {
  outcome = Err fault.Memory;
  same = ap (λ (of : StoreFault). Err of) err;
  part = asked_part [];
  goes = memory_goes tells session session world world kept [] (stays_inside session may.go.inside)
      (λ known now table current. no_steps_are_made table now world current);
  answers = [];
  are = inl
      (record { few = omega arith; none = refl; prefix = (Rattle.daemon_turn.specs.Decisions.decisions kept.table turn.kids [], refl) });
  asked = sym (questions_of_none (asked_kids kept.table turn.kids));
  written = none;
  kids = record {
    same = subst (IsPermutation (kept_kids kept.table [] turn.kids ++ []))
        (append-nil (kept_kids kept.table [] turn.kids) ∙ sym (kids_stay kept.table [] [] turn.kids (λ kid runs. refl))
        ∙ without_none (asked_kids kept.table turn.kids) ∙ sym are)
        (IsPermutation-refl (kept_kids kept.table [] turn.kids ++ []));
    ordered = may.ordered;
  };
  children = may.children;
}

-- The steps were made, and the children brought into order.
pub ordered_kids : (tells : Bool) (before after : Session) (old new : World) (kept : Kept) (turn : Turn) (left sorted : List Kid)
    (report : List TurnStep) (outcome : Result Kept StoreFault) (result : Result (Unit {0}) StoreFault) →
    result ≡ unit_of outcome → MakesTurn tells before after old new kept turn left report outcome → IsPermutation left sorted
    → AreKidsByNumber sorted →
    TurnsOn tells before after old new kept turn sorted report result
ordered_kids tells before after old new kept turn left sorted report outcome result same makes moved ordered = record {
  outcome = outcome;
  same = same;
  part = makes.part;
  goes = makes.goes;
  answers = makes.answers;
  are = makes.are;
  asked = makes.asked;
  written = makes.written;
  kids = record { same = subst (λ (l : List Kid). IsPermutation l sorted) makes.kids moved; ordered = ordered };
  children = record {
    each = λ kid has.
        All-contains (λ (one : Kid). Contains after.children one.child) sorted kid
        (All-permutation (λ (one : Kid). Contains after.children one.child) left sorted moved
        (each_all (λ (one : Kid). Contains after.children one.child) left
        (λ one there. makes.children.each one (contained left one there)))) has;
  };
}

-- A recovery that failed.

abbrev standing : Session → World → List Kid → ℕ → ℕ → DaemonAt
standing session world kids limit interval =
    record { session = session; world = world; daemon = record { kids = kids; limit = limit; interval = interval } }

no_children : (session : Session) → KeepsChildren session.children session.children
no_children session = ([], sym (append-nil session.children))

module _ (tells : Bool) (turn : Turn) (before after : Session) (old new : World) (kids : List Kid) (limit interval : ℕ)
    (was : List TurnStep) (none : was ≡ []) (changes : tells ≡ true → ChangesFiles (ShowsAsBefore old.now.directory) old new) where
  idle : tells ≡ true → ShowsTheSame old.now.directory new.now.directory
      → IsTurnIdle was (standing before old kids limit interval) (standing after new kids limit interval)
  idle known shown = record {
    none = record { none = none; kids = refl };
    unbegun = recoveries_begin_nothing old new (changes known);
    shown = shown;
    asked = (changes known).asked;
  }

  leaves_by : (of : StoreFault) → IsReadingFault of → (tells ≡ true → Recovered old.now.directory new.now.directory (Err of)) →
      (tells ≡ true → IfDamaged {T = Kept} fault.Damaged (λ damage. reading new ≡ reading old) (Err of)) → tells ≡ true →
      TurnLeaves turn was (standing before old kids limit interval) (standing after new kids limit interval) (end_after (Err of))
  leaves_by fault.FileFault reads recovered untouched known = inl (idle known (recovered known))
  leaves_by fault.Memory reads recovered untouched known = inl (idle known (recovered known))
  leaves_by (fault.Damaged damage) reads recovered untouched known =
      (idle known (ap shown_by (untouched known damage refl)), recovered known, untouched known damage refl)
  leaves_by _ reads recovered untouched known = absurd reads

  pub unrecovered : (of : StoreFault) (result : Result (Unit {0}) StoreFault) → IsErrAnd result (λ other. other ≡ of)
      → CallsInside {T = Kept} fault.FileFault before after (Err of) → IsReadingFault of →
      (tells ≡ true → Recovered old.now.directory new.now.directory (Err of))
      → (tells ≡ true → IfDamaged {T = Kept} fault.Damaged (λ damage. reading new ≡ reading old) (Err of)) →
      AreChildren before.children kids → AreKidsByNumber kids →
      TurnWorks tells turn (standing before old kids limit interval) (standing after new kids limit interval) was result
  unrecovered of (Ok done) err inside reads recovered untouched children ordered = absurd err
  unrecovered of (Err other) err inside reads recovered untouched children ordered =
      subst (λ (same : StoreFault). TurnWorks tells turn (standing before old kids limit interval) (standing after new kids limit interval)
      was (Err same)) (sym err) (record {
        inside = inside.stays.inside;
        counts = inside.stays.counts;
        kept = ([], inside.stays.children ∙ sym (append-nil before.children));
        cause =
            record { later = inside.cause.later; rose = λ bad. inside.cause.rose (ap (λ (same : StoreFault). Err same) (same_fault bad)) };
        faults = reads;
        children = subst (λ (l : List Child). AreChildren l kids) (sym inside.stays.children) children;
        ordered = ordered;
        unread = λ damage is. record { none = none; kids = refl };
        leaves = leaves_by of reads recovered untouched;
      }) where
        same_fault : ◌≡◌ {A = Result (Unit {0}) StoreFault} (Err of) (Err fault.FileFault) → of ≡ fault.FileFault
        same_fault bad = cc

-- The steps after a recovery.

step_reads : (of : StoreFault) → IsOfStep of → IsReadingFault of
step_reads fault.FileFault is = tt
step_reads fault.Memory is = tt
step_reads _ is = absurd is

module _ (tells : Bool) (turn : Turn) (before between after : Session) (old middle new : World) (kept : Kept) (left : List Kid)
    (limit interval : ℕ) (report : List TurnStep) (stays : CallsInside {T = Kept} fault.FileFault before between (Ok kept))
    (changes : tells ≡ true → ChangesFiles (ShowsAsBefore old.now.directory) old middle) (recovered : tells ≡ true
    → IsRecovered old.now.directory middle.now.directory kept) where
  abbrev at_first : DaemonAt
  at_first = standing before old turn.kids limit interval

  abbrev at_last : DaemonAt
  at_last = standing after new left limit interval

  module _ (known : tells ≡ true) (part : TurnPart) (answers : List (Option Ending))
      (asked : part.questions ≡ questions (asked_kids kept.table turn.kids) answers) (written : report ≡ part.steps)
      (kids : AreKidsAfter kept.table part.steps turn.kids part.added left)
      (children : after.children ≡ between.children ++ map (λ (kid : Kid). kid.child) part.added) where
    abbrev shown : JobTable
    shown = (recovered known).table

    without_scripts_table : kept.table ≡ without_scripts shown
    without_scripts_table = (recovered known).current.without_scripts_is

    abbrev changed : ChangesFiles (ShowsAsBefore old.now.directory) old middle
    changed = changes known

    gave_by : (given : List Handed) → new.now.handed ≡ middle.now.handed ++ given
        → Rattle.step_runs.specs.Hands.Hands shown (steps_of_turn part.steps) given → HandsPrefixes middle new →
        new.asked ≡ middle.asked ++ part.questions → Rattle.daemon_turn.specs.Kids.started_numbers given
        ≡ map (λ (kid : Kid). kid.number) part.added → TurnHandsOver shown part.steps given answers at_first at_last
    gave_by given handed hands prefixes questions_are numbered = record {
      handed = handed ∙ ap (λ (l : List Handed). l ++ given) changed.handed;
      hands = hands;
      prefixes = prefixes_then old middle new given (prefixes_changed (ShowsAsBefore old.now.directory) old middle changed) prefixes handed;
      asked = questions_are ∙ ap (λ l. l ++ part.questions) changed.asked
          ∙ ap (λ l. old.asked ++ l) (asked ∙ ap (λ (table : JobTable). questions (asked_kids table turn.kids) answers)
          without_scripts_table ∙ ap (λ (l : List Kid). questions l answers) (asked_alike shown turn.kids));
      added = part.added;
      numbered = sym numbered;
      children = children ∙ ap (λ (l : List Child). l ++ map (λ (kid : Kid). kid.child) part.added) stays.stays.children;
      kids = kids_after_alike shown part.steps turn.kids part.added left
          (subst (λ (table : JobTable). AreKidsAfter table part.steps turn.kids part.added left) without_scripts_table kids);
    }

    whole_by : (last : Kept) → StartsPart shown part middle new (Ok last) → Rattle.daemon_turn.specs.Turning.AreTurnSteps turn kept.table
        answers part.flags part.steps → IsTurnDone turn part.steps at_first at_last
    whole_by last gives are =
        let made : AreMade shown (steps_of_turn part.steps) gives.given part.questions last middle new = gives.ends in
        record {
          table = shown;
          given = gives.given;
          answers = answers;
          are = turn_alike turn shown answers (flags_of gives.given) part.steps
              (subst (λ (table : JobTable).
              Rattle.daemon_turn.specs.Turning.AreTurnSteps turn table answers (flags_of gives.given) part.steps) without_scripts_table
              (subst (λ (flags : List Bool). Rattle.daemon_turn.specs.Turning.AreTurnSteps turn kept.table answers flags part.steps)
              (sym gives.flagged) are));
          achieved = made_steps_are_achieved shown (steps_of_turn part.steps) gives.given part.questions last old middle new
              (recovered known).shown changed (recovered known).others made;
          gave = gave_by gives.given made.through.handed made.through.hands made.prefixes made.asked gives.numbered;
        }

    error_of : (of : StoreFault) → StartsPart shown part middle new (Err of) → Rattle.daemon_turn.specs.Turning.AreFirstSteps turn
        kept.table answers part.flags (part.steps ++ part.next) → IsTurnStopped turn part.steps at_first at_last
    error_of of gives are =
        let stopped : AreStopped shown (steps_of_turn part.steps) (steps_of_turn part.next) gives.given part.questions middle new =
        gives.ends in
        record {
          table = shown;
          given = gives.given;
          answers = answers;
          next = part.next;
          few = omega (arith, stopped.few, length-map part.next Rattle.spool_model.specs.StepsOf.step_of);
          first = first_alike turn shown answers (flags_of gives.given) (part.steps ++ part.next)
              (subst (λ (table : JobTable). Rattle.daemon_turn.specs.Turning.AreFirstSteps turn table answers (flags_of gives.given)
              (part.steps ++ part.next)) without_scripts_table
              (subst (λ (flags : List Bool). Rattle.daemon_turn.specs.Turning.AreFirstSteps turn kept.table answers flags
              (part.steps ++ part.next)) (sym gives.flagged) are));
          begun = subst (λ steps. IsBegun shown steps old new) (sym (steps_join part.steps part.next))
              (stopped_steps_are_begun shown (steps_of_turn part.steps) (steps_of_turn part.next) gives.given part.questions old middle new
              (recovered known).shown changed stopped);
          ends = λ image is. elim (stopped.ends image is) [
            | inl without ↦ inl without
            | inr with_next ↦ inr (subst (λ steps. Shows image (after_steps shown steps)) (sym (steps_join part.steps part.next)) with_next)
          ];
          gave = gave_by gives.given stopped.handed stopped.hands stopped.prefixes stopped.asked gives.numbered;
        }

  outcome_leaves : (outcome : Result Kept StoreFault) (part : TurnPart) (answers : List (Option Ending)) → MakesPart tells between after
      middle new kept part outcome → Rattle.daemon_turn.specs.inside.Turned.AreStepsBy turn kept.table answers part outcome →
      part.questions ≡ questions (asked_kids kept.table turn.kids) answers → report ≡ part.steps
      → AreKidsAfter kept.table part.steps turn.kids part.added left → tells ≡ true →
      TurnLeaves turn report at_first at_last (end_after (unit_of outcome))
  outcome_leaves (Ok last) part answers goes are asked written kids known =
      subst (λ (steps : List TurnStep). IsTurnDone turn steps at_first at_last) (sym written)
      (whole_by known part answers asked written kids goes.children last
      (goes.files known (recovered known).table (recovered known).current) are)
  outcome_leaves (Err of) part answers goes are asked written kids known = by_fault of goes.faults
      (subst (λ (steps : List TurnStep). IsTurnStopped turn steps at_first at_last) (sym written)
      (error_of known part answers asked written kids goes.children of
      (goes.files known (recovered known).table (recovered known).current) are)) where
        by_fault : (one : StoreFault) → IsOfStep one → IsTurnStopped turn report at_first at_last
            → TurnLeaves turn report at_first at_last (end_after (Err one))
        by_fault fault.FileFault is stopped = inr stopped
        by_fault fault.Memory is stopped = inr stopped
        by_fault (fault.Damaged damage) is stopped = absurd is
        by_fault fault.QueueFull is stopped = absurd is
        by_fault fault.NumbersUsedUp is stopped = absurd is

  fault_reads : (outcome : Result Kept StoreFault) → Rattle.std.specs.Prelude.IfErr outcome IsOfStep
      → Rattle.std.specs.Prelude.IfErr (unit_of outcome) IsReadingFault
  fault_reads (Ok last) is = tt
  fault_reads (Err of) is = step_reads of is

  not_damaged : (outcome : Result Kept StoreFault) → Rattle.std.specs.Prelude.IfErr outcome IsOfStep → (damage : Damage)
      → unit_of outcome ≡ Err (fault.Damaged damage) → ⊥
  not_damaged (Ok last) is damage bad =
      let impossible : ◌≡◌ {A = Result (Unit {0}) StoreFault} (Ok tt) (Err (fault.Damaged damage)) = bad in
      cc
  not_damaged (Err of) is damage bad = (let same : of ≡ fault.Damaged damage =
      (let errs : ◌≡◌ {A = Result (Unit {0}) StoreFault} (Err of) (Err (fault.Damaged damage)) = bad in cc) in subst IsOfStep same is)

  file_fault : (outcome : Result Kept StoreFault) → unit_of outcome ≡ Err fault.FileFault → outcome ≡ Err fault.FileFault
  file_fault (Ok last) bad = let impossible : ◌≡◌ {A = Result (Unit {0}) StoreFault} (Ok tt) (Err fault.FileFault) = bad in cc
  file_fault (Err of) bad = (let errs : ◌≡◌ {A = Result (Unit {0}) StoreFault} (Err of) (Err fault.FileFault) = bad in
      let same : of ≡ fault.FileFault = cc in ap (λ (one : StoreFault). Err one) same)

  pub works_by : (result : Result (Unit {0}) StoreFault) → TurnsOn tells between after middle new kept turn left report result
      → TurnWorks tells turn at_first at_last report result
  works_by result on = subst (TurnWorks tells turn at_first at_last report) (sym on.same) (record {
    inside = on.goes.inside;
    counts = counts_on before between after stays.stays.counts on.goes.counts;
    kept = (
      map (λ (kid : Kid). kid.child) on.part.added,
      on.goes.children ∙ ap (λ (l : List Child). l ++ map (λ (kid : Kid). kid.child) on.part.added) stays.stays.children,
    );
    cause = record {
      later = omega (arith, stays.stays.counts.file_faults, on.goes.counts.file_faults);
      rose = λ bad. omega (arith, stays.stays.counts.file_faults, on.goes.cause.rose (file_fault on.outcome bad));
    };
    faults = fault_reads on.outcome on.goes.faults;
    children = on.children;
    ordered = on.kids.ordered;
    unread = λ damage bad. absurd (not_damaged on.outcome on.goes.faults damage bad);
    leaves = outcome_leaves on.outcome on.part on.answers on.goes on.are on.asked on.written on.kids;
  })

-- the answer without what is kept
pub fault_same : (outcome : Result Kept StoreFault) (of : StoreFault) (result : Result (Unit {0}) StoreFault)
    → IsErrAnd result (λ other. other ≡ of) → outcome ≡ Err of → result ≡ unit_of outcome
fault_same outcome of (Ok done) err is = absurd err
fault_same outcome of (Err other) err is = ap (λ (one : StoreFault). Err one) err ∙ sym (ap unit_of is)

pub done_same : (outcome : Result Kept StoreFault) (last : Kept) → outcome ≡ Ok last → Ok tt ≡ unit_of outcome
done_same outcome last is = sym (ap unit_of is)
