-- The parts of a turn, one after another, are the steps of the turn.
use Rattle.std.proofs.Common.{◌≡◌, ◌≤◌, ◌++◌, ℕ, ℤ, Bool, true, false, List, [], ◌∷◌, append_assoc, append-nil, filter, length, map, not, sym, ap, subst, ◌∙◌, refl, arith, inl, inr}
use Rattle.std.specs.Prelude.{Contains, IfOk, IsErrAnd, Option, Result, Ok, Err}
use Rattle.std.specs.List.{list_any}
use Rattle.std.proofs.lemmas.List.{map-append}
use Rattle.host_calls.specs.declared.child.Asked.{Asked}
use Rattle.host_calls.specs.declared.child.Child.{Child}
use Rattle.host_calls.specs.declared.child.Ending.{Ending}
use Rattle.host_calls.specs.Session.{Session}
use Rattle.host_calls.specs.World.{World}
use Rattle.spool_model.specs.JobTable.{IsPending, JobTable}
use Rattle.spool_model.specs.Steps.{after_steps}
use Rattle.step_runs.specs.Current.{IsCurrent, Kept}
use Rattle.queue_rules.specs.Order.{Differ}
use Rattle.host_calls.specs.declared.store_fault.StoreFault.{StoreFault}
use Rattle.spool_shows.proofs.Membership.{Has, contained, filtered_has, has_contained, has_either, has_left, has_made, has_right, made_has}
use Rattle.daemon_turn.specs.declared.kid.Kid.{Kid}
use Rattle.spool_model.specs.declared.turn_step.TurnStep.{TurnStep}
use Rattle.spool_model.specs.declared.turn_step.TurnStep.TheVariants.{Forgotten}
use Rattle.daemon_turn.specs.Decisions.{asked_kids, decisions, end_steps, interrupts, questions, runs_in}
use Rattle.daemon_turn.specs.Kids.{AreChildren, kept_kids, tells_end_of}
use Rattle.daemon_turn.specs.StartOrder.{IsOrder, Turn, forgotten_steps, steps_of_starts}
use Rattle.spool_model.specs.StepsOf.{number_of_step, steps_of_turn}
use Rattle.daemon_turn.specs.Turning.{AreFirstSteps, AreTurnSteps, with_forgets}
use Rattle.daemon_turn.specs.inside.Decisions.{Decides, MayDecide}
use Rattle.daemon_turn.specs.inside.Ended.{without_ended}
use Rattle.daemon_turn.specs.inside.TurnParts.{StartsPart, MakesPart, MayMakePart, TurnPart, joined_parts, quiet_part}
use Rattle.daemon_turn.specs.inside.StartedJobs.{Launches}
use Rattle.daemon_turn.specs.inside.MadeSteps.{MakesAll}
use Rattle.daemon_turn.specs.inside.Turned.{AreStepsBy, MakesTurn}
use Rattle.daemon_turn.specs.inside.PendingNumbers.{ArePendingNumbers, started_of}
use Rattle.step_runs.proofs.ApartLemmas.{Apart, all_each, apart_append, apart_differ, apart_filter, differ_apart, rise_apart}
use Rattle.daemon_turn.proofs.DecisionLemmas.{EachRuns, decided_run, kid_runs}
use Rattle.daemon_turn.proofs.GoLemmas.{goes_then}
use Rattle.daemon_turn.proofs.KidLemmas.{interrupts_asked, kids_stay, no_end_of, started_apart, started_has}
use Rattle.daemon_turn.proofs.LaunchLemmas.{start_numbers}
use Rattle.daemon_turn.proofs.WaitLemmas.{waiting_after, waits_or_runs}

-- what is kept is current after a part that was made
pub may_go_on : (tells : Bool) (before after : Session) (old new : World) (kept now : Kept) (part : TurnPart)
    → (tells ≡ true → (table : JobTable) × IsCurrent kept old.now.directory table) →
    MakesPart tells before after old new kept part (Ok now) → MayMakePart tells after new now
may_go_on tells before after old new kept now part current goes = record {
  inside = goes.inside;
  current = λ known. (let first : (table : JobTable) × IsCurrent kept old.now.directory table = current known in
      let gives : StartsPart first.0 part old new (Ok now) = goes.files known first.0 first.1 in
      (after_steps first.0 (steps_of_turn part.steps), gives.ends.current));
}

contains_left : {X : Type 0} (xs ys : List X) (x : X) → Contains xs x → Contains (xs ++ ys) x
contains_left xs ys x has = contained (xs ++ ys) x (has_left xs ys x (has_contained xs x has))

-- a prefix of steps has numbers of the steps
prefix_number : (prefix later : List TurnStep) (number : ℕ) → Has (map number_of_step prefix) number
    → Has (map number_of_step (prefix ++ later)) number
prefix_number prefix later number has = subst (λ (l : List ℕ). Has l number) (sym (map-append number_of_step prefix later))
    (has_left (map number_of_step prefix) (map number_of_step later) number has)

forgets_no_end : (numbers : List ℕ) (number : ℕ) (step : TurnStep) → Has (map Forgotten numbers) step → tells_end_of number step ≡ false
forgets_no_end numbers number step has =
    let of : (other : ℕ) × Has numbers other × (Forgotten other ≡ step) = made_has Forgotten numbers step has in
    ap (tells_end_of number) (sym of.2)

none_any : (test : TurnStep → Bool) (steps : List TurnStep) → ((step : TurnStep) → Has steps step → test step ≡ false)
    → list_any test steps ≡ false
none_any test [] none = refl
none_any test (step ∷ steps) none =
    ap (λ b. Rattle.std.proofs.Common.◌||◌ b (list_any test steps)) (none step (inl refl))
    ∙ none_any test steps (λ other has. none other (inr has))

-- A turn with these children, on what is kept.
module _ (tells : Bool) (before : Session) (old : World) (kept : Kept) (kids : List Kid) (order : List ℕ)
    (may : MayDecide tells before old kept kids) (waiting : ArePendingNumbers kept.table order) where
  each_runs : EachRuns kept.table kids
  each_runs = all_each (λ kid. runs_in kept.table kid ≡ true) kids may.run

  kids_apart : Apart (map (λ (kid : Kid). kid.number) kids)
  kids_apart = rise_apart (λ (kid : Kid). kid.number) kids may.ordered

  -- After what was finished:
  module _ (first : Session) (decided_at : World) (left : List Kid) (was is : List TurnStep) (none : was ≡ []) where
    -- the jobs that start still wait
    pub order_waiting : (now : Kept) → Decides tells before first old decided_at kept kids left was is (Ok now)
        → ArePendingNumbers now.table order
    order_waiting now decides =
        let part : TurnPart = decides.made.part in
        let steps : part.steps ≡ interrupts kept.table kids ++ end_steps kids decides.made.decided.answers = decides.made.decided.all.1 in
        subst (λ (table : JobTable). ArePendingNumbers table order) (sym decides.made.goes.table_is)
        (waiting_after kept.table part.steps order waiting (λ number has also.
        waits_or_runs kept.table number (all_each (IsPending kept.table) order waiting.each number has)
        (decided_run kept.table kids kids_apart each_runs decides.made.decided.answers number
        (subst (λ (l : List TurnStep). Has (map number_of_step l) number) steps also))))

    module _ (after : Session) (steps : List TurnStep) (added more : List Kid) (flags : List Bool)
        (more_is : more ≡ without_ended steps kids ++ added)
        (children_are : after.children ≡ before.children ++ map (λ (kid : Kid). kid.child) added)
        (numbered : map (λ (kid : Kid). kid.number) added ≡ started_of order flags) where
      -- each child has a child of the host
      child_there : (kid : Kid) → Has (without_ended steps kids ++ added) kid → Contains after.children kid.child
      child_there kid has =
          subst (λ (l : List Child). Contains l kid.child) (sym children_are) (elim (has_either (without_ended steps kids) added kid has) [
            | inl stays ↦ contains_left before.children (map (λ (one : Kid). one.child) added) kid.child
                (may.children.each kid
                (contained kids kid (filtered_has (λ (one : Kid). not (list_any (tells_end_of one.number) steps)) kids kid stays).0))
            | inr came ↦ contained (before.children ++ map (λ (one : Kid). one.child) added) kid.child
                (has_right before.children (map (λ (one : Kid). one.child) added) kid.child
                (has_made (λ (one : Kid). one.child) added kid came))
          ])

      more_children : AreChildren after.children more
      more_children = record {
        each = λ kid has.
            child_there kid (has_contained (without_ended steps kids ++ added) kid (subst (λ (l : List Kid). Contains l kid) more_is has));
      }

      -- no two children have one number
      stays_apart : (number : ℕ) → Has (map (λ (kid : Kid). kid.number) (without_ended steps kids)) number
          → Has (map (λ (kid : Kid). kid.number) added) number → ⊥
      stays_apart number one other =
          let kid : (kid : Kid) × Has (without_ended steps kids) kid × (kid.number ≡ number) =
          made_has (λ (kid : Kid). kid.number) (without_ended steps kids) number one in
          let of : Has kids kid.0 = (filtered_has (λ (one : Kid). not (list_any (tells_end_of one.number) steps)) kids kid.0 kid.1).0 in
          let start : Has order number = started_has order flags number (subst (λ (l : List ℕ). Has l number) numbered other) in
          waits_or_runs kept.table number (all_each (IsPending kept.table) order waiting.each number start)
          (subst (Rattle.spool_model.specs.JobTable.IsRunning kept.table) kid.2 (kid_runs kept.table kid.0 (each_runs kid.0 of)))

      more_apart : Differ (map (λ (kid : Kid). kid.number) more)
      more_apart = subst (λ (l : List Kid). Differ (map (λ (kid : Kid). kid.number) l)) (sym more_is)
          (subst Differ (sym (map-append (λ (kid : Kid). kid.number) (without_ended steps kids) added))
          (apart_differ (map (λ (kid : Kid). kid.number) (without_ended steps kids) ++ map (λ (kid : Kid). kid.number) added)
          (apart_append (map (λ (kid : Kid). kid.number) (without_ended steps kids)) (map (λ (kid : Kid). kid.number) added)
          (apart_filter (λ (kid : Kid). kid.number) (λ (one : Kid). not (list_any (tells_end_of one.number) steps)) kids kids_apart)
          (subst Apart (sym numbered) (started_apart order flags (differ_apart order waiting.apart))) stays_apart)))

    module _ (turn : Turn) (kids_are : kids ≡ asked_kids kept.table turn.kids) (ordered : IsOrder turn kept.table order) where
      decisions_are : (answers : List (Option Ending))
          → interrupts kept.table kids ++ end_steps kids answers ≡ decisions kept.table turn.kids answers
      decisions_are answers =
          ap (λ (l : List Kid). interrupts kept.table l ++ end_steps l answers) kids_are
          ∙ ap (λ (l : List TurnStep). l ++ end_steps (asked_kids kept.table turn.kids) answers) (interrupts_asked kept.table turn.kids)

      asked_are : (answers : List (Option Ending)) (asked : List Asked) → asked ≡ questions kids answers
          → asked ≡ questions (asked_kids kept.table turn.kids) answers
      asked_are answers asked same = same ∙ ap (λ (l : List Kid). questions l answers) kids_are

      -- stopped at a decision
      pub stopped_deciding : (fault : StoreFault) (result : Result Kept StoreFault) → IsErrAnd result (λ other. other ≡ fault) →
          Decides tells before first old decided_at kept kids left was is (Err fault)
          → MakesTurn tells before first old decided_at kept turn left is result
      stopped_deciding fault (Ok store) err decides = absurd err
      stopped_deciding fault (Err other) err decides =
          subst (λ (of : StoreFault). MakesTurn tells before first old decided_at kept turn left is (Err of)) (sym err) (record {
            part = part;
            goes = decides.made.goes;
            answers = answers;
            are = inl (record {
              few = subst (λ (l : List Kid). length answers ≤ length l) kids_are decides.made.decided.few;
              none = decides.made.decided.flags;
              prefix = (decides.made.decided.prefix.0, sym (decisions_are answers) ∙ decides.made.decided.prefix.1);
            });
            asked = asked_are answers part.questions decides.made.decided.asked;
            written = decides.made.written ∙ ap (λ (l : List TurnStep). l ++ part.steps) none;
            kids = decides.dropped ∙ ap (without_ended part.steps) kids_are
                ∙ kids_stay kept.table part.steps [] turn.kids (λ kid runs. refl)
                ∙ ap (λ (l : List TurnStep). kept_kids kept.table l turn.kids) (append-nil part.steps)
                ∙ sym (ap (λ (l : List Kid). kept_kids kept.table part.steps turn.kids ++ l) decides.made.decided.added
                ∙ append-nil (kept_kids kept.table part.steps turn.kids));
            children = more_children first part.steps [] left [] left_is children_is (none_started order);
            apart = more_apart first part.steps [] left [] left_is children_is (none_started order);
          }) where
            part : TurnPart
            part = decides.made.part

            answers : List (Option Ending)
            answers = decides.made.decided.answers

            left_is : left ≡ without_ended part.steps kids ++ []
            left_is = decides.dropped ∙ sym (append-nil (without_ended part.steps kids))

            children_is : first.children ≡ before.children ++ []
            children_is = decides.made.goes.children
                ∙ ap (λ (l : List Kid). before.children ++ map (λ (kid : Kid). kid.child) l) decides.made.decided.added

            none_started : (numbers : List ℕ) → [] ≡ started_of numbers []
            none_started [] = refl
            none_started (number ∷ numbers) = refl

      -- After all decisions:
      module _ (now : Kept) (decides : Decides tells before first old decided_at kept kids left was is (Ok now)) where
        abbrev deciding : TurnPart
        deciding = decides.made.part

        abbrev known : List (Option Ending)
        known = decides.made.decided.answers

        all_known : length known ≡ length (asked_kids kept.table turn.kids)
        all_known = decides.made.decided.all.0 ∙ ap length kids_are

        deciding_are : deciding.steps ≡ decisions kept.table turn.kids known
        deciding_are = decides.made.decided.all.1 ∙ decisions_are known

        written_first : is ≡ deciding.steps
        written_first = decides.made.written ∙ ap (λ (l : List TurnStep). l ++ deciding.steps) none

        module _ (second : Session) (started_at : World) (more : List Kid) (reported : List TurnStep) (outcome : Result Kept StoreFault)
            (launches : Launches tells first second decided_at started_at now order turn.now left more is reported outcome) where
          abbrev starting : TurnPart
          starting = launches.part

          flags_are : deciding.flags ++ starting.flags ≡ starting.flags
          flags_are = ap (λ (l : List Bool). l ++ starting.flags) decides.made.decided.flags

          added_are : deciding.added ++ starting.added ≡ starting.added
          added_are = ap (λ (l : List Kid). l ++ starting.added) decides.made.decided.added

          both_go : MakesPart tells before second old started_at kept (joined_parts deciding starting) outcome
          both_go = goes_then tells before first second old decided_at started_at kept now deciding starting outcome
              decides.made.goes launches.goes

          both_asked : deciding.questions ++ starting.questions ≡ questions kids known
          both_asked = ap (λ (l : List Asked). deciding.questions ++ l) launches.started.asked ∙ append-nil deciding.questions
              ∙ decides.made.decided.asked

          both_children : second.children ≡ before.children ++ map (λ (kid : Kid). kid.child) starting.added
          both_children = both_go.children ∙ ap (λ (l : List Kid). before.children ++ map (λ (kid : Kid). kid.child) l) added_are

          more_is : more ≡ without_ended deciding.steps kids ++ starting.added
          more_is = launches.kids_are ∙ ap (λ (l : List Kid). l ++ starting.added) decides.dropped

          both_written : reported ≡ deciding.steps ++ starting.steps
          both_written = launches.written ∙ ap (λ (l : List TurnStep). l ++ starting.steps) written_first

          -- starts, and what is forgotten, report no end of a child
          starts_no_end : (kid : Kid) → runs_in kept.table kid ≡ true → list_any (tells_end_of kid.number) starting.steps ≡ false
          starts_no_end kid runs = no_end_of kid.number starting.steps (λ has.
              (let prefix : List TurnStep = starting.steps ++ starting.next in
              let there : Has (map number_of_step (steps_of_starts order turn.now starting.flags)) kid.number =
              subst (λ (l : List TurnStep). Has (map number_of_step l) kid.number) (sym launches.started.prefix.1)
              (prefix_number prefix launches.started.prefix.0 kid.number (prefix_number starting.steps starting.next kid.number has)) in
              waits_or_runs kept.table kid.number (all_each (IsPending kept.table) order waiting.each kid.number
              (start_numbers order turn.now starting.flags kid.number there)) (kid_runs kept.table kid runs)))

          -- stopped at a start
          pub stopped_starting : (fault : StoreFault) (result : Result Kept StoreFault) → outcome ≡ Err fault
              → IsErrAnd result (λ other. other ≡ fault) →
              MakesTurn tells before second old started_at kept turn more reported result
          stopped_starting fault (Ok store) is_fault err = absurd err
          stopped_starting fault (Err other) is_fault err =
              subst (λ (of : StoreFault). MakesTurn tells before second old started_at kept turn more reported (Err of)) (sym err) (record {
                part = joined_parts deciding starting;
                goes = subst (λ (of : Result Kept StoreFault).
                    MakesPart tells before second old started_at kept (joined_parts deciding starting) of) is_fault both_go;
                answers = known;
                are = inr (inl (record {
                  order = order;
                  ordered = ordered;
                  asked = all_known;
                  few = subst (λ (l : List Bool). length l ≤ length order) (sym flags_are) launches.started.few;
                  prefix = (
                    launches.started.prefix.0,
                    ap (λ (l : List TurnStep). l ++ steps_of_starts order turn.now (deciding.flags ++ starting.flags)) (sym deciding_are)
                        ∙ ap (λ (l : List Bool). deciding.steps ++ steps_of_starts order turn.now l) flags_are
                        ∙ ap (λ (l : List TurnStep). deciding.steps ++ l) launches.started.prefix.1
                        ∙ regroup deciding.steps starting.steps starting.next launches.started.prefix.0,
                  );
                }));
                asked = asked_are known (deciding.questions ++ starting.questions) both_asked;
                written = both_written;
                kids = more_is ∙ ap (λ (l : List Kid). without_ended deciding.steps l ++ starting.added) kids_are
                    ∙ ap (λ (l : List Kid). l ++ starting.added)
                    (kids_stay kept.table deciding.steps starting.steps turn.kids starts_no_end)
                    ∙ ap (λ (l : List Kid). kept_kids kept.table (deciding.steps ++ starting.steps) turn.kids ++ l) (sym added_are);
                children =
                    more_children second deciding.steps starting.added more starting.flags more_is both_children launches.started.numbered;
                apart = more_apart second deciding.steps starting.added more starting.flags more_is both_children launches.started.numbered;
              }) where
                regroup : (a b c d : List TurnStep) → a ++ ((b ++ c) ++ d) ≡ ((a ++ b) ++ c) ++ d
                regroup a b c d = simp append_assoc

          -- after all starts
          module _ (last : Kept) (whole : outcome ≡ Ok last) (after : Session) (new : World) (report : List TurnStep)
              (result : Result Kept StoreFault)
              (forgotten : MakesAll tells second after started_at new last (forgotten_steps last.table) reported report result) where
            abbrev forgetting : TurnPart
            forgetting = quiet_part forgotten.made forgotten.next

            abbrev all : TurnPart
            all = joined_parts (joined_parts deciding starting) forgetting

            both_made : MakesPart tells before second old started_at kept (joined_parts deciding starting) (Ok last)
            both_made = subst (λ (of : Result Kept StoreFault).
                MakesPart tells before second old started_at kept (joined_parts deciding starting) of) whole both_go

            started_all : (length starting.flags ≡ length order) × (starting.steps ≡ steps_of_starts order turn.now starting.flags)
            started_all = subst (λ (of : Result Kept StoreFault). IfOk of (λ store. (length starting.flags ≡ length order)
                × (starting.steps ≡ steps_of_starts order turn.now starting.flags))) whole launches.started.all

            flags_all : (deciding.flags ++ starting.flags) ++ forgetting.flags ≡ starting.flags
            flags_all = append-nil (deciding.flags ++ starting.flags) ∙ flags_are

            added_all : (deciding.added ++ starting.added) ++ forgetting.added ≡ starting.added
            added_all = append-nil (deciding.added ++ starting.added) ∙ added_are

            all_go : MakesPart tells before after old new kept (joined_parts (joined_parts deciding starting) forgetting) result
            all_go = goes_then tells before second after old started_at new kept last (joined_parts deciding starting) forgetting result
                both_made forgotten.goes

            -- the steps before, by the answers and the starts
            before_are : (flags : List Bool) → flags ≡ starting.flags
                → deciding.steps ++ starting.steps ≡ decisions kept.table turn.kids known ++ steps_of_starts order turn.now flags
            before_are flags same =
                ap (λ (l : List TurnStep). l ++ starting.steps) deciding_are
                ∙ ap (λ (l : List TurnStep). decisions kept.table turn.kids known ++ l) (started_all.1
                ∙ ap (steps_of_starts order turn.now) (sym same))

            -- what is forgotten is what is too much after them
            forgets_are : (flags : List Bool) → flags ≡ starting.flags →
                (deciding.steps ++ starting.steps) ++ forgotten_steps last.table
                ≡ with_forgets kept.table (decisions kept.table turn.kids known ++ steps_of_starts order turn.now flags)
            forgets_are flags same =
                ap (λ (table : JobTable). (deciding.steps ++ starting.steps) ++ forgotten_steps table) both_made.table_is
                ∙ ap (with_forgets kept.table) (before_are flags same)

            whole_steps : (flags : List Bool) → flags ≡ starting.flags → AreTurnSteps turn kept.table known flags
                (with_forgets kept.table (decisions kept.table turn.kids known ++ steps_of_starts order turn.now flags))
            whole_steps flags same = record {
              order = order;
              ordered = ordered;
              asked = all_known;
              started = ap length same ∙ started_all.0;
              all = refl;
            }

            all_no_end : (kid : Kid) → runs_in kept.table kid ≡ true
                → list_any (tells_end_of kid.number) (starting.steps ++ forgetting.steps) ≡ false
            all_no_end kid runs = none_any (tells_end_of kid.number) (starting.steps ++ forgetting.steps)
                (λ step has. elim (has_either starting.steps forgetting.steps step has) [
                  | inl one ↦ of_none (tells_end_of kid.number) starting.steps (starts_no_end kid runs) step one
                  | inr other ↦ forgets_no_end (Rattle.std.proofs.Common.take (Rattle.std.proofs.Common.◌-◌ (length
                      (Rattle.spool_model.specs.Lists.done_numbers last.table))
                      Rattle.spool_model.specs.declared.decided.TheConstants.MAX_DONE)
                      (Rattle.spool_model.specs.Lists.done_numbers last.table)) kid.number step
                      (subst (λ (l : List TurnStep). Has l step) (sym forgotten.prefix.1)
                      (has_left (forgetting.steps ++ forgetting.next) forgotten.prefix.0 step
                      (has_left forgetting.steps forgetting.next step other)))
                ]) where
                  of_none : (test : TurnStep → Bool) (steps : List TurnStep) → list_any test steps ≡ false → (step : TurnStep)
                      → Has steps step → test step ≡ false
                  of_none test steps none step has = by_test (test step) refl where
                    by_test : (b : Bool) → test step ≡ b → b ≡ false
                    by_test false is = refl
                    by_test true is =
                        let impossible : true ≡ false =
                        sym (Rattle.spool_shows.proofs.Membership.any_passes test steps step has is) ∙ none in
                        cc

            -- all of the steps, or the first of them
            are_whole : (store : Kept) → result ≡ Ok store → AreTurnSteps turn kept.table known all.flags all.steps
            are_whole store is =
                let forgot : forgetting.steps ≡ forgotten_steps last.table =
                subst (λ (of : Result Kept StoreFault). IfOk of (λ kept. forgetting.steps ≡ forgotten_steps last.table)) is forgotten.all in
                subst (AreTurnSteps turn kept.table known all.flags) (sym (ap (λ (l : List TurnStep).
                (deciding.steps ++ starting.steps) ++ l) forgot ∙ forgets_are all.flags flags_all)) (whole_steps all.flags flags_all)

            are_first : AreFirstSteps turn kept.table known all.flags (all.steps ++ all.next)
            are_first = inr (inr (
              with_forgets kept.table (decisions kept.table turn.kids known ++ steps_of_starts order turn.now all.flags),
              whole_steps all.flags flags_all,
              (
                forgotten.prefix.0,
                sym (forgets_are all.flags flags_all)
                    ∙ ap (λ (l : List TurnStep). (deciding.steps ++ starting.steps) ++ l) forgotten.prefix.1
                    ∙ regroup (deciding.steps ++ starting.steps) forgetting.steps forgetting.next forgotten.prefix.0,
              ),
            )) where
              regroup : (a b c d : List TurnStep) → a ++ ((b ++ c) ++ d) ≡ ((a ++ b) ++ c) ++ d
              regroup a b c d = simp append_assoc

            are_by : (of : Result Kept StoreFault) → result ≡ of → AreStepsBy turn kept.table known all of
            are_by (Ok store) is = are_whole store is
            are_by (Err fault) is = are_first

            pub turned : MakesTurn tells before after old new kept turn more report result
            turned = record {
              part = all;
              goes = all_go;
              answers = known;
              are = are_by result refl;
              asked = asked_are known ((deciding.questions ++ starting.questions) ++ forgetting.questions)
                  (append-nil (deciding.questions ++ starting.questions) ∙ both_asked);
              written = forgotten.written ∙ ap (λ (l : List TurnStep). l ++ forgetting.steps) both_written;
              kids = more_is ∙ ap (λ (l : List Kid). without_ended deciding.steps l ++ starting.added) kids_are
                  ∙ ap (λ (l : List Kid). l ++ starting.added)
                  (kids_stay kept.table deciding.steps (starting.steps ++ forgetting.steps) turn.kids all_no_end
                  ∙ ap (λ (l : List TurnStep). kept_kids kept.table l turn.kids)
                  (sym (append_assoc deciding.steps starting.steps forgetting.steps)))
                  ∙ ap (λ (l : List Kid).
                  kept_kids kept.table ((deciding.steps ++ starting.steps) ++ forgetting.steps) turn.kids ++ l) (sym added_all);
              children =
                  more_children after deciding.steps starting.added more starting.flags more_is all_children launches.started.numbered;
              apart = more_apart after deciding.steps starting.added more starting.flags more_is all_children launches.started.numbered;
            } where
              all_children : after.children ≡ before.children ++ map (λ (kid : Kid). kid.child) starting.added
              all_children = all_go.children ∙ ap (λ (l : List Kid). before.children ++ map (λ (kid : Kid). kid.child) l) added_all

-- starts of these numbers at this second
pub launches_as : (tells : Bool) (before after : Session) (old new : World) (kept : Kept) (slice numbers : List ℕ) (written second now : ℤ)
    (kids more : List Kid) (was is : List TurnStep) (result : Result Kept StoreFault) →
    slice ≡ numbers → written ≡ second → now ≡ second → Launches tells before after old new kept slice written kids more was is result
    → Launches tells before after old new kept numbers now kids more was is result
launches_as tells before after old new kept slice numbers written second now kids more was is result same at now_is launches =
    subst (λ (of : ℤ). Launches tells before after old new kept numbers of kids more was is result) (at ∙ sym now_is)
    (subst (λ (of : List ℕ). Launches tells before after old new kept of written kids more was is result) same launches)
