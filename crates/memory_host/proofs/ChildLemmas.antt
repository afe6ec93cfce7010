-- Questions to children, one after the other.
use Rattle.std.proofs.Common.{◌≡◌, ◌+◌, ◌-◌, ◌<◌, ◌≤◌, ◌==◌, ℕ, zero, suc, Bool, true, false, List, [], ◌∷◌, ◌++◌, length, get_or, take, cond, sym, ap, subst, ◌∙◌, refl, inl, inr, arith, length-append, add-zero, zero-add, add_assoc}
use Rattle.std.specs.Prelude.{Option, Some, None, nat_lt, Contains}
use Rattle.std.specs.List.{All}
use Rattle.std.proofs.Math.ListN.{set}
use Rattle.std.proofs.Math.Seq.{get_or-append_seam, take-append_seam}
use Rattle.std.proofs.lemmas.List.{get_or_append_left, get_or-set_same, get_or-set_other, length-set, take-append-le}
use Rattle.std.proofs.lemmas.List.Elements.{All-head, All-push, All-tail, Contains-push_cases}
use Rattle.std.proofs.lemmas.Bool.{cases_lt, eqb-true, eqb-false, ltb-true, ltb-false}
use Rattle.std.proofs.lemmas.Bool.Decides.{eqb_tells}
use Rattle.host_calls.specs.declared.child.Asked.{Asked}
use Rattle.host_calls.specs.declared.child.Child.{Child}
use Rattle.host_calls.specs.declared.child.Ending.{Ending}
use Rattle.memory_host.specs.Children.{AreAnswers, answer_of, plan_of, questions_to}
use Rattle.memory_host.specs.inside.Kin.{AreChildrenAsPlanned, AreWaits}
use Rattle.memory_host.specs.declared.child_plans.ChildPlan.{ChildPlan}

-- the first question counts, or not
questions-cons : (child : ℕ) (first : Asked) (others : List Asked)
    → questions_to child (first ∷ others) ≡ cond (first.child.id == child) 1 0 + questions_to child others
questions-cons child first others = refl

-- one question more
questions-push : (child : ℕ) (asked : List Asked) (one : Asked)
    → questions_to child (asked ++ one ∷ []) ≡ questions_to child asked + cond (one.child.id == child) 1 0
questions-push child [] one = add-zero (cond (one.child.id == child) 1 0) ∙ sym (zero-add (cond (one.child.id == child) 1 0))
questions-push child (first ∷ others) one =
    let rest : questions_to child (others ++ one ∷ []) ≡ questions_to child others + cond (one.child.id == child) 1 0 =
    questions-push child others one in
    ap (λ n. cond (first.child.id == child) 1 0 + n) rest
    ∙ sym (add_assoc (cond (first.child.id == child) 1 0) (questions_to child others) (cond (one.child.id == child) 1 0))

-- a child that has a greater number than all that were asked was not asked
unasked : (child : ℕ) (asked : List Asked) → All (λ one. one.child.id < child) asked → questions_to child asked ≡ 0
unasked child [] all = refl
unasked child (first ∷ others) all =
    let here = All-head (λ (one : Asked). one.child.id < child) first others all in
    let rest : questions_to child others ≡ 0 = unasked child others (All-tail (λ (one : Asked). one.child.id < child) first others all) in
    elim (eqb_tells first.child.id child) [
      | inl same ↦ let equal : first.child.id ≡ child = same.1 in absurd (omega arith)
      | inr other ↦ ap (λ b. cond b 1 0 + questions_to child others) other.0 ∙ zero-add (questions_to child others) ∙ rest
    ]

-- fewer questions at the start
questions-take : (child place : ℕ) (asked : List Asked) → questions_to child (take place asked) ≤ questions_to child asked
questions-take child zero asked = omega arith
questions-take child (suc place) [] = omega arith
questions-take child (suc place) (first ∷ others) =
    let rest : questions_to child (take place others) ≤ questions_to child others = questions-take child place others in
    omega (arith, questions-cons child first others, questions-cons child first (take place others))

-- the answer after so many questions, by how many are still in vain
pub answer_by_wait : (plans : List ChildPlan) (child questions wait : ℕ) → wait ≡ (plan_of plans child).asks - questions
    → answer_of plans child questions ≡ cond (wait == 0) (Some (plan_of plans child).ending) None
answer_by_wait plans child questions wait is = by_case (nat_lt questions (plan_of plans child).asks) (wait == 0) refl refl where
  by_case : (b c : Bool) → nat_lt questions (plan_of plans child).asks ≡ b → (wait == 0) ≡ c
      → cond b None (Some (plan_of plans child).ending) ≡ cond c (Some (plan_of plans child).ending) None
  by_case true true less none =
      let below = ltb-true questions (plan_of plans child).asks less in
      let zero_wait = eqb-true wait 0 none in
      absurd (omega arith)
  by_case true false less none = refl
  by_case false true less none = refl
  by_case false false less none =
      let above = ltb-false questions (plan_of plans child).asks less in
      absurd (eqb-false wait 0 none (omega arith))

module _ (plans : List ChildPlan) (asked : List Asked) (waits : List ℕ) (waiting : AreWaits plans asked waits) where
  -- one question more, to one child
  pub waits_asked : (one : Asked) (new : List ℕ) → one.child.id < length waits
      → new ≡ set waits one.child.id (get_or waits one.child.id 0 - 1) → AreWaits plans (asked ++ one ∷ []) new
  waits_asked one new known is child inside =
      let counted : length new ≡ length waits = ap length is ∙ length-set waits one.child.id (get_or waits one.child.id 0 - 1) in
      let before : get_or waits child 0 ≡ (plan_of plans child).asks - questions_to child asked = waiting child (omega arith) in
      ap (λ l. get_or l child 0) is ∙ (elim (eqb_tells one.child.id child) [
        | inl same ↦
            let more : questions_to child (asked ++ one ∷ []) ≡ questions_to child asked + 1 = questions-push child asked one
            ∙ ap (λ b. questions_to child asked + cond b 1 0) same.0 in
            let own : get_or waits one.child.id 0 ≡ get_or waits child 0 = ap (λ n. get_or waits n 0) same.1 in
            let there : get_or (set waits one.child.id (get_or waits one.child.id 0 - 1)) child 0 ≡ get_or waits one.child.id 0 - 1 =
            ap (λ n. get_or (set waits one.child.id (get_or waits one.child.id 0 - 1)) n 0) (sym same.1)
            ∙ get_or-set_same waits one.child.id (get_or waits one.child.id 0 - 1) 0 known in
            there ∙ omega arith
        | inr other ↦
            let as_many : questions_to child (asked ++ one ∷ []) ≡ questions_to child asked + 0 = questions-push child asked one
            ∙ ap (λ b. questions_to child asked + cond b 1 0) other.0 in
            get_or-set_other waits one.child.id child (get_or waits one.child.id 0 - 1) 0 (λ same. other.1 (sym same)) ∙ before
            ∙ omega arith
      ])

-- one answer more
pub answers_asked : (plans : List ChildPlan) (asked : List Asked) (one : Asked) → AreAnswers plans asked
    → one.answer ≡ answer_of plans one.child.id (questions_to one.child.id asked) → AreAnswers plans (asked ++ one ∷ [])
answers_asked plans asked one all is place none inside = elim (cases_lt place (length asked)) [
  | inl before ↦ rw (get_or_append_left asked (one ∷ []) none place before, take-append-le place asked (one ∷ []) (omega arith))
      (all place none before)
  | inr last ↦
      let here : place ≡ length asked = omega (arith, length-append asked (one ∷ [])) in
      rw (here, get_or-append_seam asked one [] none, take-append_seam asked (one ∷ [])) is
]

-- an ending that was given is given again
pub again : (plans : List ChildPlan) (asked : List Asked) (child : Child) (ending : Ending) → AreAnswers plans asked
    → Contains asked (record { child = child; answer = Some ending }) → answer_of plans child.id (questions_to child.id asked) ≡ Some ending
again plans asked child ending all among =
    let asked_so : Asked = record { child = child; answer = Some ending } in
    let given : answer_of plans child.id (questions_to child.id (take among.0 asked)) ≡ Some ending = sym (subst (λ one. one.answer
    ≡ answer_of plans one.child.id (questions_to one.child.id (take among.0 asked))) among.2 (all among.0 asked_so among.1)) in
    by_case (nat_lt (questions_to child.id (take among.0 asked)) (plan_of plans child.id).asks)
    (nat_lt (questions_to child.id asked) (plan_of plans child.id).asks) refl refl given
  where
    by_case : (b c : Bool) → nat_lt (questions_to child.id (take among.0 asked)) (plan_of plans child.id).asks ≡ b
        → nat_lt (questions_to child.id asked) (plan_of plans child.id).asks ≡ c → cond b None (Some (plan_of plans child.id).ending)
        ≡ Some ending → cond c None (Some (plan_of plans child.id).ending) ≡ Some ending
    by_case true c less later given = cc
    by_case false true less later given =
        let enough = ltb-false (questions_to child.id (take among.0 asked)) (plan_of plans child.id).asks less in
        let few = ltb-true (questions_to child.id asked) (plan_of plans child.id).asks later in
        let prefix = questions-take child.id among.0 asked in
        absurd (omega arith)
    by_case false false less later given = given

-- one start more
pub waits_started : (plans : List ChildPlan) (asked : List Asked) (waits new : List ℕ) (asks : ℕ) → AreWaits plans asked waits → new ≡ waits
    ++ asks ∷ [] → asks ≡ (plan_of plans (length waits)).asks → All (λ one. one.child.id < length waits) asked → AreWaits plans asked new
waits_started plans asked waits new asks waiting more is known child inside =
    ap (λ l. get_or l child 0) more ∙ (elim (cases_lt child (length waits)) [
      | inl before ↦ get_or_append_left waits (asks ∷ []) 0 child before ∙ waiting child before
      | inr last ↦
          let here : child ≡ length waits = omega (arith, ap length more, length-append waits (asks ∷ [])) in
          let none : questions_to (length waits) asked ≡ 0 = unasked (length waits) asked known in
          rw here (get_or-append_seam waits asks [] 0 ∙ is ∙ omega arith)
    ])

-- What is kept of the children.

-- the same lists
pub kin_alike : (plans : List ChildPlan) (asked asked_more : List Asked) (waits waits_more : List ℕ) (children children_more : List Child)
    → AreChildrenAsPlanned plans asked waits children → asked_more ≡ asked → waits_more ≡ waits → children_more ≡ children
    → AreChildrenAsPlanned plans asked_more waits_more children_more
kin_alike plans asked asked_more waits waits_more children children_more is same_asked same_waits same_children =
    subst (λ l. AreChildrenAsPlanned plans l waits_more children_more) (sym same_asked) (subst (λ l. AreChildrenAsPlanned plans asked l
    children_more) (sym same_waits) (subst (λ l. AreChildrenAsPlanned plans asked waits l) (sym same_children) is))

-- one start more, of which no child came
pub kin_failed : (plans : List ChildPlan) (asked : List Asked) (waits new : List ℕ) (children : List Child) (asks : ℕ)
    → AreChildrenAsPlanned plans asked waits children → new ≡ waits ++ asks ∷ [] → asks ≡ (plan_of plans (length waits)).asks
    → AreChildrenAsPlanned plans asked new children
kin_failed plans asked waits new children asks is more planned =
    let longer : length new ≡ length waits + 1 = ap length more ∙ length-append waits (asks ∷ []) in
    record {
      started = λ child among. let known : child.id < length waits = is.started child among in omega arith;
      questioned = λ place none inside. let known : (get_or asked place none).child.id < length waits = is.questioned place none inside in
          omega arith;
      waiting = waits_started plans asked waits new asks is.waiting more planned is.questioned;
      answered = is.answered;
    }

-- one start more, and its child
pub kin_started : (plans : List ChildPlan) (asked : List Asked) (waits new : List ℕ) (children : List Child) (asks : ℕ) (child : Child)
    → AreChildrenAsPlanned plans asked waits children → new ≡ waits ++ asks ∷ [] → asks ≡ (plan_of plans (length waits)).asks
    → child.id ≡ length waits → AreChildrenAsPlanned plans asked new (children ++ child ∷ [])
kin_started plans asked waits new children asks child is more planned number =
    let longer : length new ≡ length waits + 1 = ap length more ∙ length-append waits (asks ∷ []) in
    let failed = kin_failed plans asked waits new children asks is more planned in
    record {
      started = λ other among. elim (Contains-push_cases children child other among) [
        | inl before ↦ failed.started other before
        | inr own ↦ let id : child.id ≡ other.id = ap (λ one. one.id) own in omega arith
      ];
      questioned = failed.questioned;
      waiting = failed.waiting;
      answered = failed.answered;
    }

-- no child has the number of the next start
pub is_new : (plans : List ChildPlan) (asked : List Asked) (waits : List ℕ) (children : List Child) (child : Child)
    → AreChildrenAsPlanned plans asked waits children → child.id ≡ length waits → ¬ (Contains children child)
is_new plans asked waits children child is number among =
    let below : child.id < length waits = is.started child among in
    absurd (omega arith)

-- one question more
pub kin_asked : (plans : List ChildPlan) (asked : List Asked) (waits new : List ℕ) (children : List Child) (one : Asked)
    → AreChildrenAsPlanned plans asked waits children → Contains children one.child → new ≡ set waits one.child.id
    (get_or waits one.child.id 0 - 1) → one.answer ≡ cond (get_or waits one.child.id 0 == 0) (Some (plan_of plans one.child.id).ending) None
    → AreChildrenAsPlanned plans (asked ++ one ∷ []) new children
kin_asked plans asked waits new children one is among changed answer =
    let known : one.child.id < length waits = is.started one.child among in
    let as_long : length new ≡ length waits = ap length changed ∙ length-set waits one.child.id (get_or waits one.child.id 0 - 1) in
    record {
      started = λ child among_children. let below : child.id < length waits = is.started child among_children in omega arith;
      questioned = λ place none inside. subst (λ n. (get_or (asked ++ one ∷ []) place none).child.id < n) (sym as_long)
          (All-push (λ (other : Asked). other.child.id < length waits) asked one is.questioned known place none inside);
      waiting = waits_asked plans asked waits is.waiting one new known changed;
      answered = answers_asked plans asked one is.answered (answer ∙ sym (answer_by_wait plans one.child.id
          (questions_to one.child.id asked) (get_or waits one.child.id 0) (is.waiting one.child.id known)));
    }

-- an ending that was given is given again at the next question
pub ends_again : (plans : List ChildPlan) (asked : List Asked) (waits : List ℕ) (children : List Child) (child : Child)
    (answer : Option Ending) → AreChildrenAsPlanned plans asked waits children → Contains children child
    → answer ≡ cond (get_or waits child.id 0 == 0) (Some (plan_of plans child.id).ending) None → (ending : Ending)
    → Contains asked (record { child = child; answer = Some ending }) → answer ≡ Some ending
ends_again plans asked waits children child answer is among given ending before =
    given ∙ sym (answer_by_wait plans child.id (questions_to child.id asked) (get_or waits child.id 0)
    (is.waiting child.id (is.started child among))) ∙ again plans asked child ending is.answered before
