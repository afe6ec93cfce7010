-- Children that are asked one after another.
use Rattle.std.proofs.Common.{◌≡◌, ◌≤◌, ◌<◌, ◌+◌, ◌++◌, ◌∙◌, ℕ, suc, Bool, true, List, [], ◌∷◌, append_assoc, append-nil, get_or, length, length-append, refl, sym, ap, subst, inl, inr, arith}
use Rattle.std.specs.Prelude.{Contains, IsErrAnd, Option, None, Some, Result, Ok, Err}
use Rattle.std.proofs.lemmas.List.Elements.{Contains-get_or}
use Rattle.spool_shows.proofs.Membership.{Has, contained, has_contained}
use Rattle.host_calls.specs.declared.child.Asked.{Asked}
use Rattle.host_calls.specs.declared.child.Child.{Child}
use Rattle.host_calls.specs.declared.child.Ending.{Ending}
use Rattle.host_calls.specs.World.{Asks, World}
use Rattle.daemon_turn.specs.declared.kid.Kid.{Kid}
use Rattle.daemon_turn.specs.Decisions.{questions}
use Rattle.daemon_turn.specs.Kids.{AreChildren}
use Rattle.daemon_turn.proofs.AskLemmas.{questions_of_none}
use Rattle.mail_session.specs.AskedChildren.{AsksKids, asked_besides, kids_after}
use Rattle.mail_session.specs.inside.RemainingChildren.{kids_left_by, place_by}

-- how many of those that answered stay
abbrev pub count_staying : List (Option Ending) → ℕ
count_staying [] = 0
count_staying (None ∷ answers) = suc (count_staying answers)
count_staying (Some ending ∷ answers) = count_staying answers

pub after_none : (kids : List Kid) → kids_after kids [] ≡ kids
after_none [] = refl
after_none (kid ∷ kids) = refl

-- one answer more
after_next : (kids : List Kid) (answers : List (Option Ending)) (answer : Option Ending) → length answers < length kids →
    kids_after kids (answers ++ answer ∷ []) ≡ kids_left_by (kids_after kids answers) (count_staying answers) answer
after_next [] answers answer below = absurd (omega arith)
after_next (kid ∷ kids) [] None below = ap (λ (l : List Kid). kid ∷ l) (after_none kids)
after_next (kid ∷ kids) [] (Some ending) below = after_none kids
after_next (kid ∷ kids) (None ∷ answers) None below = ap (λ (l : List Kid). kid ∷ l) (after_next kids answers None (omega arith))
after_next (kid ∷ kids) (None ∷ answers) (Some ending) below =
    ap (λ (l : List Kid). kid ∷ l) (after_next kids answers (Some ending) (omega arith))
after_next (kid ∷ kids) (Some one ∷ answers) answer below = after_next kids answers answer (omega arith)

place_next : (answers : List (Option Ending)) (answer : Option Ending)
    → count_staying (answers ++ answer ∷ []) ≡ place_by (count_staying answers) answer
place_next [] None = omega arith
place_next [] (Some ending) = refl
place_next (None ∷ answers) None = omega (arith, place_next answers None)
place_next (None ∷ answers) (Some ending) = ap suc (place_next answers (Some ending))
place_next (Some one ∷ answers) answer = place_next answers answer

questions_next : (kids : List Kid) (answers : List (Option Ending)) (kid : Kid) (answer : Option Ending) → length answers < length kids →
    kid ≡ get_or (kids_after kids answers) (count_staying answers) kid →
    questions kids (answers ++ answer ∷ []) ≡ questions kids answers ++ record { child = kid.child; answer = answer } ∷ []
questions_next [] answers kid answer below at = absurd (omega arith)
questions_next (first ∷ kids) [] kid answer below at =
    ap (λ (l : List Asked). record { child = first.child; answer = answer } ∷ l) (questions_of_none kids)
    ∙ ap (λ (k : Kid). record { child = k.child; answer = answer } ∷ []) (sym at)
questions_next (first ∷ kids) (None ∷ answers) kid answer below at =
    ap (λ (l : List Asked). record { child = first.child; answer = None } ∷ l) (questions_next kids answers kid answer (omega arith) at)
questions_next (first ∷ kids) (Some one ∷ answers) kid answer below at =
    ap (λ (l : List Asked). record { child = first.child; answer = Some one } ∷ l) (questions_next kids answers kid answer (omega arith) at)

-- those that stay and those that were not asked yet
pub lengths : (kids : List Kid) (answers : List (Option Ending)) → length answers ≤ length kids →
    length (kids_after kids answers) + length answers ≡ length kids + count_staying answers
lengths [] [] below = refl
lengths [] (answer ∷ answers) below = absurd (omega arith)
lengths (kid ∷ kids) [] below = refl
lengths (kid ∷ kids) (None ∷ answers) below = omega (arith, lengths kids answers (omega arith))
lengths (kid ∷ kids) (Some ending ∷ answers) below = omega (arith, lengths kids answers (omega arith))

-- so many of the children have answered
pub record HasAsked (tells : Bool) (kids : List Kid) (count place : ℕ) (left : List Kid) (old new : World) : Type 0 where
  pub answers : List (Option Ending)
  pub counted : length answers ≡ count
  pub placed : place ≡ count_staying answers
  pub left_are : left ≡ kids_after kids answers
  pub asked : tells ≡ true → new ≡ asked_besides kids answers old

abbrev with_asked : World → List Asked → World
with_asked world asked = record { now = world.now; before = world.before; asked = asked }

pub none_asked : (tells : Bool) (kids : List Kid) (world : World) → HasAsked tells kids 0 0 kids world world
none_asked tells kids world = record {
  answers = [];
  counted = refl;
  placed = refl;
  left_are = sym (after_none kids);
  asked =
      λ known. sym (ap (with_asked world) (ap (λ (l : List Asked). world.asked ++ l) (questions_of_none kids) ∙ append-nil world.asked));
}

-- the next one exists
pub place_inside : (tells : Bool) (kids : List Kid) (count place : ℕ) (left : List Kid) (old new : World)
    → HasAsked tells kids count place left old new →
    count < length kids → place < length left
place_inside tells kids count place left old new has below =
    omega (arith, has.counted, has.placed, ap length has.left_are, lengths kids has.answers (omega (arith, has.counted)))

pub one_asked : (tells : Bool) (kids : List Kid) (count place next : ℕ) (left last : List Kid) (old middle new : World) (kid : Kid)
    (answer : Option Ending) →
    count < length kids → HasAsked tells kids count place left old middle → kid ≡ get_or left place kid → next ≡ place_by place answer →
    last ≡ kids_left_by left place answer → (tells ≡ true → Asks kid.child middle new (Ok answer))
    → HasAsked tells kids (count + 1) next last old new
one_asked tells kids count place next left last old middle new kid answer below has at next_is last_is asks =
    let below_now : length has.answers < length kids = omega (arith, has.counted) in
    let at_now : kid ≡ get_or (kids_after kids has.answers) (count_staying has.answers) kid =
    at ∙ ap (λ (l : List Kid). get_or l place kid) has.left_are ∙ ap (λ (n : ℕ). get_or (kids_after kids has.answers) n kid) has.placed in
    record {
      answers = has.answers ++ answer ∷ [];
      counted = omega (arith, has.counted, length-append has.answers (answer ∷ []));
      placed = next_is ∙ ap (λ (n : ℕ). place_by n answer) has.placed ∙ sym (place_next has.answers answer);
      left_are = last_is ∙ ap (λ (l : List Kid). kids_left_by l place answer) has.left_are
          ∙ ap (λ (n : ℕ). kids_left_by (kids_after kids has.answers) n answer) has.placed
          ∙ sym (after_next kids has.answers answer below_now);
      asked = λ known.
          (asks known).0
          ∙ ap (λ (world : World). with_asked world (world.asked ++ record { child = kid.child; answer = answer } ∷ [])) (has.asked known)
          ∙ ap (with_asked old) (append_assoc old.asked (questions kids has.answers) (record { child = kid.child; answer = answer } ∷ [])
          ∙ ap (λ (l : List Asked). old.asked ++ l) (sym (questions_next kids has.answers kid answer below_now at_now)));
    }

-- all children have answered
pub all_asked : {E : Type 0} (tells : Bool) (kids : List Kid) (count place : ℕ) (left : List Kid) (old new : World) → count ≡ length kids →
    HasAsked tells kids count place left old new → AsksKids {E = E} tells kids left old new (Ok tt)
all_asked tells kids count place left old new whole has =
    record {
      answers = has.answers;
      few = omega (arith, has.counted, whole);
      all = has.counted ∙ whole;
      left_are = has.left_are;
      asked = has.asked;
    }

-- the next one could not be asked
pub some_asked : {E : Type 0} (tells : Bool) (kids : List Kid) (count place : ℕ) (left : List Kid) (old middle new : World) (fault : E)
    (result : Result (Unit {0}) E) →
    IsErrAnd result (λ other. other ≡ fault) → count < length kids → HasAsked tells kids count place left old middle
    → (tells ≡ true → new ≡ middle) →
    AsksKids {E = E} tells kids left old new result
some_asked tells kids count place left old middle new fault (Ok done) is below has same = absurd is
some_asked tells kids count place left old middle new fault (Err other) is below has same = record {
  answers = has.answers;
  few = omega (arith, has.counted, below);
  all = tt;
  left_are = has.left_are;
  asked = λ known. same known ∙ has.asked known;
}

-- The children that stay are some of those that there were.
pub kids_among : (kids : List Kid) (answers : List (Option Ending)) (kid : Kid) → Has (kids_after kids answers) kid → Has kids kid
kids_among [] answers kid has = absurd has
kids_among (first ∷ kids) [] kid has = has
kids_among (first ∷ kids) (None ∷ answers) kid (inl same) = inl same
kids_among (first ∷ kids) (None ∷ answers) kid (inr has) = inr (kids_among kids answers kid has)
kids_among (first ∷ kids) (Some ending ∷ answers) kid has = inr (kids_among kids answers kid has)

pub child_held : (was now : List Child) (tells : Bool) (kids : List Kid) (count place : ℕ) (left : List Kid) (old new : World)
    → HasAsked tells kids count place left old new →
    AreChildren was kids → now ≡ was → place < length left → (kid : Kid) → kid ≡ get_or left place kid → Contains now kid.child
child_held was now tells kids count place left old new has are same inside kid at =
    let among : Contains (kids_after kids has.answers) kid =
    subst (λ (l : List Kid). Contains l kid) has.left_are (subst (Contains left) (sym at) (Contains-get_or left place kid inside)) in
    subst (λ (l : List Child). Contains l kid.child) (sym same)
    (are.each kid (contained kids kid (kids_among kids has.answers kid (has_contained (kids_after kids has.answers) kid among))))
