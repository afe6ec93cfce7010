-- Children are asked whether they have ended, and those that have are dropped (own).
use Rattle.std.specs.Prelude.{◌≡◌, ◌≤◌, ◌++◌, [], ◌∷◌, Bool, true, List, Option, Some, None, Result, IfOk, length}
use Rattle.host_calls.specs.declared.child.Ending.{Ending}
use Rattle.host_calls.specs.World.{World}
use Rattle.daemon_turn.specs.declared.kid.Kid.{Kid}
use Rattle.daemon_turn.specs.Decisions.{questions}

-- the children that stay: those that answered no ending, and those that weren't asked; the first children answer
-- first
abbrev pub kids_after : List Kid → List (Option Ending) → List Kid
kids_after [] answers = []
kids_after (kid ∷ kids) [] = kid ∷ kids
kids_after (kid ∷ kids) (None ∷ answers) = kid ∷ kids_after kids answers
kids_after (kid ∷ kids) (Some ending ∷ answers) = kids_after kids answers

-- the world in which the children were asked besides and answered so
abbrev pub asked_besides : List Kid → List (Option Ending) → World → World
asked_besides kids answers world =
    record { now = world.now; before = world.before; asked = world.asked ++ questions kids answers }

-- The first of the children have answered so, each asked once, and all of them where memory was found: those that have
-- ended are dropped. Nothing else of the world changes.
pub record AsksKids {E : Type 0} (tells : Bool) (kids left : List Kid) (old new : World) (result : Result (Unit {0}) E)
    : Type 0 where
  pub answers : List (Option Ending)
  pub few : length answers ≤ length kids
  pub all : IfOk result (λ done. length answers ≡ length kids)
  pub left_are : left ≡ kids_after kids answers
  pub asked : tells ≡ true → new ≡ asked_besides kids answers old
