-- The children of a daemon: between two turns, and after a turn (own).
use Rattle.std.specs.Prelude.{◌≡◌, ◌<◌, ◌&&◌, ◌==◌, ◌++◌, ℕ, Bool, false, not, List, AllPairs, Contains, IsPermutation, filter, map}
use Rattle.std.specs.List.{list_any}
use Rattle.host_calls.specs.declared.child.Child.{Child}
use Rattle.host_calls.specs.declared.child.Handed.{Handed}
use Rattle.spool_model.specs.JobTable.{JobTable}
use Rattle.daemon_turn.specs.declared.kid.Kid.{Kid}
use Rattle.spool_model.specs.declared.turn_step.TurnStep.{TurnStep}
use Rattle.spool_model.specs.declared.turn_step.TurnStep.TheVariants.{HandedOver, Ended, Interrupted, Forgotten}
use Rattle.daemon_turn.specs.Decisions.{runs_in}

-- the numbers of the children rise
abbrev pub AreKidsByNumber : List Kid → Type 0
AreKidsByNumber kids = AllPairs (λ one other. one.number < other.number) kids

-- each child has one of the children
pub record AreChildren (children : List Child) (kids : List Kid) : Type 0 where
  pub each : (kid : Kid) → Contains kids kid → Contains children kid.child

-- the children that there were come before those that there are
abbrev pub KeepsChildren : List Child → List Child → Type 0
KeepsChildren old new = (more : List Child) × (new ≡ old ++ more)

-- the step says that the job of the number has ended
abbrev pub tells_end_of : ℕ → TurnStep → Bool
tells_end_of number (Ended other ending) = other == number
tells_end_of number (HandedOver other second) = false
tells_end_of number (Interrupted other) = false
tells_end_of number (Forgotten other) = false

-- the children that stay: those whose job ran, and of which the steps report no end
abbrev pub kept_kids : JobTable → List TurnStep → List Kid → List Kid
kept_kids table steps kids = filter (λ kid. runs_in table kid && not (list_any (tells_end_of kid.number) steps)) kids

-- the numbers of the scripts of which a child came
abbrev pub started_numbers : List Handed → List ℕ
started_numbers given = map (λ handed. handed.number) (filter (λ handed. handed.started) given)

-- The children after the steps, by number: those that stay, and those that were added.
pub record AreKidsAfter (table : JobTable) (steps : List TurnStep) (before added after : List Kid) : Type 0 where
  pub same : IsPermutation (kept_kids table steps before ++ added) after
  pub ordered : AreKidsByNumber after
