-- The definitions of a turn at small values, computed.
use Rattle.std.proofs.Common.{◌≡◌, true, false, [], ◌∷◌, pos, refl}
use Rattle.std.specs.Prelude.{Some, None}
use Rattle.host_calls.specs.declared.child.Ending.TheVariants.{Exit, NotStarted}
use Rattle.queue_rules.specs.Queues.{may_start_batch, niceness_of}
use Rattle.spool_model.specs.declared.turn_step.TurnStep.TheVariants.{Ended, HandedOver}
use Rattle.daemon_turn.specs.Decisions.{end_steps}
use Rattle.daemon_turn.specs.StartOrder.{steps_of_starts}

-- a start that failed is ended, and the job after it is started
failed_start : steps_of_starts (1 ∷ 2 ∷ []) (pos 1735689600) (false ∷ true ∷ [])
    ≡ HandedOver 1 (pos 1735689600) ∷ Ended 1 NotStarted ∷ HandedOver 2 (pos 1735689600) ∷ []
failed_start = refl

-- where no start has answered yet, the next one may have taken effect, and none after it
first_start : steps_of_starts (1 ∷ 2 ∷ []) (pos 1735689600) [] ≡ HandedOver 1 (pos 1735689600) ∷ []
first_start = refl

-- each end is that of the child that reported it
second_kid : end_steps (record { number = 1; child = record { id = 0 } } ∷ record { number = 4; child = record { id = 1 } } ∷ [])
    (None ∷ Some (Exit 3) ∷ []) ≡ Ended 4 (Exit 3) ∷ []
second_kid = refl

-- in a batch queue: none at the limit, one below it, none before the interval is over, one then, none without a load
at_the_limit : may_start_batch (Some 150) 150 None (pos 1735689600) 60 ≡ false
at_the_limit = refl

below_the_limit : may_start_batch (Some 149) 150 None (pos 1735689600) 60 ≡ true
below_the_limit = refl

too_soon : may_start_batch (Some 149) 150 (Some (pos 1735689600)) (pos 1735689659) 60 ≡ false
too_soon = refl

rested : may_start_batch (Some 149) 150 (Some (pos 1735689600)) (pos 1735689660) 60 ≡ true
rested = refl

without_load : may_start_batch None 150 None (pos 1735689600) 60 ≡ false
without_load = refl

nice_of_b : niceness_of 98 ≡ 2
nice_of_b = refl
