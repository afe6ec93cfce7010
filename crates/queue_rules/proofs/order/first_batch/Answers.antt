use Rattle.std.proofs.Common.{ℤ, w64, subst}
use Rattle.std.proofs.lemmas.Int.{to_z-of_z}
use Rattle.queue_rules.specs.Order.{IsFirstOf, is_ready_batch, places_of}
use Rattle.queue_rules.proofs.order.first_batch.Goals as goal

pub returns-clause-some : goal.returns-clause-some
returns-clause-some c = record {
  minute = c.in_ok-place.place.0;
  first = subst (λ (now : ℤ). IsFirstOf (places_of (is_ready_batch now) c.args.rows.now) c.in_ok-place.place)
      (to_z-of_z w64 c.args.now c.ranges.now) c.in_ok-place.ensures.some;
}
