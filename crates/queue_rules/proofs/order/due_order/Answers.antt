use Rattle.std.proofs.Common.{◌≡◌, ℕ, ℤ, List, w64, map, IsPermutation, ap, subst, ◌∙◌}
use Rattle.std.proofs.lemmas.Int.{to_z-of_z}
use Rattle.std.proofs.lemmas.Result.{IfOk-weaker}
use Rattle.queue_rules.specs.Order.{is_ready_job, places_of}
use Rattle.queue_rules.proofs.OrderLemmas.{in_order}
use Rattle.queue_rules.proofs.order.due_order.Goals as goal

pub returns : goal.returns
returns c =
    let rows = c.args.rows.now in
    let order = c.sort_unstable.new.self.items in
    let listed : c.in_ok-places.places.items ≡ places_of (is_ready_job c.args.now) rows =
    c.in_ok-places.ensures ∙ ap (λ (now : ℤ). places_of (is_ready_job now) rows) (to_z-of_z w64 c.args.now c.ranges.now) in
    IfOk-weaker c.numbers_of_places.result _ _
    (λ numbers numbered. record {
      places = order;
      same = subst (λ (places : List (ℕ × ℕ)). IsPermutation places order) listed c.sort_unstable.ensures.permutation;
      ordered = in_order order c.sort_unstable.ensures.sorted;
      numbered = numbered ∙ ap (λ (places : List (ℕ × ℕ)). map (λ place. place.1) places) c.deref.ensures.value;
    })
    c.numbers_of_places.ensures
