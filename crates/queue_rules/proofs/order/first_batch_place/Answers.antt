use Rattle.std.proofs.Common.{rules, ◌≡◌, ap, ◌∙◌}
use Rattle.std.proofs.lemmas.Iterator.{YieldsList-from_slice, YieldsList-from_map}
use Rattle.std.proofs.lemmas.Iterator.Consumers.{YieldsList-from_filter, reduce_from_yields_List}
use Rattle.std.specs.Iterator.Adapters.{filter_callee}
use Rattle.std.specs.List.{reduce}
use Rattle.queue_rules.specs.Order.{is_ready_batch, place_in_queue, places_of}
use Rattle.queue_rules.proofs.OrderLemmas.{earlier_of, first-reduce, none-reduce}
use Rattle.queue_rules.proofs.order.first_batch_place.Goals as goal
use borrow.Author.Tests.{tests}

value : (c : goal.After-min) → c.min.result ≡ reduce earlier_of (places_of (is_ready_batch c.args.now) c.args.rows.now)
value c =
    reduce_from_yields_List earlier_of _ _ c.min.ensures.ran
    (YieldsList-from_map _ place_in_queue
    (YieldsList-from_filter _ (is_ready_batch c.args.now) (YieldsList-from_slice c.args.rows.now cc) (ap filter_callee c.map.ensures.source
    ∙ c.filter.ensures.closure) (λ x b q k. search (rules, tests)))
    c.map.ensures.closure (λ x r q k. search (rules, tests)))

pub returns : goal.returns
returns c =
    let places = places_of (is_ready_batch c.args.now) c.args.rows.now in
    rw (value c) (record { some = first-reduce places; none = none-reduce places })
