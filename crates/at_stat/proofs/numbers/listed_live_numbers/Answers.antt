use Rattle.std.proofs.Common.{◌≡◌, ◌&&◌, Bool, List, IsPermutation, filter, ap, subst, sym, ◌∙◌}
use Rattle.listing_text.specs.Listing.{may_see}
use Rattle.queue_rules.specs.Order.{row_numbers}
use Rattle.spool_model.specs.declared.row.Row.{Row}
use Rattle.spool_model.specs.Lists.{live_rows}
use Rattle.spool_store.proofs.CountLemmas.{rows_listed}
use Rattle.spool_store.proofs.Edits.{test_from}
use Rattle.job_listing.proofs.OrderLemmas.{kept_differ}
use Rattle.at_stat.specs.Reports.{is_in_queue}
use Rattle.at_stat.proofs.LineLemmas.{if_ok}
use Rattle.at_stat.proofs.numbers.listed_live_numbers.Goals as goal

pub sort_rows-requires : goal.sort_rows-requires
sort_rows-requires c =
    kept_differ c.rows.result.now c.in_ok-rows.rows.items
    (λ row. may_see c.args.user.now row && is_in_queue c.args.queue row) (test_from _ c.rows.ensures.rows.rise) c.in_ok-rows.ensures

pub returns : goal.returns
returns c =
    let moved = c.sort_rows.new.rows.items in
    let test : Row → Bool = λ row. may_see c.args.user.now row && is_in_queue c.args.queue row in
    let listed : c.in_ok-rows.rows.items ≡ filter test (live_rows c.args.store.now.table) =
    c.in_ok-rows.ensures
    ∙ ap (λ (rows : List Row). filter test rows) (sym (rows_listed c.args.store.now.table c.rows.result.now c.rows.ensures.rows)) in
    if_ok c.numbers_of_rows.result _ _ (λ numbers is. record {
      rows = moved;
      same = subst (λ (seen : List Row). IsPermutation seen moved) listed c.sort_rows.ensures.same;
      ordered = c.sort_rows.ensures.ordered;
      named = is ∙ ap row_numbers c.deref.ensures.value;
    }) c.numbers_of_rows.ensures
