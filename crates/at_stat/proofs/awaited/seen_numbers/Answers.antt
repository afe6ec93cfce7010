use Rattle.std.proofs.Common.{◌&&◌, ◌∙◌, ap, sym, List, filter}
use Rattle.at_stat.specs.Reports.{is_in_queue}
use Rattle.at_stat.proofs.LineLemmas.{if_ok}
use Rattle.listing_text.specs.Listing.{may_see}
use Rattle.queue_rules.specs.Order.{row_numbers}
use Rattle.spool_model.specs.declared.row.Row.{Row}
use Rattle.spool_store.proofs.CountLemmas.{rows_listed}
use Rattle.at_stat.proofs.awaited.seen_numbers.Goals as goal

pub returns : goal.returns
returns c =
    if_ok c.numbers_of_states.result _ _ (λ numbers is. is
    ∙ ap (λ (rows : List Row). row_numbers (filter (λ row. may_see c.args.user.now row && is_in_queue c.args.queue row) rows))
    (sym (rows_listed c.args.store.now.table c.rows.result.now c.rows.ensures.rows))) c.numbers_of_states.ensures
