use Rattle.std.proofs.Common.{◌∙◌, ap, map, subst, sym}
use Rattle.std.specs.List.{All}
use Rattle.spool_model.specs.declared.row.Row.{Row}
use Rattle.spool_store.specs.Listed.{IsLive}
use Rattle.spool_store.proofs.CountLemmas.{rows_listed}
use Rattle.mail_session.proofs.NewsLemmas.{all_live}
use Rattle.mail_session.proofs.new_jobs.live_numbers.Goals as goal

pub returns-clause-numbers : goal.returns-clause-numbers
returns-clause-numbers c =
    c.in_ok-numbers.ensures
    ∙ ap (map (λ (row : Row). row.number)) (sym (rows_listed c.args.store.now.table c.rows.result.now c.rows.ensures.rows))

pub returns-clause-live : goal.returns-clause-live
returns-clause-live c =
    subst (All (IsLive c.args.store.now.table)) (sym c.in_ok-numbers.ensures)
    (all_live c.args.store.now.table c.rows.result.now c.rows.ensures.rows)
