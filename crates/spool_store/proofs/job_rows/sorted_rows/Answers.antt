use Rattle.spool_store.specs.inside.ScannedJobs.{files_scanned}
use Rattle.spool_store.proofs.TableLemmas.{lists_rows}
use Rattle.spool_store.proofs.job_rows.sorted_rows.Goals as goal

pub returns : goal.returns
returns c = λ marks tells.
    let whole = c.in_ok-by_number.ensures marks tells in (
      whole.0,
      lists_rows marks (files_scanned c.args.scanned.now) c.in_ok-by_number.by_number.entries c.in_ok-rows.rows.items whole.1
          c.in_ok-rows.ensures.ordered c.in_ok-rows.ensures.items,
    )
