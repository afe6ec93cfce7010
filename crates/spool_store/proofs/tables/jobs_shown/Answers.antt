use Rattle.spool_store.specs.inside.ScannedJobs.{files_scanned}
use Rattle.spool_store.proofs.ListedLemmas.{are_listed}
use Rattle.spool_store.proofs.tables.jobs_shown.Goals as goal

pub of-requires : goal.of-requires
of-requires c =
    are_listed c.args.last c.in_ok-rows.rows.items c.in_ok-rows.decided.items
    (c.in_ok-rows.ensures.drawn c.requires.undecided c.requires.writable c.requires.drawn)
    c.args.marks.now (files_scanned c.args.scanned.now) c.in_ok-rows.ensures.table
