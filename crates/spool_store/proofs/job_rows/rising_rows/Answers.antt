use Rattle.std.proofs.Common.{[], take, arith}
use Rattle.spool_store.specs.inside.JobRows.{rows_by_number, scanned_numbers}
use Rattle.spool_store.specs.inside.ScannedJobs.{file_scanned, files_scanned}
use Rattle.spool_store.proofs.RisingLemmas.{fresh, rising_all, rising_more, rising_none}
use Rattle.spool_store.proofs.ScanLemmas.{answer_fault, so_far_damage, scanned_after, scanned_at, scanned_inside}
use Rattle.spool_store.proofs.job_rows.rising_rows.Goals as goal

pub loop-file-init : goal.loop-file-init
loop-file-init c =
    λ marks tells. rising_none c.args.last marks (files_scanned c.args.scanned.now) c.in_ok-rows.rows.items c.in_ok-rows.ensures.items

pub returns-in_err-row : goal.returns-in_err-row
returns-in_err-row c = λ marks tells.
    let files = files_scanned c.args.scanned.now in
    let file = c.file-item.result in
    let place = c.loop-file.file-index in
    let rows = c.loop-file.rows.items in
    let rising = c.loop-file.invariant marks tells in
    answer_fault _ _ c.in_err-row.field-0.0 c.from_residual-in_err-row.result c.from_residual-in_err-row.ensures.1
    (so_far_damage c.args.last marks files place (rows_by_number rows) (file_scanned file) c.in_err-row.field-0.0
    (scanned_inside c.args.scanned.now place c.loop-file-test.true)
    (scanned_at c.args.scanned.now place file c.loop-file-test.true c.file-item.is) rising.so_far
    (c.in_err-row.ensures (scanned_numbers [] (take place files)) marks
    (fresh marks (take place files) rows c.loop-file.above file.job.number rising.so_far.rows_are rising.below (omega arith)) tells))

pub loop-file-preserved : goal.loop-file-preserved
loop-file-preserved c = λ marks tells.
    let files = files_scanned c.args.scanned.now in
    let file = c.file-item.result in
    let place = c.loop-file.file-index in
    let rows = c.loop-file.rows.items in
    let rising = c.loop-file.invariant marks tells in
    rising_more c.args.last marks files place c.loop-file.above rows c.add_row.new.rows.items (file_scanned file) c.in_ok-row.row
    (scanned_inside c.args.scanned.now place c.loop-file-test.true)
    (scanned_at c.args.scanned.now place file c.loop-file-test.true c.file-item.is) rising (omega arith)
    (c.in_ok-row.ensures (scanned_numbers [] (take place files)) marks
    (fresh marks (take place files) rows c.loop-file.above file.job.number rising.so_far.rows_are rising.below (omega arith)) tells)
    c.in_ok-add_row.ensures

pub returns : goal.returns
returns c = λ marks tells.
    rising_all c.args.last marks (files_scanned c.args.scanned.now) c.loop-file.file-index c.loop-file.above c.loop-file.rows.items
    (scanned_after c.args.scanned.now c.loop-file.file-index c.loop-file-test.false) (c.loop-file.invariant marks tells)
