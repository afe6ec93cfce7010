use Rattle.std.proofs.Common.{[], take, ◌∙◌}
use Rattle.spool_store.specs.inside.JobRows.{scanned_numbers}
use Rattle.spool_store.specs.inside.ScannedJobs.{file_scanned, files_scanned}
use Rattle.spool_store.proofs.ScanLemmas.{answer_fault, so_far_all, so_far_damage, so_far_more, rows_have, scanned_at, scanned_after, scanned_inside}
use Rattle.spool_store.proofs.job_rows.rows_of_files.Goals as goal

pub returns-in_err-row : goal.returns-in_err-row
returns-in_err-row c = λ marks tells.
    let files = files_scanned c.args.scanned.now in
    let file = c.file-item.result in
    let so_far = c.loop-file.invariant marks tells in
    answer_fault _ _ c.in_err-row.field-0.0 c.from_residual.result c.from_residual.ensures.1
    (so_far_damage c.args.last marks files c.loop-file.file-index c.loop-file.rows.entries (file_scanned file) c.in_err-row.field-0.0
    (scanned_inside c.args.scanned.now c.loop-file.file-index c.loop-file-test.true)
    (scanned_at c.args.scanned.now c.loop-file.file-index file c.loop-file-test.true c.file-item.is) so_far
    (c.in_err-row.ensures (scanned_numbers [] (take c.loop-file.file-index files)) marks (c.contains_key.ensures
    ∙ rows_have marks (take c.loop-file.file-index files) c.loop-file.rows.entries so_far.rows_are file.job.number) tells))

pub loop-file-preserved : goal.loop-file-preserved
loop-file-preserved c = λ marks tells.
    let files = files_scanned c.args.scanned.now in
    let file = c.file-item.result in
    let so_far = c.loop-file.invariant marks tells in
    so_far_more c.args.last marks files c.loop-file.file-index c.loop-file.rows.entries c.put_row.new.rows.entries
    (file_scanned file) c.in_ok-row.row
    (scanned_inside c.args.scanned.now c.loop-file.file-index c.loop-file-test.true)
    (scanned_at c.args.scanned.now c.loop-file.file-index file c.loop-file-test.true c.file-item.is) so_far
    (c.in_ok-row.ensures (scanned_numbers [] (take c.loop-file.file-index files)) marks (c.contains_key.ensures
    ∙ rows_have marks (take c.loop-file.file-index files) c.loop-file.rows.entries so_far.rows_are file.job.number) tells)
    c.in_ok-put_row.ensures.0

pub returns : goal.returns
returns c = λ marks tells.
    so_far_all c.args.last marks (files_scanned c.args.scanned.now) c.loop-file.file-index c.loop-file.rows.entries
    (scanned_after c.args.scanned.now c.loop-file.file-index c.loop-file-test.false) (c.loop-file.invariant marks tells)
