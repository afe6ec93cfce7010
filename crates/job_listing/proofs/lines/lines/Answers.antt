use Rattle.std.proofs.Common.{subst, sym}
use Rattle.host_calls.specs.ClockRange.{IsClockMinute}
use Rattle.listing_text.specs.Listing.{ShowsRow}
use Rattle.spool_model.specs.declared.row.Row.{Row}
use Rattle.job_listing.proofs.LineLemmas.{one_more}
use Rattle.job_listing.proofs.lines.lines.Goals as goal

pub put_row_line-requires-clause-minute : goal.put_row_line-requires-clause-minute
put_row_line-requires-clause-minute c =
    subst (λ (row : Row). IsClockMinute row.minute) (sym c.row-item.is)
    (c.requires.minutes c.loop-row.row-index c.row-item.result c.loop-row-test.true)

pub loop-row-preserved : goal.loop-row-preserved
loop-row-preserved c =
    one_more c.args.zone.now c.args.rows.now c.loop-row.row-index c.row-item.result c.loop-row.text.items c.in_ok-put_row_line.ensures.line
    c.put_row_line.new.text.items c.loop-row-test.true c.loop-row.invariant
    (subst (λ (row : Row). ShowsRow c.args.zone.now row c.in_ok-put_row_line.ensures.line) c.row-item.is c.in_ok-put_row_line.ensures.shown)
    c.in_ok-put_row_line.ensures.put
