use Rattle.std.proofs.Common.{take}
use Rattle.job_listing.specs.inside.Lines.{ShowsRows}
use Rattle.job_listing.proofs.lines.lines.Given as goal

abbrev pub invariant-loop-row : goal.invariant-loop-row
invariant-loop-row l = ShowsRows l.zone (take l.row-index l.rows) l.text.items
