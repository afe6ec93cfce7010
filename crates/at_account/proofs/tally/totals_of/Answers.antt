use Rattle.std.proofs.Common.{◌++◌, []}
use Rattle.at_account.proofs.LineLemmas.{are_totals}
use Rattle.at_account.proofs.TallyLemmas.{tally_empty}
use Rattle.at_account.proofs.tally.totals_of.Goals as goal

pub returns : goal.returns
returns c ledger fits =
    let all = c.args.old.now ++ c.args.new.now in
    let first = c.in_ok-count_all.ensures all [] ledger (tally_empty all c.new-tally.result c.new-tally.ensures.empty) in
    are_totals all c.count_all-2.new.tally c.in_ok-lines.lines.items c.in_ok-lines.ensures.ordered fits
    (c.in_ok-count_all-2.ensures all c.args.old.now ledger first) c.in_ok-lines.ensures.lines
