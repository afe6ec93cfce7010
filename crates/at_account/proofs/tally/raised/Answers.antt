use Rattle.std.proofs.Common.{rules}
use Rattle.std.specs.Option.{option_copied}
use Rattle.at_account.proofs.TallyLemmas.{raised_at}
use Rattle.at_account.proofs.tally.raised.Goals as goal

pub returns : goal.returns
returns c = raised_at (option_copied c.args.counts) c.so_far-raised.result c.args.kind c.saturating_add.result c.requires (search rules)
    c.so_far-raised.ensures c.saturating_add.ensures
