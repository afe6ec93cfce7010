use Rattle.std.proofs.Common.{sym}
use Rattle.listing_text.proofs.DateLemmas.{decimal-four}
use Rattle.listing_text.proofs.date.year_digits.Goals as goal

pub returns : goal.returns
returns c = sym (decimal-four c.args.year c.requires.low c.requires.high)
