use Rattle.std.proofs.Common.{sym}
use Rattle.text_tests.proofs.LetterLemmas.{last_more}
use Rattle.text_tests.proofs.letters.RisingKeeperLetter.add.Goals as goal

pub returns : goal.returns
returns c before tells may = sym (last_more before c.args.next.now)
