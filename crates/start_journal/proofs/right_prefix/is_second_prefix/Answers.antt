use Rattle.start_journal.proofs.PrefixLemmas.{no_second_begun, second_begun}
use Rattle.start_journal.proofs.right_prefix.is_second_prefix.Goals as goal

pub returns-in-Some : goal.returns-in-Some
returns-in-Some c = second_begun c.args.kind c.in-Some.prefix c.args.digits.now c.else-kind-ne83.either c.in-Some.ensures.number

pub returns-in-None : goal.returns-in-None
returns-in-None c = no_second_begun c.args.kind c.args.digits.now c.else-kind-ne83.either c.in-None.ensures.none
