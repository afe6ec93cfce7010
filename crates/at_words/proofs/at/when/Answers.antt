use Rattle.std.proofs.Common.{◌<◌, length, rules, ◌∙◌}
use Rattle.at_words.proofs.OperandLemmas.{spec_asked}
use Rattle.at_words.proofs.at.when.Goals as goal

pub returns-in_ok-join-in-None : goal.returns-in_ok-join-in-None
returns-in_ok-join-in-None c =
    let some : 0 < length c.args.operands.now = search rules in
    rw c.in-None.is (spec_asked c.args.operands.now c.from.result some (c.from.ensures ∙ c.in_ok-join-in-None.ensures.ok))
