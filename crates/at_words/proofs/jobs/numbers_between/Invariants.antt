use Rattle.std.proofs.Common.{◌≡◌, drop}
use Rattle.at_words.specs.Numbers.{numbers_between, with_numbers}
use Rattle.clap.specs.Walk.{texts}
use Rattle.at_words.proofs.jobs.numbers_between.Given as goal

abbrev pub invariant-loop-operand : goal.invariant-loop-operand
invariant-loop-operand l =
    with_numbers l.least l.greatest l.numbers (texts (drop l.operand-index l.operands))
    ≡ numbers_between l.least l.greatest (texts l.operands)
