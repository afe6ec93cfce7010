use Rattle.std.proofs.Common.{◌≡◌, drop}
use Rattle.at_stat.specs.Checks.{numbers_check}
use Rattle.at_stat.proofs.checks.refusal_of_numbers.Given as goal

-- the numbers from here on decide
abbrev pub invariant-loop-number : goal.invariant-loop-number
invariant-loop-number l =
    numbers_check l.user l.store.table l.numbers ≡ numbers_check l.user l.store.table (drop l.number-index l.numbers)
