use Rattle.text_tests.proofs.numbers.NumberLineRecord.read.Goals as goal

pub returns-in_err-number-clause-none : goal.returns-in_err-number-clause-none
returns-in_err-number-clause-none c = rw c.from_residual.ensures (λ one spelled. c.in_err-number.ensures.none one.number spelled.spelled)
