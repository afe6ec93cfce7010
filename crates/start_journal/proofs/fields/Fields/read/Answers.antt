use Rattle.start_journal.proofs.fields.Fields.read.Goals as goal

pub returns-in_err-number-clause-none : goal.returns-in_err-number-clause-none
returns-in_err-number-clause-none c =
    rw c.from_residual.ensures (λ fields spelled. c.in_err-number.ensures.none fields.number spelled.number)

pub returns-in_err-status-clause-none : goal.returns-in_err-status-clause-none
returns-in_err-status-clause-none c =
    rw c.from_residual-in_err-status.ensures (λ fields spelled. c.in_err-status.ensures.none fields.status spelled.status)

pub returns-in_err-second-clause-none : goal.returns-in_err-second-clause-none
returns-in_err-second-clause-none c =
    rw c.from_residual-in_err-second.ensures (λ fields spelled. c.in_err-second.ensures.none fields.second spelled.second)
