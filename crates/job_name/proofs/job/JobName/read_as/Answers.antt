use Rattle.std.proofs.Common.{◌≡◌, true, false, sym, ◌∙◌}
use Rattle.job_name.proofs.JobNameLemmas.{in_range_of, one_job}
use Rattle.job_name.specs.JobName.{IsInRange}
use Rattle.job_name.proofs.job.JobName.read_as.Goals as goal

pub returns-in_err-number-clause-found : goal.returns-in_err-number-clause-found
returns-in_err-number-clause-found c =
    λ queue number minute spelled. absurd (c.in_err-number.ensures.none number (rw c.number_digits-digits.ensures spelled.next_digits))

pub returns-in_err-minute-clause-found : goal.returns-in_err-minute-clause-found
returns-in_err-minute-clause-found c =
    λ queue number minute spelled. absurd (c.in_err-minute.ensures.none minute (rw c.number_digits-digits.ensures spelled.last_eight))

pub returns-clause-found : goal.returns-clause-found
returns-clause-found c = λ queue number minute spelled. one_job c.args.bytes.now queue number minute c.in_ok-number.field-0
    c.in_ok-minute.field-0 c.args.new_form spelled (rw (← c.number_digits-digits.ensures) c.in_ok-number.ensures.number)
    (rw (← c.number_digits-digits.ensures) c.in_ok-minute.ensures.number)

pub returns-then-not-is_in_range-clause-found : goal.returns-then-not-is_in_range-clause-found
returns-then-not-is_in_range-clause-found c = λ queue number minute spelled.
    let within : IsInRange _ _ _ = in_range_of c.args.bytes.now queue number minute c.in_ok-number.field-0
    c.in_ok-minute.field-0 c.args.new_form spelled (rw (← c.number_digits-digits.ensures) c.in_ok-number.ensures.number)
    (rw (← c.number_digits-digits.ensures) c.in_ok-minute.ensures.number) in
    let impossible : true ≡ false = sym (c.is_in_range.ensures.1 within) ∙ c.if-not-is_in_range.true in
    cc
