use Rattle.std.proofs.Common.{arith, subst, sym}
use Rattle.text_reader.specs.HexDigits.{SpellsNumber}
use Rattle.text_reader.proofs.DigitLemmas.{one_number}
use Rattle.text_reader.proofs.EightDigits.{digits_spelled, spelled_eight}
use Rattle.at_account.proofs.record_line.job_number_in.Goals as goal

pub returns-in_err-number-clause-none : goal.returns-in_err-number-clause-none
returns-in_err-number-clause-none c = rw c.from_residual.ensures (λ number some spelled.
    let eight = spelled_eight c.args.digits.now number c.requires spelled in
    c.in_err-number.ensures.none number eight.0 eight.1)

pub returns-then-number-eq0-clause-none : goal.returns-then-number-eq0-clause-none
returns-then-number-eq0-clause-none c number some spelled =
    let read = subst (λ bytes. SpellsNumber bytes c.in_ok-number.number) (sym c.in_ok-number.ensures.some)
    (digits_spelled c.in_ok-number.number c.in_ok-number.ensures.fits) in
    let same = one_number c.args.digits.now number c.in_ok-number.number spelled read in
    let zero = c.if-number-eq0.true in
    omega arith

pub returns-clause-number : goal.returns-clause-number
returns-clause-number c =
    subst (λ bytes. SpellsNumber bytes c.in_ok-number.number) (sym c.in_ok-number.ensures.some)
    (digits_spelled c.in_ok-number.number c.in_ok-number.ensures.fits)
