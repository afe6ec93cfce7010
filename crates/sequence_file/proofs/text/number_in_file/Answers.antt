use Rattle.std.proofs.Common.{sym, subst, take}
use Rattle.text_reader.specs.HexDigits.{SpellsNumber}
use Rattle.sequence_file.proofs.text.number_in_file.Goals as goal

pub returns-in_err-number-clause-none : goal.returns-in_err-number-clause-none
returns-in_err-number-clause-none c = rw c.from_residual.ensures (λ number spelled. c.in_err-number.ensures.none number
    (subst (λ digits. SpellsNumber (take digits c.args.bytes.now) number) (sym c.number_digits-digits.ensures) spelled.digits))
