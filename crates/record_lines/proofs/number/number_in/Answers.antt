use Rattle.std.proofs.Common.{subst, sym}
use Rattle.text_reader.specs.HexDigits.{SpellsNumber}
use Rattle.text_reader.proofs.EightDigits.{digits_spelled, spelled_eight}
use Rattle.record_lines.proofs.number.number_in.Goals as goal

pub returns-in_err-number-clause-none : goal.returns-in_err-number-clause-none
returns-in_err-number-clause-none c = rw c.from_residual.ensures (λ number fits is. c.in_err-number.ensures.none number
    (subst (λ bytes. SpellsNumber bytes number) (sym is) (digits_spelled number fits)))

pub returns-clause-some : goal.returns-clause-some
returns-clause-some c = (spelled_eight c.args.digits.now c.in_ok-number.number c.requires c.in_ok-number.ensures.number).1
