use Rattle.std.proofs.Common.{ap, sym, ◌/◌, ◌%◌}
use Rattle.text_reader.proofs.DigitLemmas.{power_of_two}
use Rattle.text_reader.proofs.hex_number.digit_of_number.Goals as goal

pub returns : goal.returns
returns c = ap (λ power. c.args.number / power % 16) (sym (power_of_two c.args.place))
