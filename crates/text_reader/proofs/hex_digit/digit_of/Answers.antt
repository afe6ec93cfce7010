use Rattle.std.proofs.Common.{◌<◌, ◌≤◌, get_or, arith}
use Rattle.std.proofs.lemmas.Bool.Decides.{nat_tests}
use Rattle.text_reader.specs.declared.hex_digit.TheConstants.{DIGITS}
use Rattle.text_reader.proofs.DigitTable.{digit_given, no_digit_given, table_value}
use Rattle.text_reader.proofs.hex_digit.digit_of.Goals as goal

pub returns-then-digit-lt16-clause-digit : goal.returns-then-digit-lt16-clause-digit
returns-then-digit-lt16-clause-digit c =
    let small : get_or DIGITS c.args.byte 0 < 16 = grind (arith, nat_tests) in
    digit_given c.args.byte (get_or DIGITS c.args.byte 0) (table_value c.args.byte (omega arith)) small

pub returns-else-digit-lt16-clause-none : goal.returns-else-digit-lt16-clause-none
returns-else-digit-lt16-clause-none c = λ digit small same.
    let great : 16 ≤ get_or DIGITS c.args.byte 0 = grind (arith, nat_tests) in
    no_digit_given c.args.byte (get_or DIGITS c.args.byte 0) digit (table_value c.args.byte (omega arith)) great small same
