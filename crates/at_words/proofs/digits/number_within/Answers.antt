use Rattle.std.proofs.Common.{sym, ◌∙◌, rules}
use Rattle.at_words.proofs.DigitLemmas.{decimal_in-Ok, decimal_in-Err}
use Rattle.at_words.proofs.digits.number_within.Goals as goal

pub returns-in-Ok : goal.returns-in-Ok
returns-in-Ok c =
    c.limited.ensures
    ∙ decimal_in-Ok c.args.most c.args.least c.args.greatest c.args.text.now c.in-Ok.number (sym c.is_digits.ensures
    ∙ c.if-not-is_digits.false) c.in-Ok.ensures.value.0

pub returns-in-Err : goal.returns-in-Err
returns-in-Err c =
    decimal_in-Err c.args.most c.args.least c.args.greatest c.args.text.now (sym c.is_digits.ensures ∙ c.if-not-is_digits.false)
    (search rules) c.in-Err.ensures.value.0
