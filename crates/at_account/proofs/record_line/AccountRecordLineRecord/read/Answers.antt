use Rattle.std.proofs.Common.{◌∙◌, subst, sym}
use Rattle.text_reader.specs.HexDigits.{SpellsNumber}
use Rattle.at_account.specs.Lines.{IsEventText}
use Rattle.at_account.proofs.TextLemmas.{digits_part, letter_part, rest_part}
use Rattle.at_account.proofs.record_line.AccountRecordLineRecord.read.Goals as goal

pub returns-in_err-number-clause-none : goal.returns-in_err-number-clause-none
returns-in_err-number-clause-none c = rw c.from_residual.ensures (λ one spelled.
    c.in_err-number.ensures.none one.number spelled.some
    (subst (λ digits. SpellsNumber digits one.number)
    (sym (c.split_at.ensures.front ∙ digits_part c.args.line.now one spelled)) spelled.number))

pub returns-in_err-event-clause-none : goal.returns-in_err-event-clause-none
returns-in_err-event-clause-none c = rw c.from_residual-in_err-event.ensures (λ one spelled.
    c.in_err-event.ensures.none one.event
    (subst (λ letter. IsEventText letter c.split_at.result.1.now one.event) (sym (letter_part c.args.line.now one spelled))
    (subst (λ rest. IsEventText spelled.letter rest one.event)
    (sym (c.split_at.ensures.back ∙ rest_part c.args.line.now one spelled)) spelled.event)))
