use Rattle.std.proofs.Common.{map, string_bytes, sym, subst}
use Rattle.listing_text.specs.declared.cause.Cause.{Cause}
use Rattle.spool_check.specs.CheckOutcome.{ChecksAsRequested}
use Rattle.spool_check.specs.Outside.{directories_at}
use Rattle.spool_check.specs.Words.{check_asked}
use Rattle.spool_check.proofs.CheckLemmas.{does_nothing}
use Rattle.spool_check.proofs.program.check_by_words.Goals as goal

pub returns-in-Err-clause-does : goal.returns-in-Err-clause-does
returns-in-Err-clause-does g c =
    let at = directories_at g.H.Host g.G.Host g.O.Sink c.args.from.now c.args.to.now c.args.out.now in
    subst (λ (cause : Cause). ChecksAsRequested (check_asked (map string_bytes c.args.words.now)) at at cause)
    (sym c.cause_of_words.ensures)
    (does_nothing (check_asked (map string_bytes c.args.words.now)) at c.in-Err.fault c.in-Err.ensures)
