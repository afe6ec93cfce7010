use Rattle.std.proofs.Common.{◌∙◌}
use Rattle.mail_notes.proofs.LineLemmas.{has_space, parts_found, tail_is}
use Rattle.mail_notes.proofs.line.parts_in.Goals as goal

pub returns-in_err-after-clause-none : goal.returns-in_err-after-clause-none
returns-in_err-after-clause-none c = rw c.from_residual.ensures (λ file user flag parts. c.in_err-after.ensures.none _ parts.is)

pub returns-in_err-end-clause-none : goal.returns-in_err-end-clause-none
returns-in_err-end-clause-none c = rw c.from_residual-in_err-end.ensures (λ file user flag parts.
    has_space c.args.rest.now c.in_ok-after.after.now c.in_ok-after.ensures.some file flag user parts c.in_err-end.ensures)

pub returns-in_err-tail-clause-none : goal.returns-in_err-tail-clause-none
returns-in_err-tail-clause-none c = rw c.from_residual-in_err-tail.ensures (λ file user flag parts.
    c.in_err-tail.ensures.none flag user
    (c.split_at.ensures.back
    ∙ tail_is c.args.rest.now c.in_ok-after.after.now c.in_ok-after.ensures.some file flag user parts c.in_ok-end.end c.in_ok-end.ensures))

pub returns-clause-some : goal.returns-clause-some
returns-clause-some c =
    parts_found c.args.rest.now c.in_ok-after.after.now c.split_at.result.0.now c.split_at.result.1.now c.in_ok-end.end
    c.in_ok-tail.tail.flag c.in_ok-tail.tail.user.now
    c.in_ok-after.ensures.some c.in_ok-end.ensures c.split_at.ensures.front c.split_at.ensures.back c.in_ok-tail.ensures.some
