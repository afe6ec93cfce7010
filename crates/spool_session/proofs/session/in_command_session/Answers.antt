use Rattle.std.proofs.Common.{inl, inr, refl, rules}
use Rattle.std.proofs.lemmas.Result.{err_from_is_err_and}
use Rattle.spool_session.proofs.SessionLemmas.{quiet_done, quiet_undone, risen_done, risen_undone}
use Rattle.spool_session.proofs.session.in_command_session.Goals as goal

pub returns-in_err-answer-clause-quiet : goal.returns-in_err-answer-clause-quiet
returns-in_err-answer-clause-quiet g c = quiet_undone g.H.Host _ _ _ _ c.in_err-answer.field-0.0 c.in_err-answer.ensures.ends

pub returns-in_err-answer-clause-faults : goal.returns-in_err-answer-clause-faults
returns-in_err-answer-clause-faults g c =
    let p = err_from_is_err_and c.from_residual.result c.from_residual.ensures.1 in
    rw (p.1, p.2) (risen_undone g.H.Host _ _ _ _ c.in_err-answer.field-0.0 c.in_err-answer.ensures.ends)

pub returns-in_err-answer-clause-ends : goal.returns-in_err-answer-clause-ends
returns-in_err-answer-clause-ends g c =
    let p = err_from_is_err_and c.from_residual.result c.from_residual.ensures.1 in
    rw (p.1, p.2) (inl (record { fault = c.in_err-answer.field-0.0; is = refl; undone = c.in_err-answer.ensures.ends }))

pub returns-clause-quiet : goal.returns-clause-quiet
returns-clause-quiet g c = quiet_done g.H.Host g.F.FnMut _ _ _ _ c.in_ok-answer.answer c.requires.works c.in_ok-answer.ensures.ends

pub returns-clause-faults : goal.returns-clause-faults
returns-clause-faults g c = risen_done g.H.Host g.F.FnMut _ _ _ _ c.in_ok-answer.answer c.requires.works c.in_ok-answer.ensures.ends

pub returns-clause-ends : goal.returns-clause-ends
returns-clause-ends g c = inr c.in_ok-answer.ensures.ends

pub in_session-requires-clause-may : goal.in_session-requires-clause-may
in_session-requires-clause-may g c = λ at begun. search (rules, c.requires.may, begun.inside)

pub in_session-requires-clause-stays : goal.in_session-requires-clause-stays
in_session-requires-clause-stays g c = λ first last left answer begun did.
    (c.requires.works first last left answer begun.inside
    (record { shown = did.shown; shows = did.shows; left = did.left; called = did.called; leaves = did.leaves })).inside.stays.inside
