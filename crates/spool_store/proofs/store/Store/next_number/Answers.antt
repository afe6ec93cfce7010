use Rattle.spool_store.proofs.SubmitAnswers.{next_number, no_number, no_room}
use Rattle.spool_store.proofs.store.Store.next_number.Goals as goal

pub returns-then-rows-ge-MAX_LIVE-clause-refused : goal.returns-then-rows-ge-MAX_LIVE-clause-refused
returns-then-rows-ge-MAX_LIVE-clause-refused c =
    no_room c.args.self.now c.self.inside.jobs c.self.inside.journal c.self.inside.old_form.items c.self.view_is c.rows.result.now
    c.rows.ensures c.if-rows-ge-MAX_LIVE.true

pub returns-then-last-ge-LAST_NUMBER-clause-refused : goal.returns-then-last-ge-LAST_NUMBER-clause-refused
returns-then-last-ge-LAST_NUMBER-clause-refused c =
    no_number c.args.self.now c.self.inside.jobs c.self.inside.journal c.self.inside.old_form.items c.self.view_is c.self.invariant
    c.rows.result.now c.last-last.result c.rows.ensures c.if-rows-ge-MAX_LIVE.false c.last-last.ensures c.if-last-ge-LAST_NUMBER.true

pub returns-clause-number : goal.returns-clause-number
returns-clause-number c =
    next_number c.args.self.now c.self.inside.jobs c.self.inside.journal c.self.inside.old_form.items c.self.view_is
    c.rows.result.now c.last-last.result c.rows.ensures c.if-rows-ge-MAX_LIVE.false c.last-last.ensures c.if-last-ge-LAST_NUMBER.false
