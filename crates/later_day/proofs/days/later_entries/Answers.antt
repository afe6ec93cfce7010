use Rattle.std.proofs.Common.{◌≡◌, ◌++◌, [], ◌∷◌, ◌<◌, arith, length, subst, sym}
use Rattle.std.proofs.lemmas.List.{take_all}
use Rattle.later_day.specs.LaterEventEffects.{IsLaterEvent}
use Rattle.later_day.specs.LaterMachines.{first_later_machine, later_machine}
use Rattle.at_day.proofs.OutcomeLemmas.{on_err, unchanged_same}
use Rattle.later_day.proofs.LaterLoop.{later_cut_after, later_cut_at, later_day_of, later_so_far_at_first, later_so_far_more, outside_unreported}
use Rattle.later_day.proofs.PromiseLemmas.{later_outcomes_keep_their_promise}
use Rattle.later_day.proofs.days.later_entries.Goals as goal

pub loop-event-init : goal.loop-event-init
loop-event-init c =
    later_so_far_at_first c.args.program.now c.args.events.now c.args.host.now _ _ _ c.new-entries.ensures.items
    c.new-daemon.ensures c.requires.post c.requires.outside

pub one_later_event-requires-clause-event : goal.one_later_event-requires-clause-event
one_later_event-requires-clause-event c =
    let inside : c.loop-event.event-index < length c.args.events.now = omega arith in
    subst IsLaterEvent (sym c.event-item.is) (c.requires.events c.loop-event.event-index c.event-item.result inside)

pub returns-in_err-reserve-clause-cut : goal.returns-in_err-reserve-clause-cut
returns-in_err-reserve-clause-cut c =
    on_err c.from_residual.result
    (later_cut_after c.args.program.now c.args.events.now c.loop-event.event-index c.loop-event.entries.items
    (first_later_machine c.args.host.now c.args.program.now) (later_machine c.loop-event.host c.loop-event.daemon c.loop-event.post)
    c.loop-event.invariant later_outcomes_keep_their_promise c.loop-event.host (unchanged_same c.loop-event.host))

pub returns-in_err-entry-clause-outside : goal.returns-in_err-entry-clause-outside
returns-in_err-entry-clause-outside c =
    outside_unreported c.args.program.now c.event-item.result (later_machine c.loop-event.host c.loop-event.daemon c.loop-event.post)
    c.one_later_event.new.host c.loop-event.invariant.ready c.in_err-entry.ensures.unreported

pub returns-in_err-entry-clause-cut : goal.returns-in_err-entry-clause-cut
returns-in_err-entry-clause-cut c =
    let inside : c.loop-event.event-index < length c.args.events.now = omega arith in
    on_err c.from_residual-in_err-entry.result
    (later_cut_at later_outcomes_keep_their_promise c.args.program.now c.args.events.now c.loop-event.event-index c.loop-event.entries.items
    (first_later_machine c.args.host.now c.args.program.now) (later_machine c.loop-event.host c.loop-event.daemon c.loop-event.post)
    c.loop-event.invariant c.event-item.result inside c.event-item.is
    (subst IsLaterEvent (sym c.event-item.is) (c.requires.events c.loop-event.event-index c.event-item.result inside))
    c.one_later_event.new.host c.in_err-entry.ensures.unreported)

pub loop-event-preserved : goal.loop-event-preserved
loop-event-preserved c =
    let put : c.push_reserved.new.self.items ≡ c.loop-event.entries.items ++ c.in_ok-entry.entry ∷ [] =
    cc (c.push_reserved.ensures.items, c.in_ok-reserve.ensures.items) in
    let inside : c.loop-event.event-index < length c.args.events.now = omega arith in
    later_so_far_more c.args.program.now c.args.events.now c.loop-event.event-index c.loop-event.entries.items
    c.push_reserved.new.self.items
    (first_later_machine c.args.host.now c.args.program.now) (later_machine c.loop-event.host c.loop-event.daemon c.loop-event.post)
    c.loop-event.invariant c.event-item.result inside c.event-item.is
    (subst IsLaterEvent (sym c.event-item.is) (c.requires.events c.loop-event.event-index c.event-item.result inside))
    c.in_ok-entry.entry (later_machine c.one_later_event.new.host c.one_later_event.new.daemon c.one_later_event.new.post)
    c.in_ok-entry.ensures.happens put

pub returns-clause-day : goal.returns-clause-day
returns-clause-day c =
    later_day_of c.args.program.now c.args.events.now c.loop-event.event-index c.loop-event.entries.items
    (first_later_machine c.args.host.now c.args.program.now) (later_machine c.loop-event.host c.loop-event.daemon c.loop-event.post)
    c.loop-event.invariant later_outcomes_keep_their_promise (take_all c.loop-event.event-index c.args.events.now (omega arith))
