use Rattle.std.proofs.Common.{◌<◌, IsTrue, arith, length, refl, rules, subst, sym, take}
use Rattle.std.proofs.lemmas.List.{take_all}
use Rattle.std.proofs.lemmas.List.Elements.{All-more, All-same}
use Rattle.later_day.specs.LaterEventEffects.{IsLaterEvent}
use Rattle.later_day.proofs.may_come.are_later_events.Goals as goal

pub loop-event-preserved : goal.loop-event-preserved
loop-event-preserved c =
    let inside : c.loop-event.event-index < length c.args.events.now = omega arith in
    let may : IsTrue c.is_later_event.result = search rules in
    All-more IsLaterEvent c.args.events.now c.loop-event.event-index c.event-item.result inside c.loop-event.invariant
    (subst IsLaterEvent c.event-item.is (c.is_later_event.ensures.0 may))

pub returns : goal.returns
returns c = (
  λ yes.
      All-same IsLaterEvent c.args.events.now (take c.loop-event.event-index c.args.events.now)
      (sym (take_all c.loop-event.event-index c.args.events.now (omega arith))) c.loop-event.invariant,
  λ all. refl,
)
