use Rattle.std.proofs.Common.{◌≡◌, ◌<◌, ap, arith, length, rules, subst, sym}
use Rattle.host_calls.specs.declared.child.Child.{Child}
use Rattle.host_calls.specs.World.{Asks}
use Rattle.std.specs.Prelude.{Contains, Ok}
use Rattle.daemon_turn.specs.declared.kid.Kid.{Kid}
use Rattle.mail_session.specs.inside.RemainingChildren.{IsChildAt}
use Rattle.mail_session.proofs.AskingLemmas.{all_asked, child_held, none_asked, one_asked, place_inside, some_asked}
use Rattle.std.proofs.Common.{List}
use Rattle.mail_session.proofs.ask.ask_kids.Goals as goal

pub loop-count-init : goal.loop-count-init
loop-count-init g c = record {
  inside = search rules;
  has = none_asked g.H.Host.tells c.args.kids.now.items (g.H.Host.world c.args.host.now);
}

pub child_at-child-requires : goal.child_at-child-requires
child_at-child-requires g c =
    let below : c.loop-count._count < length c.args.kids.now.items = omega (arith, ap length c.as_slice-count-end.ensures.value) in
    subst (λ (l : List Kid). c.loop-count.place < length l) (sym c.as_slice.ensures.value)
    (place_inside g.H.Host.tells c.args.kids.now.items c.loop-count._count c.loop-count.place c.loop-count.kids.items
    (g.H.Host.world c.args.host.now) (g.H.Host.world c.loop-count.host) c.loop-count.invariant.has below)

pub ended-requires-clause-started : goal.ended-requires-clause-started
ended-requires-clause-started g c =
    let below : c.loop-count._count < length c.args.kids.now.items = omega (arith, ap length c.as_slice-count-end.ensures.value) in
    let child : IsChildAt c.loop-count.kids.items c.loop-count.place c.child_at-child.result =
    subst (λ (l : List Kid). IsChildAt l c.loop-count.place c.child_at-child.result) c.as_slice.ensures.value c.child_at-child.ensures in
    subst (Contains (g.H.Host.session c.loop-count.host).children) (sym child.is)
    (child_held (g.H.Host.session c.args.host.now).children (g.H.Host.session c.loop-count.host).children g.H.Host.tells
    c.args.kids.now.items c.loop-count._count c.loop-count.place
    c.loop-count.kids.items (g.H.Host.world c.args.host.now) (g.H.Host.world c.loop-count.host) c.loop-count.invariant.has
    c.requires.children c.loop-count.invariant.inside.children
    (place_inside g.H.Host.tells c.args.kids.now.items c.loop-count._count c.loop-count.place c.loop-count.kids.items
    (g.H.Host.world c.args.host.now) (g.H.Host.world c.loop-count.host) c.loop-count.invariant.has below) child.kid child.at)

pub pass-place-requires : goal.pass-place-requires
pass-place-requires g c =
    let below : c.loop-count._count < length c.args.kids.now.items = omega (arith, ap length c.as_slice-count-end.ensures.value) in
    omega (
      arith,
      c.as_slice.ensures.len,
      ap length c.as_slice.ensures.value,
      place_inside g.H.Host.tells c.args.kids.now.items c.loop-count._count c.loop-count.place c.loop-count.kids.items
          (g.H.Host.world c.args.host.now) (g.H.Host.world c.loop-count.host) c.loop-count.invariant.has below,
    )

pub loop-count-preserved : goal.loop-count-preserved
loop-count-preserved g c =
    let below : c.loop-count._count < length c.args.kids.now.items = omega (arith, ap length c.as_slice-count-end.ensures.value) in
    let child : IsChildAt c.loop-count.kids.items c.loop-count.place c.child_at-child.result =
    subst (λ (l : List Kid). IsChildAt l c.loop-count.place c.child_at-child.result) c.as_slice.ensures.value c.child_at-child.ensures in
    record {
      inside = search rules;
      has = one_asked g.H.Host.tells c.args.kids.now.items c.loop-count._count c.loop-count.place c.pass-place.result
          c.loop-count.kids.items c.pass-place.new.kids.items
          (g.H.Host.world c.args.host.now) (g.H.Host.world c.loop-count.host) (g.H.Host.world c.ended.new.self) child.kid
          c.in_ok-answer.answer below c.loop-count.invariant.has
          child.at c.pass-place.ensures.place c.pass-place.ensures.kids
          (λ known. subst (λ (of : Child). Asks of (g.H.Host.world c.loop-count.host) (g.H.Host.world c.ended.new.self)
          (Ok c.in_ok-answer.answer)) child.is (c.in_ok-answer.ensures.asked known));
    }

pub returns-in_err-answer-clause-asks : goal.returns-in_err-answer-clause-asks
returns-in_err-answer-clause-asks g c =
    let below : c.loop-count._count < length c.args.kids.now.items = omega (arith, ap length c.as_slice-count-end.ensures.value) in
    some_asked g.H.Host.tells c.args.kids.now.items c.loop-count._count c.loop-count.place c.loop-count.kids.items
    (g.H.Host.world c.args.host.now) (g.H.Host.world c.loop-count.host)
    (g.H.Host.world c.ended.new.self) c.in_err-answer.field-0.0 c.from_residual.result c.from_residual.ensures.1 below
    c.loop-count.invariant.has (λ known. c.in_err-answer.ensures.asked known)

pub returns-clause-asks : goal.returns-clause-asks
returns-clause-asks g c =
    let whole : c.loop-count._count ≡ length c.args.kids.now.items = omega (arith, ap length c.as_slice-count-end.ensures.value) in
    all_asked g.H.Host.tells c.args.kids.now.items c.loop-count._count c.loop-count.place c.loop-count.kids.items
    (g.H.Host.world c.args.host.now) (g.H.Host.world c.loop-count.host) whole c.loop-count.invariant.has
