use Rattle.std.proofs.Common.{◌≡◌, List, arith, length, refl, rules, subst, sym}
use Rattle.std.specs.Prelude.{Ok}
use Rattle.daemon_turn.specs.declared.kid.Kid.{Kid}
use Rattle.daemon_turn.specs.inside.AskedChildren.{AsksAll}
use Rattle.daemon_turn.specs.Kids.{AreChildren}
use Rattle.daemon_turn.proofs.AskLemmas.{HasAsked, all_asked, child_held, none_asked, one_asked, some_asked}
use Rattle.daemon_turn.proofs.turning.Turning.ask_all.Goals as goal

pub loop-kid-init : goal.loop-kid-init
loop-kid-init g c = record {
  inside = search rules;
  has = subst (λ known. HasAsked g.H.Host.tells c.as_slice-kid-items.result.now 0 known (g.H.Host.world c.args.host.now)
      (g.H.Host.world c.args.host.now)) (sym c.new-known.ensures.items)
      (none_asked g.H.Host.tells c.as_slice-kid-items.result.now (g.H.Host.world c.args.host.now));
}

pub ended-requires-clause-started : goal.ended-requires-clause-started
ended-requires-clause-started g c =
    child_held _ _ c.as_slice-kid-items.result.now c.loop-kid.kid-index _
    (subst (AreChildren (g.H.Host.session c.args.host.now).children) (sym c.as_slice-kid-items.ensures.value) c.requires.children)
    c.loop-kid.invariant.inside.children c.loop-kid-test.true

pub returns-in_err-answer-clause-asks : goal.returns-in_err-answer-clause-asks
returns-in_err-answer-clause-asks g c =
    subst (λ (kids : List Kid). AsksAll g.H.Host.tells kids (g.H.Host.world c.args.host.now) (g.H.Host.world c.ended.new.self)
    c.from_residual.result) c.as_slice-kid-items.ensures.value
    (some_asked g.H.Host.tells c.as_slice-kid-items.result.now c.loop-kid.kid-index c.loop-kid.known.items
    (g.H.Host.world c.args.host.now) (g.H.Host.world c.loop-kid.host) (g.H.Host.world c.ended.new.self) c.in_err-answer.field-0.0
    c.from_residual.result c.from_residual.ensures.1 (omega (arith, c.loop-kid-test.true)) c.loop-kid.invariant.has
    (λ tells. c.in_err-answer.ensures.asked tells))

pub returns-in_err-write_end-clause-asks : goal.returns-in_err-write_end-clause-asks
returns-in_err-write_end-clause-asks g c =
    subst (λ (kids : List Kid). AsksAll g.H.Host.tells kids (g.H.Host.world c.args.host.now) (g.H.Host.world c.ended.new.self)
    c.from_residual-in_err-write_end.result) c.as_slice-kid-items.ensures.value
    (some_asked g.H.Host.tells c.as_slice-kid-items.result.now _ _ (g.H.Host.world c.args.host.now) (g.H.Host.world c.ended.new.self)
    (g.H.Host.world c.ended.new.self) _
    c.from_residual-in_err-write_end.result c.from_residual-in_err-write_end.ensures.1 (omega (arith, c.loop-kid-test.true))
    (one_asked g.H.Host.tells c.as_slice-kid-items.result.now c.loop-kid.kid-index c.loop-kid.known.items _
    (g.H.Host.world c.args.host.now) (g.H.Host.world c.loop-kid.host) (g.H.Host.world c.ended.new.self) _ c.in_ok-answer.answer
    c.loop-kid-test.true c.loop-kid.invariant.has refl (λ tells. c.in_ok-answer.ensures.asked tells)) (λ tells. refl))

pub loop-kid-preserved : goal.loop-kid-preserved
loop-kid-preserved g c = record {
  inside = search rules;
  has = one_asked g.H.Host.tells c.as_slice-kid-items.result.now c.loop-kid.kid-index c.loop-kid.known.items c.write_end.new.known.items
      (g.H.Host.world c.args.host.now) (g.H.Host.world c.loop-kid.host) (g.H.Host.world c.ended.new.self) _ c.in_ok-answer.answer
      c.loop-kid-test.true c.loop-kid.invariant.has c.in_ok-write_end.ensures (λ tells. c.in_ok-answer.ensures.asked tells);
}

pub returns-clause-asks : goal.returns-clause-asks
returns-clause-asks g c =
    let whole : c.loop-kid.kid-index ≡ length c.as_slice-kid-items.result.now = omega arith in
    subst (λ (kids : List Kid). AsksAll g.H.Host.tells kids (g.H.Host.world c.args.host.now) (g.H.Host.world c.loop-kid.host)
    (Ok c.loop-kid.known)) c.as_slice-kid-items.ensures.value
    (all_asked g.H.Host.tells c.as_slice-kid-items.result.now c.loop-kid.kid-index c.loop-kid.known (g.H.Host.world c.args.host.now)
    (g.H.Host.world c.loop-kid.host) whole c.loop-kid.invariant.has)
