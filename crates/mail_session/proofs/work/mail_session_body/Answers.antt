use Rattle.std.proofs.Common.{[], List, subst, sym}
use Rattle.daemon_turn.specs.declared.kid.Kid.{Kid}
use Rattle.daemon_turn.specs.Kids.{AreChildren}
use Rattle.host_calls.specs.declared.child.Child.{Child}
use Rattle.mail_session.specs.inside.PlannedSession.{IsPlanned}
use Rattle.mail_session.proofs.WorkLemmas.{carries_first, may_carry_out, works_idle, works_stopped, works_whole}
use Rattle.mail_session.proofs.work.mail_session_body.Goals as goal

pub returns-in_err-plan : goal.returns-in_err-plan
returns-in_err-plan g c =
    works_idle g.H.Host.tells (g.H.Host.session c.args.host.now) (g.H.Host.session c.mail_plan.new.host) (g.H.Host.world c.args.host.now)
    (g.H.Host.world c.mail_plan.new.host)
    c.args.program.now c.args.kids.now.items c.requires.children c.args.sent.now.items c.requires.none c.in_err-plan.field-0.0
    c.from_residual.result c.from_residual.ensures.1
    c.in_err-plan.ensures.inside c.in_err-plan.ensures.of_reading c.in_err-plan.ensures.plans

pub run_plan-requires-clause-may : goal.run_plan-requires-clause-may
run_plan-requires-clause-may g c =
    may_carry_out g.H.Host.tells (g.H.Host.session c.args.host.now) (g.H.Host.session c.mail_plan.new.host)
    (g.H.Host.session c.mail_plan.new.host)
    (g.H.Host.world c.args.host.now) (g.H.Host.world c.mail_plan.new.host) (g.H.Host.world c.mail_plan.new.host)
    c.args.program.now c.in_ok-plan.plan c.args.kids.now.items c.args.kids.now.items []
    (subst (λ (kids : List Kid). IsPlanned g.H.Host.tells (g.H.Host.world c.args.host.now) (g.H.Host.world c.mail_plan.new.host) kids
    c.in_ok-plan.plan) c.as_slice.ensures.value c.in_ok-plan.ensures.plans)
    c.in_ok-plan.ensures.inside

pub run_plan-requires-clause-children : goal.run_plan-requires-clause-children
run_plan-requires-clause-children g c =
    subst (λ (children : List Child). AreChildren children c.args.kids.now.items)
    (sym c.in_ok-plan.ensures.inside.stays.children) c.requires.children

pub returns-in_err-run_plan : goal.returns-in_err-run_plan
returns-in_err-run_plan g c =
    works_stopped g.H.Host.tells (g.H.Host.session c.args.host.now) (g.H.Host.session c.mail_plan.new.host)
    (g.H.Host.session c.run_plan.new.host)
    (g.H.Host.world c.args.host.now) (g.H.Host.world c.mail_plan.new.host) (g.H.Host.world c.run_plan.new.host) c.args.program.now _
    c.args.kids.now.items c.run_plan.new.kids.items c.run_plan.new.sent.items
    (subst (λ (kids : List Kid). IsPlanned g.H.Host.tells (g.H.Host.world c.args.host.now) (g.H.Host.world c.mail_plan.new.host) kids
    c.in_ok-plan.plan) c.as_slice.ensures.value c.in_ok-plan.ensures.plans)
    c.in_ok-plan.ensures.inside c.requires.children
    c.in_err-run_plan.field-0.0 c.from_residual-in_err-run_plan.result c.from_residual-in_err-run_plan.ensures.1
    (carries_first _ _ _ _ _ _ _ _ _ _ _ _ c.requires.none c.in_err-run_plan.ensures)

pub returns : goal.returns
returns g c =
    works_whole g.H.Host.tells (g.H.Host.session c.args.host.now) (g.H.Host.session c.mail_plan.new.host)
    (g.H.Host.session c.run_plan.new.host)
    (g.H.Host.world c.args.host.now) (g.H.Host.world c.mail_plan.new.host) (g.H.Host.world c.run_plan.new.host) c.args.program.now _
    c.args.kids.now.items c.run_plan.new.kids.items c.run_plan.new.sent.items
    (subst (λ (kids : List Kid). IsPlanned g.H.Host.tells (g.H.Host.world c.args.host.now) (g.H.Host.world c.mail_plan.new.host) kids
    c.in_ok-plan.plan) c.as_slice.ensures.value c.in_ok-plan.ensures.plans)
    c.in_ok-plan.ensures.inside c.requires.children
    (carries_first _ _ _ _ _ _ _ _ _ _ _ _ c.requires.none c.in_ok-run_plan.ensures)
