use Rattle.mail_session.proofs.PlanLemmas.{plans_by}
use Rattle.mail_session.proofs.plan.mail_plan.Goals as goal

pub plan_on-requires-clause-current : goal.plan_on-requires-clause-current
plan_on-requires-clause-current g c =
    λ known. ((c.in_ok-store.ensures.recovered known).table, (c.in_ok-store.ensures.recovered known).current)

pub returns-clause-plans : goal.returns-clause-plans
returns-clause-plans g c =
    plans_by g.H.Host.tells (g.H.Host.world c.args.host.now) (g.H.Host.world c.recover.new.host) (g.H.Host.world c.plan_on.new.host)
    c.in_ok-store.store c.args.kids.now c.plan_on.result
    c.in_ok-store.ensures.files c.in_ok-store.ensures.recovered c.plan_on.ensures.looks c.plan_on.ensures.plans
