use Rattle.std.proofs.Common.{subst, sym}
use Rattle.std.specs.Prelude.{Ok}
use Rattle.daemon_turn.specs.Kids.{AreKidsByNumber}
use Rattle.daemon_turn.specs.StartOrder.{turn_of}
use Rattle.daemon_turn.proofs.PlanLemmas.{clock_same}
use Rattle.daemon_turn.proofs.WaitLemmas.{order_waits}
use Rattle.daemon_turn.proofs.WorkLemmas.{asked_itself, done_same, fault_same, ordered_kids, unplanned}
use Rattle.daemon_turn.proofs.turning.Turning.turn_on.Goals as goal

pub turn_plan-requires-clause-ordered : goal.turn_plan-requires-clause-ordered
turn_plan-requires-clause-ordered g c = subst AreKidsByNumber (sym c.as_slice.ensures.value) c.requires.may.ordered

pub returns-in_err-plan : goal.returns-in_err-plan
returns-in_err-plan g c = λ before are.
    unplanned g.H.Host.tells (g.H.Host.session c.args.host.now) (g.H.Host.world c.args.host.now) c.args.store _ c.args.self.now.kids.items
    c.args.self.now.steps.items
    c.from_residual.result c.from_residual.ensures.1 c.requires.may c.requires.none are

pub make_turn-made-requires-clause-waiting : goal.make_turn-made-requires-clause-waiting
make_turn-made-requires-clause-waiting g c =
    order_waits (turn_of (record { kids = c.args.self.now.kids.items; limit = c.args.limit; interval = c.args.interval }) c.args.at)
    c.args.store.table c.in_ok-plan.plan.order.items
    (c.in_ok-plan.ensures.ordered c.args.self.now.kids.items)

pub sort_kids-requires : goal.sort_kids-requires
sort_kids-requires g c =
    (c.make_turn-made.ensures
    (turn_of (record { kids = c.args.self.now.kids.items; limit = c.args.limit; interval = c.args.interval }) c.args.at)
    (sym (clock_same c.args.at.now c.requires.second)) (asked_itself c.args.store.table c.args.self.now.kids.items c.requires.may.run)
    (c.in_ok-plan.ensures.ordered c.args.self.now.kids.items)).apart

pub returns-in_err-made : goal.returns-in_err-made
returns-in_err-made g c = λ before are.
    ordered_kids g.H.Host.tells (g.H.Host.session c.args.host.now) (g.H.Host.session c.make_turn-made.new.host)
    (g.H.Host.world c.args.host.now) (g.H.Host.world c.make_turn-made.new.host) c.args.store
    _ c.make_turn-made.new.self.kids.items c.sort_kids.new.kids.items c.make_turn-made.new.self.steps.items c.make_turn-made.result
    c.from_residual-in_err-made.result
    (fault_same c.make_turn-made.result c.in_err-made.field-0.0 c.from_residual-in_err-made.result
    c.from_residual-in_err-made.ensures.1 c.in_err-made.was)
    (c.make_turn-made.ensures (turn_of (record { kids = before; limit = c.args.limit; interval = c.args.interval }) c.args.at)
    (sym (clock_same c.args.at.now c.requires.second)) are (c.in_ok-plan.ensures.ordered before))
    c.sort_kids.ensures.same c.sort_kids.ensures.ordered

pub returns : goal.returns
returns g c = λ before are.
    ordered_kids g.H.Host.tells (g.H.Host.session c.args.host.now) (g.H.Host.session c.make_turn-made.new.host)
    (g.H.Host.world c.args.host.now) (g.H.Host.world c.make_turn-made.new.host) c.args.store
    _ c.make_turn-made.new.self.kids.items c.sort_kids.new.kids.items c.make_turn-made.new.self.steps.items c.make_turn-made.result (Ok tt)
    (done_same c.make_turn-made.result c.in_ok-made.field-0 c.in_ok-made.was)
    (c.make_turn-made.ensures (turn_of (record { kids = before; limit = c.args.limit; interval = c.args.interval }) c.args.at)
    (sym (clock_same c.args.at.now c.requires.second)) are (c.in_ok-plan.ensures.ordered before))
    c.sort_kids.ensures.same c.sort_kids.ensures.ordered
