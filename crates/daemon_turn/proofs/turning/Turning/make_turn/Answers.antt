use Rattle.std.proofs.Common.{List, ℕ, ap, w64, refl, subst, sym, ◌∙◌}
use Rattle.std.specs.Prelude.{Ok, Err}
use Rattle.std.proofs.lemmas.Int.{to_z-of_z}
use Rattle.daemon_turn.specs.declared.kid.Kid.{Kid}
use Rattle.spool_model.specs.declared.turn_step.TurnStep.{TurnStep}
use Rattle.daemon_turn.specs.inside.MadeSteps.{MakesAll}
use Rattle.daemon_turn.specs.inside.Turned.{MakesTurn}
use Rattle.daemon_turn.proofs.MakeLemmas.{may_forget_all, nothing_made}
use Rattle.daemon_turn.specs.inside.PendingNumbers.{ArePendingNumbers}
use Rattle.daemon_turn.proofs.TurnedLemmas.{launches_as, may_go_on, order_waiting, stopped_deciding, stopped_starting, turned}
use Rattle.daemon_turn.proofs.turning.Turning.make_turn.Goals as goal

pub returns-in_err-store : goal.returns-in_err-store
returns-in_err-store g c = λ turn now_is kids_are ordered.
    stopped_deciding g.H.Host.tells (g.H.Host.session c.args.host.now) (g.H.Host.world c.args.host.now) c.args.store
    c.args.self.now.kids.items c.args.plan.now.order.items c.requires.may c.requires.waiting
    (g.H.Host.session c.decide.new.host) (g.H.Host.world c.decide.new.host) c.decide.new.self.kids.items c.args.self.now.steps.items
    c.decide.new.self.steps.items c.requires.none
    turn kids_are ordered c.in_err-store.field-0.0 c.from_residual.result c.from_residual.ensures.1 c.in_err-store.ensures

pub start_all-requires-clause-may : goal.start_all-requires-clause-may
start_all-requires-clause-may g c =
    may_go_on g.H.Host.tells (g.H.Host.session c.args.host.now) (g.H.Host.session c.decide.new.host) (g.H.Host.world c.args.host.now)
    (g.H.Host.world c.decide.new.host)
    c.args.store c.in_ok-store.store c.in_ok-store.ensures.made.part c.requires.may.go.current c.in_ok-store.ensures.made.goes

pub start_all-requires-clause-waiting : goal.start_all-requires-clause-waiting
start_all-requires-clause-waiting g c =
    subst (λ (numbers : List ℕ). ArePendingNumbers c.in_ok-store.store.table numbers) (sym c.as_slice-2.ensures.value)
    (order_waiting g.H.Host.tells (g.H.Host.session c.args.host.now) (g.H.Host.world c.args.host.now) c.args.store
    c.args.self.now.kids.items c.args.plan.now.order.items c.requires.may c.requires.waiting
    (g.H.Host.session c.decide.new.host) (g.H.Host.world c.decide.new.host) c.decide.new.self.kids.items c.args.self.now.steps.items
    c.decide.new.self.steps.items c.requires.none
    c.in_ok-store.store c.in_ok-store.ensures)

pub returns-in_err-store-2 : goal.returns-in_err-store-2
returns-in_err-store-2 g c = λ turn now_is kids_are ordered.
    stopped_starting g.H.Host.tells (g.H.Host.session c.args.host.now) (g.H.Host.world c.args.host.now) c.args.store
    c.args.self.now.kids.items c.args.plan.now.order.items c.requires.may c.requires.waiting
    (g.H.Host.session c.decide.new.host) (g.H.Host.world c.decide.new.host) c.decide.new.self.kids.items c.args.self.now.steps.items
    c.decide.new.self.steps.items c.requires.none
    turn kids_are ordered c.in_ok-store.store c.in_ok-store.ensures
    (g.H.Host.session c.start_all.new.host) (g.H.Host.world c.start_all.new.host) c.start_all.new.self.kids.items
    c.start_all.new.self.steps.items (Err c.in_err-store-2.field-0.0)
    (launches_as _ _ _ _ _ _ _ _ _ _ _ _ _ _ _ _ c.as_slice-2.ensures.value (to_z-of_z w64 c.args.second c.ranges.second) now_is
    c.in_err-store-2.ensures)
    c.in_err-store-2.field-0.0 c.from_residual-in_err-store-2.result refl c.from_residual-in_err-store-2.ensures.1

pub returns-in_err-forgotten : goal.returns-in_err-forgotten
returns-in_err-forgotten g c = λ turn now_is kids_are ordered.
    turned g.H.Host.tells (g.H.Host.session c.args.host.now) (g.H.Host.world c.args.host.now) c.args.store c.args.self.now.kids.items
    c.args.plan.now.order.items c.requires.may c.requires.waiting
    (g.H.Host.session c.decide.new.host) (g.H.Host.world c.decide.new.host) c.decide.new.self.kids.items c.args.self.now.steps.items
    c.decide.new.self.steps.items c.requires.none
    turn kids_are ordered c.in_ok-store.store c.in_ok-store.ensures
    (g.H.Host.session c.start_all.new.host) (g.H.Host.world c.start_all.new.host) c.start_all.new.self.kids.items
    c.start_all.new.self.steps.items (Ok c.in_ok-store-2.store)
    (launches_as _ _ _ _ _ _ _ _ _ _ _ _ _ _ _ _ c.as_slice-2.ensures.value (to_z-of_z w64 c.args.second c.ranges.second) now_is
    c.in_ok-store-2.ensures)
    c.in_ok-store-2.store refl (g.H.Host.session c.start_all.new.host) (g.H.Host.world c.start_all.new.host)
    c.start_all.new.self.steps.items c.from_residual-in_err-forgotten.result
    (nothing_made _ _ _ c.from_residual-in_err-forgotten.result c.from_residual-in_err-forgotten.ensures.1
    (may_go_on g.H.Host.tells (g.H.Host.session c.decide.new.host) (g.H.Host.session c.start_all.new.host)
    (g.H.Host.world c.decide.new.host) (g.H.Host.world c.start_all.new.host)
    c.in_ok-store.store c.in_ok-store-2.store c.in_ok-store-2.ensures.part
    (may_go_on g.H.Host.tells (g.H.Host.session c.args.host.now) (g.H.Host.session c.decide.new.host) (g.H.Host.world c.args.host.now)
    (g.H.Host.world c.decide.new.host)
    c.args.store c.in_ok-store.store c.in_ok-store.ensures.made.part c.requires.may.go.current c.in_ok-store.ensures.made.goes).current
    c.in_ok-store-2.ensures.goes).inside refl)

pub make_all-requires : goal.make_all-requires
make_all-requires g c =
    may_forget_all c.as_slice-3.result.now
    (may_go_on g.H.Host.tells (g.H.Host.session c.decide.new.host) (g.H.Host.session c.start_all.new.host)
    (g.H.Host.world c.decide.new.host) (g.H.Host.world c.start_all.new.host)
    c.in_ok-store.store c.in_ok-store-2.store c.in_ok-store-2.ensures.part
    (may_go_on g.H.Host.tells (g.H.Host.session c.args.host.now) (g.H.Host.session c.decide.new.host) (g.H.Host.world c.args.host.now)
    (g.H.Host.world c.decide.new.host)
    c.args.store c.in_ok-store.store c.in_ok-store.ensures.made.part c.requires.may.go.current c.in_ok-store.ensures.made.goes).current
    c.in_ok-store-2.ensures.goes)
    (c.as_slice-3.ensures.value ∙ c.in_ok-forgotten.ensures)

pub returns : goal.returns
returns g c = λ turn now_is kids_are ordered.
    subst (λ (left : List Kid). MakesTurn g.H.Host.tells (g.H.Host.session c.args.host.now) (g.H.Host.session c.make_all.new.host)
    (g.H.Host.world c.args.host.now) (g.H.Host.world c.make_all.new.host)
    c.args.store turn left c.make_all.new.self.steps.items c.make_all.result) (sym (ap (λ kids. kids.items) c.make_all.ensures.kids))
    (turned g.H.Host.tells (g.H.Host.session c.args.host.now) (g.H.Host.world c.args.host.now) c.args.store c.args.self.now.kids.items
    c.args.plan.now.order.items c.requires.may c.requires.waiting
    (g.H.Host.session c.decide.new.host) (g.H.Host.world c.decide.new.host) c.decide.new.self.kids.items c.args.self.now.steps.items
    c.decide.new.self.steps.items c.requires.none
    turn kids_are ordered c.in_ok-store.store c.in_ok-store.ensures
    (g.H.Host.session c.start_all.new.host) (g.H.Host.world c.start_all.new.host) c.start_all.new.self.kids.items
    c.start_all.new.self.steps.items (Ok c.in_ok-store-2.store)
    (launches_as _ _ _ _ _ _ _ _ _ _ _ _ _ _ _ _ c.as_slice-2.ensures.value (to_z-of_z w64 c.args.second c.ranges.second) now_is
    c.in_ok-store-2.ensures)
    c.in_ok-store-2.store refl (g.H.Host.session c.make_all.new.host) (g.H.Host.world c.make_all.new.host)
    c.make_all.new.self.steps.items c.make_all.result
    (subst (λ (steps : List TurnStep). MakesAll g.H.Host.tells (g.H.Host.session c.start_all.new.host)
    (g.H.Host.session c.make_all.new.host) (g.H.Host.world c.start_all.new.host) (g.H.Host.world c.make_all.new.host)
    c.in_ok-store-2.store steps c.start_all.new.self.steps.items c.make_all.new.self.steps.items c.make_all.result)
    (c.as_slice-3.ensures.value ∙ c.in_ok-forgotten.ensures) c.make_all.ensures.makes))
