use Rattle.std.proofs.Common.{◌∙◌, List, ap, subst, sym}
use Rattle.std.specs.Prelude.{Ok, Err}
use Rattle.daemon_turn.specs.declared.kid.Kid.{Kid}
use Rattle.daemon_turn.specs.inside.AskedChildren.{AsksAll}
use Rattle.daemon_turn.specs.Kids.{AreChildren}
use Rattle.daemon_turn.proofs.DecideLemmas.{children_stay, ended_all, given_up_table, may_end_all, may_give_up, now_current, stopped_asking, stopped_giving_up}
use Rattle.daemon_turn.proofs.turning.Turning.make_decisions.Goals as goal

pub make_all-requires : goal.make_all-requires
make_all-requires g c =
    may_give_up g.H.Host.tells (g.H.Host.session c.args.host.now) (g.H.Host.world c.args.host.now) c.args.store c.args.self.now.kids.items
    c.requires.may c.args.interrupted.now c.requires.interrupted

pub returns-in_err-store-clause-made : goal.returns-in_err-store-clause-made
returns-in_err-store-clause-made g c =
    stopped_giving_up g.H.Host.tells (g.H.Host.session c.args.host.now) (g.H.Host.world c.args.host.now) c.args.store
    c.args.self.now.kids.items c.args.interrupted.now c.args.self.now.steps.items c.requires.interrupted
    (g.H.Host.session c.make_all.new.host) (g.H.Host.world c.make_all.new.host) c.make_all.new.self.steps.items c.in_err-store.field-0.0
    c.from_residual.result c.from_residual.ensures.1 c.in_err-store.ensures.makes

pub ask_all-requires-clause-children : goal.ask_all-requires-clause-children
ask_all-requires-clause-children g c =
    subst (λ (kids : List Kid). AreChildren (g.H.Host.session c.make_all.new.host).children kids)
    (sym (ap (λ kids. kids.items) c.in_ok-store.ensures.kids))
    (children_stay (g.H.Host.session c.args.host.now) (g.H.Host.session c.make_all.new.host) c.args.self.now.kids.items
    c.in_ok-store.ensures.makes.goes.children c.requires.may.children)

pub returns-in_err-known-clause-made : goal.returns-in_err-known-clause-made
returns-in_err-known-clause-made g c =
    stopped_asking g.H.Host.tells (g.H.Host.session c.args.host.now) (g.H.Host.world c.args.host.now) c.args.store
    c.args.self.now.kids.items c.args.interrupted.now c.args.self.now.steps.items c.requires.interrupted
    (g.H.Host.session c.make_all.new.host) (g.H.Host.world c.make_all.new.host) c.in_ok-store.store c.make_all.new.self.steps.items
    c.in_ok-store.ensures.makes
    (g.H.Host.session c.ask_all.new.host) (g.H.Host.world c.ask_all.new.host) (Err c.in_err-known.field-0.0)
    c.from_residual-in_err-known.result c.from_residual-in_err-known.ensures.1 c.in_err-known.ensures.inside
    (subst (λ (kids : List Kid). AsksAll g.H.Host.tells kids (g.H.Host.world c.make_all.new.host) (g.H.Host.world c.ask_all.new.host)
    (Err c.in_err-known.field-0.0)) (ap (λ kids. kids.items) c.in_ok-store.ensures.kids) c.in_err-known.ensures.asks)

pub make_all-requires-2 : goal.make_all-requires-2
make_all-requires-2 g c =
    let asks = subst (λ (kids : List Kid). AsksAll g.H.Host.tells kids (g.H.Host.world c.make_all.new.host) (g.H.Host.world
    c.ask_all.new.host) (Ok c.in_ok-known.known)) (ap (λ kids. kids.items) c.in_ok-store.ensures.kids) c.in_ok-known.ensures.asks in
    may_end_all g.H.Host.tells (g.H.Host.session c.args.host.now) (g.H.Host.world c.args.host.now) c.args.store
    c.args.self.now.kids.items c.requires.may
    c.in_ok-store.store (g.H.Host.session c.ask_all.new.host) (g.H.Host.world c.ask_all.new.host) c.as_slice.result.now asks.answers
    c.in_ok-known.ensures.inside.inside
    (given_up_table g.H.Host.tells (g.H.Host.session c.args.host.now) (g.H.Host.world c.args.host.now) c.args.store
    c.args.self.now.kids.items c.args.interrupted.now c.args.self.now.steps.items c.requires.interrupted
    (g.H.Host.session c.make_all.new.host) (g.H.Host.world c.make_all.new.host) c.in_ok-store.store c.make_all.new.self.steps.items
    c.in_ok-store.ensures.makes)
    (c.as_slice.ensures.value ∙ asks.all.1)
    (now_current g.H.Host.tells (g.H.Host.session c.args.host.now) (g.H.Host.session c.make_all.new.host) (g.H.Host.world c.args.host.now)
    (g.H.Host.world c.make_all.new.host) (g.H.Host.world c.ask_all.new.host)
    c.args.store c.in_ok-store.store c.args.interrupted.now c.args.self.now.kids.items c.args.self.now.steps.items
    c.make_all.new.self.steps.items c.in_ok-known.known c.requires.may.go.current c.in_ok-store.ensures.makes asks)

pub returns-clause-made : goal.returns-clause-made
returns-clause-made g c =
    let asks = subst (λ (kids : List Kid). AsksAll g.H.Host.tells kids (g.H.Host.world c.make_all.new.host) (g.H.Host.world
    c.ask_all.new.host) (Ok c.in_ok-known.known)) (ap (λ kids. kids.items) c.in_ok-store.ensures.kids) c.in_ok-known.ensures.asks in
    ended_all g.H.Host.tells (g.H.Host.session c.args.host.now) (g.H.Host.world c.args.host.now) c.args.store c.args.self.now.kids.items
    c.args.interrupted.now c.args.self.now.steps.items c.requires.interrupted
    (g.H.Host.session c.make_all.new.host) (g.H.Host.world c.make_all.new.host) c.in_ok-store.store c.make_all.new.self.steps.items
    c.in_ok-store.ensures.makes
    (g.H.Host.session c.ask_all.new.host) (g.H.Host.session c.make_all-2.new.host) (g.H.Host.world c.ask_all.new.host)
    (g.H.Host.world c.make_all-2.new.host) c.in_ok-known.known
    c.as_slice.result.now c.make_all-2.new.self.steps.items c.make_all-2.result c.in_ok-known.ensures.inside asks c.as_slice.ensures.value
    c.make_all-2.ensures.makes
