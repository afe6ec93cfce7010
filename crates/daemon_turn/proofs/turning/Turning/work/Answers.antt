use Rattle.daemon_turn.specs.StartOrder.{turn_of}
use Rattle.daemon_turn.proofs.WorkLemmas.{may_decide, unrecovered, works_by}
use Rattle.daemon_turn.proofs.turning.Turning.work.Goals as goal

pub returns-in_err-store : goal.returns-in_err-store
returns-in_err-store g c =
    unrecovered g.H.Host.tells
    (turn_of (record { kids = c.args.self.now.kids.items; limit = c.args.limit; interval = c.args.interval }) c.args.at)
    (g.H.Host.session c.args.host.now) (g.H.Host.session c.recover.new.host) (g.H.Host.world c.args.host.now)
    (g.H.Host.world c.recover.new.host)
    c.args.self.now.kids.items c.args.limit c.args.interval c.args.self.now.steps.items c.requires.none c.in_err-store.ensures.files
    c.in_err-store.field-0.0 c.from_residual.result c.from_residual.ensures.1 c.in_err-store.ensures.inside
    c.in_err-store.ensures.of_reading
    c.in_err-store.ensures.recovered c.in_err-store.ensures.untouched c.requires.children c.requires.ordered

pub turn_on-requires-clause-may : goal.turn_on-requires-clause-may
turn_on-requires-clause-may g c =
    may_decide g.H.Host.tells (g.H.Host.session c.args.host.now) (g.H.Host.session c.recover.new.host) (g.H.Host.world c.args.host.now)
    (g.H.Host.world c.recover.new.host)
    c.in_ok-store.store c.args.self.now.kids.items c.drop_gone.new.kids.items c.drop_gone.ensures c.requires.ordered c.requires.children
    c.in_ok-store.ensures.inside.stays c.in_ok-store.ensures.recovered

pub returns : goal.returns
returns g c =
    works_by g.H.Host.tells
    (turn_of (record { kids = c.args.self.now.kids.items; limit = c.args.limit; interval = c.args.interval }) c.args.at)
    (g.H.Host.session c.args.host.now) (g.H.Host.session c.recover.new.host) (g.H.Host.session c.turn_on.new.host)
    (g.H.Host.world c.args.host.now) (g.H.Host.world c.recover.new.host) (g.H.Host.world c.turn_on.new.host)
    c.in_ok-store.store c.turn_on.new.self.kids.items c.args.limit c.args.interval c.turn_on.new.self.steps.items
    c.in_ok-store.ensures.inside c.in_ok-store.ensures.files c.in_ok-store.ensures.recovered
    c.turn_on.result (c.turn_on.ensures c.args.self.now.kids.items c.drop_gone.ensures)
