use Rattle.std.proofs.Common.{◌≡◌, arith, length, w64}
use Rattle.std.proofs.lemmas.Int.{to_z-of_z}
use Rattle.daemon_turn.proofs.LaunchLemmas.{all_launched, launches_at, may_start, none_launched, one_launched, stopped_launch}
use Rattle.daemon_turn.proofs.turning.Turning.start_all.Goals as goal

pub loop-number-init : goal.loop-number-init
loop-number-init g c = record {
  has = none_launched g.H.Host.tells (g.H.Host.session c.args.host.now) (g.H.Host.world c.args.host.now) c.args.store c.args.numbers.now _
      c.args.self.now.kids.items c.args.self.now.steps.items c.requires.may.inside c.requires.waiting;
}

pub start-requires-clause-may : goal.start-requires-clause-may
start-requires-clause-may g c =
    may_start g.H.Host.tells (g.H.Host.session c.args.host.now) (g.H.Host.session c.loop-number.host) (g.H.Host.session c.loop-number.host)
    (g.H.Host.world c.args.host.now) (g.H.Host.world c.loop-number.host) (g.H.Host.world c.loop-number.host)
    c.args.store c.loop-number.store c.args.numbers.now c.loop-number.number-index _ c.args.self.now.kids.items
    c.loop-number.self.kids.items c.loop-number.self.kids.items
    c.args.self.now.steps.items c.loop-number.self.steps.items c.loop-number.self.steps.items 0 c.loop-number-test.true
    c.loop-number.invariant.has c.requires.may.current

pub returns-in_err-store : goal.returns-in_err-store
returns-in_err-store g c =
    launches_at _ _ _ _ _ _ _ _ _ _ _ _ _ _ (to_z-of_z w64 c.args.second c.ranges.second)
    (stopped_launch g.H.Host.tells (g.H.Host.session c.args.host.now) (g.H.Host.session c.loop-number.host)
    (g.H.Host.session c.start.new.host)
    (g.H.Host.world c.args.host.now) (g.H.Host.world c.loop-number.host) (g.H.Host.world c.start.new.host)
    c.args.store c.loop-number.store c.args.numbers.now c.loop-number.number-index _ c.args.self.now.kids.items
    c.loop-number.self.kids.items c.start.new.self.kids.items
    c.args.self.now.steps.items c.loop-number.self.steps.items c.start.new.self.steps.items 0 c.loop-number-test.true
    c.loop-number.invariant.has
    c.in_err-store.field-0.0 c.from_residual.result c.from_residual.ensures.1 c.in_err-store.ensures)

pub loop-number-preserved : goal.loop-number-preserved
loop-number-preserved g c = record {
  has = one_launched g.H.Host.tells (g.H.Host.session c.args.host.now) (g.H.Host.session c.loop-number.host)
      (g.H.Host.session c.start.new.host)
      (g.H.Host.world c.args.host.now) (g.H.Host.world c.loop-number.host) (g.H.Host.world c.start.new.host)
      c.args.store c.loop-number.store c.args.numbers.now c.loop-number.number-index _ c.args.self.now.kids.items
      c.loop-number.self.kids.items c.start.new.self.kids.items
      c.args.self.now.steps.items c.loop-number.self.steps.items c.start.new.self.steps.items 0 c.loop-number-test.true
      c.loop-number.invariant.has
      c.in_ok-store.store c.in_ok-store.ensures;
}

pub returns : goal.returns
returns g c =
    let whole : c.loop-number.number-index ≡ length c.args.numbers.now = omega arith in
    launches_at _ _ _ _ _ _ _ _ _ _ _ _ _ _ (to_z-of_z w64 c.args.second c.ranges.second)
    (all_launched g.H.Host.tells (g.H.Host.session c.args.host.now) (g.H.Host.session c.loop-number.host) (g.H.Host.world c.args.host.now)
    (g.H.Host.world c.loop-number.host)
    c.args.store c.loop-number.store c.args.numbers.now c.loop-number.number-index _ c.args.self.now.kids.items
    c.loop-number.self.kids.items
    c.args.self.now.steps.items c.loop-number.self.steps.items whole c.loop-number.invariant.has)
