use Rattle.std.proofs.Common.{◌++◌, ◌∷◌, [], ◌∙◌, List, None, Some, ap, refl, w64}
use Rattle.std.proofs.lemmas.Int.{to_z-of_z}
use Rattle.daemon_turn.specs.declared.kid.Kid.{Kid}
use Rattle.daemon_turn.proofs.HandLemmas.{handed_at, unhanded_at}
use Rattle.daemon_turn.proofs.LaunchLemmas.{launched, launched_none, launched_not, launched_nothing, may_end, report_at}
use Rattle.daemon_turn.proofs.turning.Turning.start.Goals as goal

pub returns-in_err-reserve : goal.returns-in_err-reserve
returns-in_err-reserve g c =
    launched_nothing g.H.Host.tells (g.H.Host.session c.args.host.now) (g.H.Host.world c.args.host.now) c.args.store _ c.args.second
    c.args.self.now.kids.items c.reserve.new.self.items
    c.args.self.now.steps.items c.args.self.now.steps.items c.from_residual.result c.from_residual.ensures.1 c.requires.may.inside
    c.reserve.ensures.items refl

pub returns-in_err-reserve-2 : goal.returns-in_err-reserve-2
returns-in_err-reserve-2 g c =
    launched_nothing g.H.Host.tells (g.H.Host.session c.args.host.now) (g.H.Host.world c.args.host.now) c.args.store _ c.args.second
    c.args.self.now.kids.items c.reserve.new.self.items
    c.args.self.now.steps.items c.reserve-2.new.self.items c.from_residual-in_err-reserve-2.result
    c.from_residual-in_err-reserve-2.ensures.1 c.requires.may.inside c.reserve.ensures.items c.reserve-2.ensures.items

pub returns-in_err-store : goal.returns-in_err-store
returns-in_err-store g c =
    launched_not g.H.Host.tells (g.H.Host.session c.args.host.now) (g.H.Host.session c.start_job.new.host)
    (g.H.Host.session c.start_job.new.host)
    (g.H.Host.world c.args.host.now) (g.H.Host.world c.start_job.new.host) (g.H.Host.world c.start_job.new.host)
    c.args.store c.args.number c.args.second c.args.self.now.kids.items c.args.self.now.steps.items c.in_err-store.field-0.0
    c.reserve.new.self.items c.reserve-2.new.self.items
    c.from_residual-in_err-store.result c.from_residual-in_err-store.ensures.1 c.reserve.ensures.items c.reserve-2.ensures.items
    (unhanded_at _ _ _ _ _ _ _ _ _ _ (to_z-of_z w64 c.args.second c.ranges.second) c.in_err-store.ensures)

pub make_all-requires : goal.make_all-requires
make_all-requires g c =
    may_end g.H.Host.tells (g.H.Host.session c.args.host.now) (g.H.Host.session c.start_job.new.host) (g.H.Host.world c.args.host.now)
    (g.H.Host.world c.start_job.new.host)
    c.args.store c.in_ok-store.store c.args.number c.args.second c.requires.may.legal c.requires.may.current
    (handed_at _ _ _ _ _ _ _ _ _ _ c.in_ok-store.child None (to_z-of_z w64 c.args.second c.ranges.second)
    c.in-None.is c.in_ok-store.ensures)

pub returns-in-Some : goal.returns-in-Some
returns-in-Some g c =
    launched g.H.Host.tells (g.H.Host.session c.args.host.now) (g.H.Host.session c.start_job.new.host)
    (g.H.Host.session c.start_job.new.host)
    (g.H.Host.world c.args.host.now) (g.H.Host.world c.start_job.new.host) (g.H.Host.world c.start_job.new.host)
    c.args.store c.args.number c.args.second c.args.self.now.kids.items c.args.self.now.steps.items c.in_ok-store.store c.in-Some.child
    c.push_reserved-in-Some.new.self.items c.push_reserved.new.self.items
    (handed_at _ _ _ _ _ _ _ _ _ _ c.in_ok-store.child (Some c.in-Some.child) (to_z-of_z w64 c.args.second c.ranges.second)
    c.in-Some.is c.in_ok-store.ensures)
    (report_at _ _ _ _ _ _ (to_z-of_z w64 c.args.second c.ranges.second) c.reserve-2.ensures.items c.push_reserved.ensures.items)
    (c.push_reserved-in-Some.ensures.items
    ∙ ap (λ (l : List Kid). l ++ record { number = c.args.number; child = c.in-Some.child } ∷ []) c.reserve.ensures.items)

pub returns-in-None : goal.returns-in-None
returns-in-None g c =
    launched_none g.H.Host.tells (g.H.Host.session c.args.host.now) (g.H.Host.session c.start_job.new.host)
    (g.H.Host.session c.make_all.new.host)
    (g.H.Host.world c.args.host.now) (g.H.Host.world c.start_job.new.host) (g.H.Host.world c.make_all.new.host)
    c.args.store c.args.number c.args.second c.args.self.now.kids.items c.args.self.now.steps.items c.in_ok-store.store
    c.make_all.new.self.kids.items c.push_reserved.new.self.items c.make_all.new.self.steps.items c.make_all.result
    (handed_at _ _ _ _ _ _ _ _ _ _ c.in_ok-store.child None (to_z-of_z w64 c.args.second c.ranges.second)
    c.in-None.is c.in_ok-store.ensures)
    (ap (λ kids. kids.items) c.make_all.ensures.kids ∙ c.reserve.ensures.items)
    (report_at _ _ _ _ _ _ (to_z-of_z w64 c.args.second c.ranges.second) c.reserve-2.ensures.items c.push_reserved.ensures.items)
    c.make_all.ensures.makes
