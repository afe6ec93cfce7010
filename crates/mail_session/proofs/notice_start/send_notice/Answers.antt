use Rattle.std.proofs.Common.{sym, subst}
use Rattle.std.specs.Prelude.{IsSome}
use Rattle.std.specs.FinMap as map
use Rattle.host_calls.specs.World.{reading}
use Rattle.mail_session.proofs.SendLemmas.{called_at, child_handed, memory_wanting, none_handed}
use Rattle.mail_session.proofs.notice_start.send_notice.Goals as goal

pub start-requires-clause-held : goal.start-requires-clause-held
start-requires-clause-held g c = λ known.
    subst (λ name. IsSome (map.get (reading (g.H.Host.world c.args.host.now)) name)) (sym c.notice_name.ensures) (c.requires.held known)

pub returns-in-Ok : goal.returns-in-Ok
returns-in-Ok g c =
    child_handed (g.H.Host.session c.args.host.now) (g.H.Host.session c.start.new.self) g.H.Host.tells (g.H.Host.world c.args.host.now)
    (g.H.Host.world c.start.new.self)
    c.args.number c.in-Ok.child c.in-Ok.ensures.starts
    (λ known. called_at c.notice_name.result _ _ _ _ _ c.notice_name.ensures (c.in-Ok.ensures.handed known))

pub returns-in-Err-Failed : goal.returns-in-Err-Failed
returns-in-Err-Failed g c =
    none_handed (g.H.Host.session c.args.host.now) (g.H.Host.session c.start.new.self) g.H.Host.tells (g.H.Host.world c.args.host.now)
    (g.H.Host.world c.start.new.self)
    c.args.number (rw c.in-Err-Failed.field-0-is at c.in-Err-Failed.ensures.starts)
    (λ known. called_at c.notice_name.result _ _ _ _ _ c.notice_name.ensures
    ((rw c.in-Err-Failed.field-0-is at c.in-Err-Failed.ensures.handed) known))

pub returns-in-Err-Memory : goal.returns-in-Err-Memory
returns-in-Err-Memory g c =
    memory_wanting (g.H.Host.session c.args.host.now) (g.H.Host.session c.start.new.self) g.H.Host.tells (g.H.Host.world c.args.host.now)
    (g.H.Host.world c.start.new.self)
    c.args.number (rw c.in-Err-Memory.field-0-is at c.in-Err-Memory.ensures.starts)
    (λ known. called_at c.notice_name.result _ _ _ _ _ c.notice_name.ensures
    ((rw c.in-Err-Memory.field-0-is at c.in-Err-Memory.ensures.handed) known))
