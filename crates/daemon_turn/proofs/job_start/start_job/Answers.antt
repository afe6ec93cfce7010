use Rattle.std.proofs.Common.{w64}
use Rattle.std.proofs.lemmas.Int.{to_z-of_z}
use Rattle.daemon_turn.proofs.HandLemmas.{given_child, given_no_memory, given_none, held_now, made_at, not_started, started_lives}
use Rattle.daemon_turn.proofs.job_start.start_job.Goals as goal

pub script_file-name-requires : goal.script_file-name-requires
script_file-name-requires g c = started_lives c.args.store.table c.in_ok-store.store.table c.args.number c.args.second c.requires.may.legal
    (made_at _ _ _ _ _ _ _ _ _ _ (to_z-of_z w64 c.args.second c.ranges.second) c.in_ok-store.ensures.makes).table_is

pub returns-in_err-store : goal.returns-in_err-store
returns-in_err-store g c =
    not_started g.H.Host.tells (g.H.Host.session c.args.host.now) (g.H.Host.session c.start.new.host) (g.H.Host.world c.args.host.now)
    (g.H.Host.world c.start.new.host)
    c.args.store c.args.number c.args.second c.in_err-store.field-0.0 c.from_residual.result c.from_residual.ensures.1 c.requires.may.legal
    (made_at _ _ _ _ _ _ _ _ _ _ (to_z-of_z w64 c.args.second c.ranges.second) c.in_err-store.ensures.makes)

pub start-requires-2-clause-held : goal.start-requires-2-clause-held
start-requires-2-clause-held g c =
    held_now g.H.Host.tells (g.H.Host.session c.args.host.now) (g.H.Host.session c.start.new.host) (g.H.Host.session c.start.new.host)
    (g.H.Host.world c.args.host.now) (g.H.Host.world c.start.new.host) (g.H.Host.world c.start.new.host)
    c.args.store c.in_ok-store.store c.args.number c.args.second c.requires.may.legal
    (made_at _ _ _ _ _ _ _ _ _ _ (to_z-of_z w64 c.args.second c.ranges.second) c.in_ok-store.ensures.makes)
    c.script_file-name.result.0 c.script_file-name.result.1 c.script_file-name.ensures c.requires.may.current

pub returns-in-Ok : goal.returns-in-Ok
returns-in-Ok g c =
    given_child g.H.Host.tells (g.H.Host.session c.args.host.now) (g.H.Host.session c.start.new.host) (g.H.Host.session c.start-2.new.self)
    (g.H.Host.world c.args.host.now) (g.H.Host.world c.start.new.host) (g.H.Host.world c.start-2.new.self)
    c.args.store c.in_ok-store.store c.args.number c.args.second c.requires.may.legal
    (made_at _ _ _ _ _ _ _ _ _ _ (to_z-of_z w64 c.args.second c.ranges.second) c.in_ok-store.ensures.makes)
    c.script_file-name.result.0 c.script_file-name.result.1 c.script_file-name.ensures c.in-Ok.child
    c.in-Ok.ensures.starts c.in-Ok.ensures.handed

pub returns-in-Err-Failed : goal.returns-in-Err-Failed
returns-in-Err-Failed g c =
    given_none g.H.Host.tells (g.H.Host.session c.args.host.now) (g.H.Host.session c.start.new.host) (g.H.Host.session c.start-2.new.self)
    (g.H.Host.world c.args.host.now) (g.H.Host.world c.start.new.host) (g.H.Host.world c.start-2.new.self)
    c.args.store c.in_ok-store.store c.args.number c.args.second c.requires.may.legal
    (made_at _ _ _ _ _ _ _ _ _ _ (to_z-of_z w64 c.args.second c.ranges.second) c.in_ok-store.ensures.makes)
    c.script_file-name.result.0 c.script_file-name.result.1 c.script_file-name.ensures
    (rw c.in-Err-Failed.field-0-is at c.in-Err-Failed.ensures.starts) (rw c.in-Err-Failed.field-0-is at c.in-Err-Failed.ensures.handed)

pub returns-in-Err-Memory : goal.returns-in-Err-Memory
returns-in-Err-Memory g c =
    given_no_memory g.H.Host.tells (g.H.Host.session c.args.host.now) (g.H.Host.session c.start.new.host)
    (g.H.Host.session c.start-2.new.self)
    (g.H.Host.world c.args.host.now) (g.H.Host.world c.start.new.host) (g.H.Host.world c.start-2.new.self)
    c.args.store c.in_ok-store.store c.args.number c.args.second c.requires.may.legal
    (made_at _ _ _ _ _ _ _ _ _ _ (to_z-of_z w64 c.args.second c.ranges.second) c.in_ok-store.ensures.makes)
    c.script_file-name.result.0 c.script_file-name.result.1 c.script_file-name.ensures
    (rw c.in-Err-Memory.field-0-is at c.in-Err-Memory.ensures.starts) (rw c.in-Err-Memory.field-0-is at c.in-Err-Memory.ensures.handed)
