use Rattle.std.proofs.Common.{ap}
use Rattle.std.specs.Prelude.{Err}
use Rattle.tool_output.specs.Outside.{directory_at}
use Rattle.host_calls.specs.World.{reading}
use Rattle.spool_check.proofs.CheckLemmas.{entry_writes, filled_writes, unfilled_writes, visit_made}
use Rattle.spool_check.proofs.save.save.Goals as goal

pub returns-in_err-enter-clause-saves : goal.returns-in_err-enter-clause-saves
returns-in_err-enter-clause-saves g c = λ tells.
    entry_writes (reading (g.H.Host.world c.args.from.now)) (directory_at g.G.Host c.args.to.now) (directory_at g.G.Host c.enter.new.self)
    c.in_err-enter.field-0.0 c.from_residual.result c.from_residual.ensures.1 c.enter.ensures.goes_on c.enter.ensures.alone

pub returns-in-Ok-clause-saves : goal.returns-in-Ok-clause-saves
returns-in-Ok-clause-saves g c = λ tells.
    let old = directory_at g.G.Host c.args.to.now in
    let new = directory_at g.G.Host c.leave.new.self in
    filled_writes (reading (g.H.Host.world c.args.from.now)) old new
    (visit_made old new (g.G.Host.world c.enter.new.self) (g.G.Host.world c.fill_target-filled.new.to) c.enter.ensures.goes_on
    c.enter.ensures.alone c.leave.ensures.goes_on c.leave.ensures.alone)
    (λ told. c.fill_target-filled.ensures.files tells told)
    (λ told. record { empty = c.in-Ok.ensures.empty told; salvage = c.in-Ok.ensures.salvaged tells told })

pub returns-in-Err-clause-saves : goal.returns-in-Err-clause-saves
returns-in-Err-clause-saves g c = λ tells.
    let old = directory_at g.G.Host c.args.to.now in
    let new = directory_at g.G.Host c.leave.new.self in
    unfilled_writes (reading (g.H.Host.world c.args.from.now)) old new
    (visit_made old new (g.G.Host.world c.enter.new.self) (g.G.Host.world c.fill_target-filled.new.to) c.enter.ensures.goes_on
    c.enter.ensures.alone c.leave.ensures.goes_on c.leave.ensures.alone)
    c.in-Err.fault c.error_of_salvage.result c.error_of_salvage.ensures
    (λ told. c.fill_target-filled.ensures.files tells told)
    (λ told is. c.in-Err.ensures.refused told (ap Err is))
