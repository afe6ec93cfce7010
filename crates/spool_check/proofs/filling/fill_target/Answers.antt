use Rattle.std.proofs.Common.{ap}
use Rattle.std.specs.Prelude.{Err}
use Rattle.host_calls.specs.World.{reading}
use Rattle.spool_check.specs.declared.fault.SalvageFault.TheVariants.{FromFailed}
use Rattle.spool_check.proofs.FaultLemmas.{no_other, unmoved}
use Rattle.spool_check.proofs.FillLemmas.{opened_leaves, opened_then, salvaged_since}
use Rattle.spool_check.proofs.filling.fill_target.Goals as goal

pub returns-in_err-open_target-clause-from : goal.returns-in_err-open_target-clause-from
returns-in_err-open_target-clause-from g c =
    unmoved FromFailed (g.H.Host.session c.args.from.now) c.from_residual.result c.requires.inside_from
    (no_other c.in_err-open_target.field-0.0 FromFailed c.from_residual.result (λ is. c.in_err-open_target.ensures.not_source (ap Err is))
    c.from_residual.ensures.1)

pub returns-in_err-open_target-clause-files : goal.returns-in_err-open_target-clause-files
returns-in_err-open_target-clause-files g c = λ tells told.
    opened_leaves (reading (g.H.Host.world c.args.from.now)) (g.G.Host.world c.args.to.now) (g.G.Host.world c.open_target.new.to)
    (c.in_err-open_target.ensures.leaves told)

pub returns-clause-files : goal.returns-clause-files
returns-clause-files g c = λ tells told.
    opened_then (reading (g.H.Host.world c.args.from.now)) (g.G.Host.world c.args.to.now) (g.G.Host.world c.open_target.new.to)
    (g.G.Host.world c.write_target.new.to) (c.in_ok-open_target.ensures.leaves told) (c.write_target.ensures.files tells told)

pub returns-clause-salvaged : goal.returns-clause-salvaged
returns-clause-salvaged g c = λ tells told.
    salvaged_since c.write_target.result (reading (g.H.Host.world c.args.from.now)) (g.G.Host.world c.args.to.now)
    (g.G.Host.world c.open_target.new.to) (g.G.Host.world c.write_target.new.to) (c.in_ok-open_target.ensures.leaves told)
    (c.write_target.ensures.salvaged tells told)
