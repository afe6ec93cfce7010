use Rattle.std.specs.Prelude.{Ok}
use Rattle.spool_check.specs.declared.fault.SalvageFault.TheVariants.{FromFailed, ToFailed, NotEmpty}
use Rattle.spool_check.specs.Faults.{IsTargetFault}
use Rattle.whole_file.specs.Temporary.{temporary_file}
use Rattle.spool_check.proofs.FaultLemmas.{calls_unless, no_fault, no_other, source_not_empty, source_not_target, target_not_empty, target_not_source, unmoved}
use Rattle.spool_check.proofs.FillLemmas.{placing_alone}
use Rattle.spool_check.proofs.copying.copy.Goals as goal

pub returns-in_err-bytes-clause-to : goal.returns-in_err-bytes-clause-to
returns-in_err-bytes-clause-to g c =
    unmoved ToFailed (g.G.Host.session c.args.to.now) c.from_residual.result c.requires.inside_to
    (no_other c.in_err-bytes.field-0.0 ToFailed c.from_residual.result
    (source_not_target c.in_err-bytes.field-0.0 c.in_err-bytes.ensures.of) c.from_residual.ensures.1)

pub returns-in_err-bytes-clause-other : goal.returns-in_err-bytes-clause-other
returns-in_err-bytes-clause-other g c =
    no_other c.in_err-bytes.field-0.0 NotEmpty c.from_residual.result (source_not_empty c.in_err-bytes.field-0.0 c.in_err-bytes.ensures.of)
    c.from_residual.ensures.1

pub returns-clause-from : goal.returns-clause-from
returns-clause-from g c =
    calls_unless FromFailed (g.H.Host.session c.args.from.now) (g.H.Host.session c.bytes_of.new.from)
    (Ok c.in_ok-bytes.bytes) c.place_whole.result
    c.in_ok-bytes.ensures.inside (no_fault FromFailed IsTargetFault c.place_whole.result target_not_source c.place_whole.ensures.of)

pub returns-clause-other : goal.returns-clause-other
returns-clause-other g c = no_fault NotEmpty IsTargetFault c.place_whole.result target_not_empty c.place_whole.ensures.of

pub returns-clause-files : goal.returns-clause-files
returns-clause-files g c = λ tells.
    placing_alone temporary_file c.args.name.now c.as_slice.result.now (g.G.Host.world c.args.to.now) (g.G.Host.world c.place_whole.new.to)
    (c.place_whole.ensures.files tells)
