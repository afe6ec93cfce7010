use Rattle.std.proofs.Common.{◌∙◌, ap}
use Rattle.std.specs.List.{filter_map}
use Rattle.spool_faults.specs.Salvaged.{greatest}
use Rattle.spool_faults.specs.Salvaged.{number_named}
use Rattle.spool_faults.proofs.SavingLists.{greatest_end, greatest_step}
use Rattle.spool_faults.proofs.plan.greatest_name.Goals as goal

pub loop-name-preserved : goal.loop-name-preserved
loop-name-preserved c =
    greatest_step number_named c.args.names.now c.loop-name.name-index c.name-item.result c.loop-name.last c.greater-last.result
    (greatest c.args.least (filter_map number_named c.args.names.now)) c.number_named.result c.loop-name-test.true c.loop-name.invariant
    c.greater-last.ensures (c.number_named.ensures ∙ ap number_named c.name-item.is)

pub returns : goal.returns
returns c = greatest_end number_named c.args.names.now c.loop-name.name-index c.loop-name.last
    (greatest c.args.least (filter_map number_named c.args.names.now)) c.loop-name-test.false c.loop-name.invariant
