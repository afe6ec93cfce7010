use Rattle.std.proofs.Common.{◌≡◌, drop}
use Rattle.std.specs.List.{filter_map}
use Rattle.spool_faults.specs.Salvaged.{greatest}
use Rattle.spool_faults.specs.Salvaged.{number_named}
use Rattle.spool_faults.proofs.plan.greatest_name.Given as goal

abbrev pub invariant-loop-name : goal.invariant-loop-name
invariant-loop-name l = greatest l.last (filter_map number_named (drop l.name-index l.names))
    ≡ greatest l.least (filter_map number_named l.names)
