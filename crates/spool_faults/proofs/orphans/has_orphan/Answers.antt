use Rattle.std.proofs.Common.{rules, tests}
use Rattle.std.proofs.lemmas.Iterator.{YieldsList-from_slice}
use Rattle.std.proofs.lemmas.Iterator.Search.{any_from_yields_List}
use Rattle.spool_faults.specs.Salvaged.{is_orphan}
use Rattle.spool_faults.proofs.orphans.has_orphan.Goals as goal

pub returns : goal.returns
returns c = λ all files decided queues.
    any_from_yields_List (is_orphan c.args.last all files) _ _ _ c.any.ensures.ran (YieldsList-from_slice c.args.marks.now cc)
    (λ x b q k. search (rules, tests))
