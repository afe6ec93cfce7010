use Rattle.std.proofs.lemmas.Result.{IfOk-at_ok}
use Rattle.memory_host.specs.Host.{IsNew}
use Rattle.memory_host.proofs.OpenLemmas.{no_name_at_first}
use Rattle.host_tests.proofs.plans.empty_host.Goals as goal

pub returns-clause-empty : goal.returns-clause-empty
returns-clause-empty g c =
    let is = IfOk-at_ok (IsNew c.new-files.result c.no_plan.result) c.expect-host.ensures c.make.ensures in
    no_name_at_first c.new-files.result c.no_plan.result c.expect-host.result _ is c.new-files.ensures c.enter.ensures.world
