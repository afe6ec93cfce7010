use Rattle.real_tests.proofs.KeptLemmas.{keeps_call}
use Rattle.real_tests.proofs.keeping.KeepingWitness.synced.Goals as goal

pub returns-clause-files : goal.returns-clause-files
returns-clause-files c knows =
    keeps_call _ _ c.args.self.now.model c.sync-mine.new.self c.args.self.now.steps.items c.and-self.result.items
    c.args.self.now.asked.items
    c.of.result c.sync-mine.result c.judge.result c.of.ensures c.and-self.ensures c.sync-mine.ensures.files c.judge.ensures
