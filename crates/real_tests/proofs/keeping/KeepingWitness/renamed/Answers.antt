use Rattle.real_tests.proofs.KeptLemmas.{keeps_call}
use Rattle.real_tests.proofs.keeping.KeepingWitness.renamed.Goals as goal

pub returns-clause-files : goal.returns-clause-files
returns-clause-files c knows =
    keeps_call _ _ c.args.self.now.model c.rename-mine.new.self c.args.self.now.steps.items c.and-self.result.items
    c.args.self.now.asked.items
    c.of.result c.rename-mine.result c.judge.result c.of.ensures c.and-self.ensures c.rename-mine.ensures.files c.judge.ensures
