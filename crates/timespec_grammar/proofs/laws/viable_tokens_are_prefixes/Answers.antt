use Rattle.timespec_grammar.proofs.ViableLemmas.{viable_goes_on}
use Rattle.timespec_grammar.proofs.ParseLemmas.{prefixes_are_viable}
use Rattle.timespec_grammar.proofs.laws.viable_tokens_are_prefixes.Goals as goal

pub returns-clause-goes_on : goal.returns-clause-goes_on
returns-clause-goes_on c = viable_goes_on

pub returns-clause-prefixes : goal.returns-clause-prefixes
returns-clause-prefixes c = prefixes_are_viable
