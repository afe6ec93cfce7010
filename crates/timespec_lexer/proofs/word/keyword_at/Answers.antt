use Rattle.timespec_lexer.specs.Keywords.{keywords}
use Rattle.timespec_lexer.proofs.WordLemmas.{best_forward}
use Rattle.timespec_lexer.proofs.word.keyword_at.Goals as goal

pub returns-clause-longest : goal.returns-clause-longest
unfolding keywords
returns-clause-longest c = c.longest_word.ensures

pub returns-clause-forward : goal.returns-clause-forward
unfolding keywords
returns-clause-forward c = best_forward c.args.text.now c.args.place c.longest_word.result c.longest_word.ensures
