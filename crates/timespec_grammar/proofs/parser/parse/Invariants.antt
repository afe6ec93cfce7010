use Rattle.std.proofs.Common.{◌≡◌, take, Some}
use Rattle.timespec_grammar.specs.Grammar.{tokens_of}
use Rattle.timespec_grammar.proofs.ReadLemmas.{run}
use Rattle.timespec_grammar.specs.declared.read.Read.TheVariants as read
use Rattle.timespec_grammar.proofs.parser.parse.Given as goal

abbrev pub invariant-loop-index : goal.invariant-loop-index
invariant-loop-index l = run read.Nothing (tokens_of (take l.index l.tokens)) ≡ Some l.read
