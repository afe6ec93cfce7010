use Rattle.std.proofs.Common.{take}
use Rattle.timespec_lexer.specs.inside.Search.{IsLongestMatch, words_of}
use Rattle.timespec_lexer.proofs.word.longest_word.Given as goal

abbrev pub invariant-loop-row : goal.invariant-loop-row
invariant-loop-row l = IsLongestMatch l.text l.place (words_of (take l.row-index l.table)) l.longest
