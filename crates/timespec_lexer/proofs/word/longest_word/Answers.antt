use Rattle.std.proofs.Common.{ap, ◌∙◌, subst, sym}
use Rattle.std.proofs.lemmas.List.{take_more, map-append}
use Rattle.timespec_lexer.specs.inside.Search.{IsLongestMatch, words_of}
use Rattle.timespec_lexer.specs.Tokens.{WordTable}
use Rattle.timespec_lexer.proofs.word.longest_word.Goals as goal

pub loop-row-preserved : goal.loop-row-preserved
loop-row-preserved c =
    subst (λ (table : WordTable). IsLongestMatch c.args.text.now c.args.place table c.with_row-longest.result)
    (sym (ap words_of (take_more c.args.table.now c.loop-row.row-index _ c.loop-row-test.true) ∙ map-append _ _ _))
    (c.with_row-longest.ensures _ c.loop-row.invariant)
