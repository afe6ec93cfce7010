use Rattle.std.proofs.Common.{List, ℕ, refl, subst, sym}
use Rattle.timespec_lexer.specs.Tokens.{HasWord}
use Rattle.timespec_lexer.proofs.WordLemmas.{best_past, best_more}
use Rattle.timespec_lexer.proofs.word.with_row.Goals as goal

pub returns-then-not-has_word : goal.returns-then-not-has_word
returns-then-not-has_word c = λ table kept.
    best_past c.args.text.now c.args.place table c.args.longest c.args.row.now.0.now c.args.row.now.1 kept
    (λ here. let holds : HasWord c.args.text.now c.args.place c.as_bytes.result.now
    = subst (λ (word : List ℕ). HasWord c.args.text.now c.args.place word) (sym c.as_bytes.ensures.value) here in
    cc (c.has_word.ensures.1 holds, c.if-not-has_word.true))

pub returns : goal.returns
returns c = λ table kept.
    best_more c.args.text.now c.args.place table c.args.longest c.args.row.now.0.now _ c.longer_of.result kept
    (subst (λ (word : List ℕ). HasWord c.args.text.now c.args.place word) c.as_bytes.ensures.value
    (c.has_word.ensures.0 c.if-not-has_word.false))
    refl c.longer_of.ensures.first c.longer_of.ensures.longer c.longer_of.ensures.stays
