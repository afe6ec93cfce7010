use Rattle.std.proofs.Common.{sym, ◌∙◌}
use Rattle.timespec_grammar.specs.Grammar.{tokens_of}
use Rattle.timespec_grammar.proofs.ParseLemmas.{all_read, read_more, fault_within, refused_within, fault_at_end, refused_at_end, spelled_at_end, only_one}
use Rattle.timespec_grammar.proofs.RangeLemmas.{spells_in_range}
use Rattle.timespec_grammar.proofs.parser.parse.Goals as goal

pub loop-index-preserved : goal.loop-index-preserved
loop-index-preserved c =
    read_more c.args.tokens.now c.loop-index.index _ c.loop-index.read c.in-Some.more c.loop-index-test.true
    c.loop-index.invariant (sym c.step.ensures ∙ c.in-Some.is)

pub returns-in_default-clause-fault : goal.returns-in_default-clause-fault
returns-in_default-clause-fault c =
    fault_within c.args.tokens.now c.loop-index.index _ c.loop-index.read c.loop-index-test.true
    c.loop-index.invariant (sym c.step.ensures ∙ c.in_default.is)

pub returns-in_default-clause-refused : goal.returns-in_default-clause-refused
returns-in_default-clause-refused c =
    refused_within c.args.tokens.now c.loop-index.index _ c.loop-index.read c.loop-index-test.true
    c.loop-index.invariant (sym c.step.ensures ∙ c.in_default.is)

pub returns-in_default-timespec_read-clause-fault : goal.returns-in_default-timespec_read-clause-fault
returns-in_default-timespec_read-clause-fault c =
    let ran = all_read c.args.tokens.now c.loop-index.index c.loop-index.read c.loop-index-test.false c.loop-index.invariant in
    fault_at_end c.args.tokens.now c.loop-index.read ran (sym c.timespec_read.ensures ∙ c.in_default-timespec_read.is)

pub returns-in_default-timespec_read-clause-refused : goal.returns-in_default-timespec_read-clause-refused
returns-in_default-timespec_read-clause-refused c =
    let ran = all_read c.args.tokens.now c.loop-index.index c.loop-index.read c.loop-index-test.false c.loop-index.invariant in
    refused_at_end c.args.tokens.now c.loop-index.read ran (sym c.timespec_read.ensures ∙ c.in_default-timespec_read.is)

pub returns-clause-spelled : goal.returns-clause-spelled
returns-clause-spelled c =
    let ran = all_read c.args.tokens.now c.loop-index.index c.loop-index.read c.loop-index-test.false c.loop-index.invariant in
    spelled_at_end (tokens_of c.args.tokens.now) c.loop-index.read c.in-Some-timespec_read.spec ran (sym c.timespec_read.ensures
    ∙ c.in-Some-timespec_read.is)

pub returns-clause-only : goal.returns-clause-only
returns-clause-only c = λ other spelled.
    let ran = all_read c.args.tokens.now c.loop-index.index c.loop-index.read c.loop-index-test.false c.loop-index.invariant in
    only_one (tokens_of c.args.tokens.now) c.loop-index.read c.in-Some-timespec_read.spec other ran
    (sym c.timespec_read.ensures ∙ c.in-Some-timespec_read.is) spelled

pub returns-clause-in_range : goal.returns-clause-in_range
returns-clause-in_range c =
    let ran = all_read c.args.tokens.now c.loop-index.index c.loop-index.read c.loop-index-test.false c.loop-index.invariant in
    spells_in_range (tokens_of c.args.tokens.now) c.in-Some-timespec_read.spec
    (spelled_at_end (tokens_of c.args.tokens.now) c.loop-index.read c.in-Some-timespec_read.spec ran (sym c.timespec_read.ensures
    ∙ c.in-Some-timespec_read.is))
