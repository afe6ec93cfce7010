use Rattle.std.proofs.Common.{◌∙◌, ◌==◌, length, sym, rules}
use Rattle.std.proofs.lemmas.Iterator.Consumers.{YieldsList-at, YieldsList-turn, YieldsList-end}
use Rattle.std.proofs.lemmas.Iterator.Splits.{YieldsList-from_slice_split}
use Rattle.std.proofs.lemmas.List.{length_push}
use Rattle.cron_text.specs.inside.Reader.{elements_of}
use Rattle.cron_text.proofs.ElementLemmas.{elements-more, elements-bad, elements-end}
use Rattle.cron_text.proofs.field.read_elements.Goals as goal
use borrow.Author.Tests.{tests}

pub returns-in_err-first : goal.returns-in_err-first
returns-in_err-first c =
    let loop = c.loop-element in
    let bad = elements-bad c.args.low c.args.high loop.bits (elements_of c.args.text.now) (length loop.yielded) c.in-Some.element.now
    (YieldsList-turn (YieldsList-at c.into_iter-element-iterator.ensures.into_iter_gives (YieldsList-from_slice_split _ (λ b. b == 44)
    c.args.text.now c.split-element-items.ensures.rest c.split-element-items.ensures.done c.split-element-items.ensures.closure
    (λ x b q k. search (rules, tests)))) loop.yielded _ loop.yielded_by _ _ c.in-Some.element c.in-Some.is c.next.ensures.steps)
    (sym c.read_element.ensures.value ∙ c.in_err-first.was) in
    c.from_residual.ensures ∙ (sym bad ∙ loop.invariant.1)

pub loop-element-preserved : goal.loop-element-preserved
loop-element-preserved c =
    let loop = c.loop-element in
    let more = elements-more c.args.low c.args.high loop.bits (elements_of c.args.text.now) (length loop.yielded) c.in-Some.element.now
    (c.in_ok-first.first, c.in_ok-first.last)
    (YieldsList-turn (YieldsList-at c.into_iter-element-iterator.ensures.into_iter_gives (YieldsList-from_slice_split _ (λ b. b == 44)
    c.args.text.now c.split-element-items.ensures.rest c.split-element-items.ensures.done c.split-element-items.ensures.closure
    (λ x b q k. search (rules, tests)))) loop.yielded _ loop.yielded_by _ _ c.in-Some.element c.in-Some.is c.next.ensures.steps)
    (sym c.read_element.ensures.value ∙ c.in_ok-first.was) in
    (search rules, rw (length_push loop.yielded c.in-Some.element, c.bits_between-bits.ensures) (sym more ∙ loop.invariant.1))

pub returns : goal.returns
returns c =
    let loop = c.loop-element in
    let ended = elements-end c.args.low c.args.high loop.bits (elements_of c.args.text.now) (length loop.yielded)
    (YieldsList-end (YieldsList-at c.into_iter-element-iterator.ensures.into_iter_gives (YieldsList-from_slice_split _ (λ b. b == 44)
    c.args.text.now c.split-element-items.ensures.rest c.split-element-items.ensures.done c.split-element-items.ensures.closure
    (λ x b q k. search (rules, tests)))) loop.yielded _ loop.yielded_by _ _ c.in-None.is c.next.ensures.steps) in
    sym ended ∙ loop.invariant.1
