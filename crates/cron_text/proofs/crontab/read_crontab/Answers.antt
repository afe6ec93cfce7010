use Rattle.std.proofs.Common.{◌≡◌, ◌∙◌, ℕ, ◌+◌, ◌≤◌, ◌==◌, List, length, sym, arith, rules, refl}
use Rattle.std.proofs.lemmas.Iterator.Consumers.{YieldsList-at, YieldsList-turn, YieldsList-end}
use Rattle.std.proofs.lemmas.Iterator.Splits.{YieldsList-from_slice_split}
use Rattle.std.proofs.lemmas.List.{length_push}
use Rattle.std.proofs.lemmas.List.Splits.{length-slice_split}
use Rattle.std.proofs.lemmas.List.Sums.{count_by-le-length}
use Rattle.text_reader.specs.Lines.{lines_of}
use Rattle.cron_text.proofs.ElementLemmas.{IsNextOf}
use Rattle.cron_text.proofs.LineLemmas.{crontab_bad, crontab_sound, lines-bad, lines-end, lines-more}
use Rattle.cron_text.proofs.crontab.read_crontab.Goals as goal
use borrow.Author.Tests.{tests}

-- there are few lines
few_lines : (text : List ℕ) (place : ℕ) (line : List ℕ) → IsNextOf (lines_of text) place line → place ≤ length text
few_lines text place line next =
    let counted = length-slice_split (λ (byte : ℕ). byte == 10) text in
    let few = count_by-le-length (λ (byte : ℕ). byte == 10) text in
    omega (arith, next.0)

pub overflow_add-number : goal.overflow_add-number
overflow_add-number c =
    let loop = c.loop-line in
    let few = few_lines c.args.text.now (length loop.yielded) c.in-Some.line.now
    (YieldsList-turn (YieldsList-at c.into_iter-line-iterator.ensures.into_iter_gives (YieldsList-from_slice_split _ (λ b. b == 10)
    c.args.text.now c.split-line-items.ensures.rest c.split-line-items.ensures.done c.split-line-items.ensures.closure
    (λ x b q k. search (rules, tests)))) loop.yielded _ loop.yielded_by _ _ c.in-Some.line c.in-Some.is c.next.ensures.steps) in
    let counted : loop.number ≡ length loop.yielded = loop.invariant.1 in
    omega arith

pub returns-then-not-branch : goal.returns-then-not-branch
returns-then-not-branch c =
    let loop = c.loop-line in
    let bad = lines-bad loop.entries.items loop.number (lines_of c.args.text.now) (length loop.yielded) c.in-Some.line.now
    (YieldsList-turn (YieldsList-at c.into_iter-line-iterator.ensures.into_iter_gives (YieldsList-from_slice_split _ (λ b. b == 10)
    c.args.text.now c.split-line-items.ensures.rest c.split-line-items.ensures.done c.split-line-items.ensures.closure
    (λ x b q k. search (rules, tests)))) loop.yielded _ loop.yielded_by _ _ c.in-Some.line c.in-Some.is c.next.ensures.steps)
    (c.in_ok-take_line.ensures ∙ rw c.if-not-branch.true refl) in
    crontab_bad c.args.text.now (loop.number + 1) (sym loop.invariant.2 ∙ bad)

pub loop-line-preserved : goal.loop-line-preserved
loop-line-preserved c =
    let loop = c.loop-line in
    let more = lines-more loop.entries.items loop.number (lines_of c.args.text.now) (length loop.yielded) c.in-Some.line.now
    c.take_line.new.entries.items
    (YieldsList-turn (YieldsList-at c.into_iter-line-iterator.ensures.into_iter_gives (YieldsList-from_slice_split _ (λ b. b == 10)
    c.args.text.now c.split-line-items.ensures.rest c.split-line-items.ensures.done c.split-line-items.ensures.closure
    (λ x b q k. search (rules, tests)))) loop.yielded _ loop.yielded_by _ _ c.in-Some.line c.in-Some.is c.next.ensures.steps)
    (c.in_ok-take_line.ensures ∙ rw c.if-not-branch.false refl) in
    let counted : loop.number ≡ length loop.yielded = loop.invariant.1 in (
      search rules,
      rw (length_push loop.yielded c.in-Some.line) (omega arith),
      rw (length_push loop.yielded c.in-Some.line) (sym more ∙ loop.invariant.2),
    )

pub returns : goal.returns
returns c =
    let loop = c.loop-line in
    let ended = lines-end loop.entries.items loop.number (lines_of c.args.text.now) (length loop.yielded)
    (YieldsList-end (YieldsList-at c.into_iter-line-iterator.ensures.into_iter_gives (YieldsList-from_slice_split _ (λ b. b == 10)
    c.args.text.now c.split-line-items.ensures.rest c.split-line-items.ensures.done c.split-line-items.ensures.closure
    (λ x b q k. search (rules, tests)))) loop.yielded _ loop.yielded_by _ _ c.in-None.is c.next.ensures.steps) in
    crontab_sound c.args.text.now loop.entries.items (sym loop.invariant.2 ∙ ended)
