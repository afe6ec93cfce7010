use Rattle.std.proofs.Common.{◌≡◌, ◌≤◌, ◌-◌, ◌==◌, ℕ, Bool, List, drop, length, length-drop, not, reverse, rules, ap, arith, ◌∙◌}
use Rattle.std.specs.List.{prefix_len}
use Rattle.std.proofs.lemmas.Grind.{common_steps}
use Rattle.std.proofs.lemmas.Iterator.Adapters.{YieldsList-from_rev_slice}
use Rattle.std.proofs.lemmas.Iterator.Consumers.{count_from_yields_List}
use Rattle.std.proofs.lemmas.Iterator.Search.{YieldsList-from_take_while}
use Rattle.std.proofs.lemmas.List.{take_all}
use Rattle.std.proofs.lemmas.List.Folds.{length-prefix_len}
use Rattle.caller_environment.proofs.fields.part_after_last.Goals as goal
use borrow.Author.Tests.{tests}

pub returns : goal.returns
returns c =
    let text : List ℕ = c.args.text.now in
    let test : ℕ → Bool = λ byte. not (byte == c.args.mark) in
    let counted = count_from_yields_List _ _ c.count-count.ensures.ran (YieldsList-from_take_while _ test
    (YieldsList-from_rev_slice text cc) c.take_while.ensures.closure c.take_while.ensures.done (λ x b q k. search (rules, tests))) in
    let size : c.count-count.result ≡ prefix_len test (reverse text) = counted ∙ length-prefix_len test (reverse text) in
    let start : ℕ = length text - c.count-count.result in
    let all : length (drop start text) ≤ length text - start = rw (length-drop start text) (omega arith) in
    take_all (length text - start) (drop start text) all ∙ ap (λ (n : ℕ). drop (length text - n) text) size
