use Rattle.std.proofs.Common.{rules}
use Rattle.std.proofs.lemmas.Iterator.Consumers.{nth_from_yields_List}
use Rattle.std.proofs.lemmas.Iterator.Splits.{YieldsList-from_slice_split}
use Rattle.caller_environment.proofs.fields.field.Goals as goal
use borrow.Author.Tests.{tests}

pub returns : goal.returns
returns c =
    let fields = YieldsList-from_slice_split _ _ c.args.line.now c.split.ensures.rest c.split.ensures.done c.split.ensures.closure
    (λ x b q k. search (rules, tests)) in
    nth_from_yields_List _ _ _ c.nth.ensures.ran fields
