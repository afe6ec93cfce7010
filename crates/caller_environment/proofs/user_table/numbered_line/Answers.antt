use Rattle.std.proofs.Common.{rules}
use Rattle.std.proofs.lemmas.Iterator.Search.{find_from_yields_List}
use Rattle.std.proofs.lemmas.Iterator.Splits.{YieldsList-from_slice_split}
use Rattle.caller_environment.specs.UserTable.{has_user_number}
use Rattle.caller_environment.proofs.user_table.numbered_line.Goals as goal
use borrow.Author.Tests.{tests}

pub returns : goal.returns
returns c =
    let lines = YieldsList-from_slice_split _ _ c.args.table.now c.split.ensures.rest c.split.ensures.done c.split.ensures.closure
    (λ x b q k. search (rules, tests)) in
    find_from_yields_List (has_user_number c.args.number) _ _ c.find.result c.find.ensures.ran lines (λ x b q k. search (rules, tests))
