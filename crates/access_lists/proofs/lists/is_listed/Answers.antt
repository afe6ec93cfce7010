use Rattle.std.proofs.Common.{rules, ℕ, Bool, List}
use Rattle.std.proofs.lemmas.Iterator.Search.{any_from_yields_List}
use Rattle.std.proofs.lemmas.Iterator.Splits.{YieldsList-from_slice_split}
use Rattle.std.specs.Str.{bytes_eq}
use Rattle.access_lists.specs.Access.{name_in_list_line}
use Rattle.access_lists.proofs.lists.is_listed.Goals as goal
use borrow.Author.Tests.{tests}

pub returns : goal.returns
returns c =
    let tells : List ℕ → Bool = λ line. bytes_eq (name_in_list_line line) c.args.user.now in
    let lines = YieldsList-from_slice_split _ _ c.args.list.now c.split.ensures.rest c.split.ensures.done c.split.ensures.closure
    (λ x b q k. search (rules, tests)) in
    any_from_yields_List tells _ _ _ c.any.ensures.ran lines (λ x b q k. search (rules, tests))
