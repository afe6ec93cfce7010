use Rattle.std.proofs.Common.{rules, ℕ, Bool, List}
use Rattle.std.proofs.lemmas.Iterator.Search.{any_from_yields_List}
use Rattle.std.proofs.lemmas.Iterator.Splits.{YieldsList-from_slice_split}
use Rattle.launcher.specs.Locks.{ends_so}
use Rattle.launcher.proofs.held_locks.is_lock_of.Goals as goal
use borrow.Author.Tests.{tests}

pub returns : goal.returns
returns c =
    let tells : List ℕ → Bool = λ field. ends_so field c.args.ending.now in
    let fields = YieldsList-from_slice_split _ _ c.args.line.now c.split.ensures.rest c.split.ensures.done c.split.ensures.closure
    (λ x b q k. search (rules, tests)) in
    any_from_yields_List tells _ _ _ c.any.ensures.ran fields (λ x b q k. search (rules, tests))
