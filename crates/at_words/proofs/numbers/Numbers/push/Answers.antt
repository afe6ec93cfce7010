use Rattle.std.proofs.Common.{◌≡◌, ◌==◌, false, rules}
use Rattle.std.specs.List.{list_any}
use Rattle.at_words.proofs.NumberLemmas.{are_distinct-more}
use Rattle.at_words.proofs.numbers.Numbers.push.Goals as goal

pub invariant_of-self : goal.invariant_of-self
invariant_of-self c =
    let none : list_any (λ other. other == c.args.number) c.self.inside.inner.items ≡ false = search rules in
    rw c.in_ok-push.ensures.items (are_distinct-more c.self.inside.inner.items c.args.number c.self.invariant none)
