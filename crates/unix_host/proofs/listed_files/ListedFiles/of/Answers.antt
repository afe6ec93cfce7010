use Rattle.std.proofs.Common.{◌≡◌, ◌∙◌, IsPermutation, ap, map, rules, subst, sym}
use Rattle.std.specs.Prelude.{IsSortedByKey}
use Rattle.std.specs.Ordering.{is_lt}
use Rattle.host_calls.specs.Directory.{name_cmp}
use Rattle.unix_host.specs.declared.listed_files.Listed.{Listed}
use Rattle.unix_host.specs.declared.listed_files.Prefixed.{Prefixed}
use Rattle.unix_host.proofs.PrefixLemmas.{sorted_map}
use Rattle.unix_host.proofs.listed_files.ListedFiles.of.Goals as goal

pub invariant_of-result : goal.invariant_of-result
invariant_of-result c =
    let order = c.in_ok-order.order.items in
    let file = λ (one : Prefixed). one.file.now in
    let lent : c.deref.result.now ≡ order = search rules in
    let rows : c.in_ok-files.files.items ≡ map file order = c.in_ok-files.ensures ∙ ap (map file) lent in
    record {
      ordered = subst (IsSortedByKey (λ (one : Listed). one.name) name_cmp) (sym rows)
          (sorted_map file (λ (one other : Listed). is_lt (name_cmp one.name other.name)) order c.in_ok-order.ensures.ordered);
    }

pub returns : goal.returns
returns c =
    let order = c.in_ok-order.order.items in
    let file = λ (one : Prefixed). one.file.now in
    let lent : c.deref.result.now ≡ order = search rules in
    let rows : c.in_ok-files.files.items ≡ map file order = c.in_ok-files.ensures ∙ ap (map file) lent in
    subst (IsPermutation c.args.found.now) (sym rows) c.in_ok-order.ensures.found
