use Rattle.std.proofs.Common.{◌≡◌, ◌∙◌, ◌≤◌, ◌++◌, IsPermutation, ap, map, drop, length, take, arith, rules, subst, sym}
use Rattle.std.proofs.Math.Seq.{take-append_seam}
use Rattle.std.proofs.lemmas.List.{take_all}
use Rattle.std.proofs.lemmas.List.Sorted.{IsPermutation-map, IsPermutation-trans, length_permutation}
use Rattle.unix_host.specs.declared.listed_files.Prefixed.{Prefixed}
use Rattle.unix_host.proofs.listed_files.in_order.Goals as goal

pub returns-clause-found : goal.returns-clause-found
returns-clause-found c =
    let before = c.loop-file.order.items in
    let sorted = c.sort_unstable_by_key.new.self in
    let order = c.sort_by_name.new.order in
    let file = λ (one : Prefixed). one.file.now in
    let within : length c.args.files.now ≤ c.loop-file.file-index = omega arith in
    let all : map file before ≡ c.args.files.now = c.loop-file.invariant ∙ take_all c.loop-file.file-index c.args.files.now within in
    let later = subst (λ list. IsPermutation list order) c.deref_mut.ensures.value c.sort_by_name.ensures.permutation in
    let long : sorted.len ≡ length sorted.items = search rules in
    let len : sorted.len ≡ length order = long ∙ sym (length_permutation sorted.items order later) in
    let written : take sorted.len (order ++ drop (length order) sorted.items) ≡ order =
    ap (λ count. take count (order ++ drop (length order) sorted.items)) len ∙ take-append_seam order _ in
    subst (λ list. IsPermutation c.args.files.now (map file list)) (sym written)
    (subst (λ files. IsPermutation files (map file order)) all
    (IsPermutation-map file before order (IsPermutation-trans before sorted.items order c.sort_unstable_by_key.ensures.permutation later)))
