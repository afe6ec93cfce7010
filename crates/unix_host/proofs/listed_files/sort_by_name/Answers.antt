use Rattle.std.proofs.Common.{not, rules}
use Rattle.std.proofs.lemmas.List.MinMax.{ranks_by}
use Rattle.std.proofs.lemmas.List.Sorted.{answers_always}
use Rattle.std.specs.Cmp.Lexicographic.{nat_list_cmp_total}
use Rattle.std.specs.Ordering.{is_lt}
use Rattle.host_calls.specs.Directory.{name_cmp}
use Rattle.unix_host.specs.declared.listed_files.Prefixed.{Prefixed}
use Rattle.unix_host.proofs.PrefixLemmas.{passes_not}
use Rattle.unix_host.proofs.listed_files.sort_by_name.Goals as goal

pub returns-then-is_sorted_by-clause-ordered : goal.returns-then-is_sorted_by-clause-ordered
returns-then-is_sorted_by-clause-ordered c = λ k d low inside.
    passes_not _
    (c.if-is_sorted_by.ensures.cases (λ (one other : Prefixed). not (is_lt (name_cmp other.file.now.name one.file.now.name)))
    (answers_always _ _ _ (λ f a r g called. search rules)) k d inside)

pub returns-clause-ordered : goal.returns-clause-ordered
returns-clause-ordered c =
    c.sort_unstable_by.ensures.sorted (λ (one other : Prefixed). is_lt (name_cmp one.file.now.name other.file.now.name))
    (ranks_by nat_list_cmp_total (λ (one : Prefixed). one.file.now.name)) (answers_always _ _ _ (λ f a r g called. search rules))
