use Rattle.std.proofs.Common.{rules, ◌∙◌, sym}
use Rattle.std.proofs.lemmas.List.{nil_from_length}
use Rattle.witnessed_host.proofs.NothingLemmas.{lists_nothing}
use Rattle.witnessed_host.proofs.no_files.NoFilesWitness.listed.Goals as goal

pub returns-then-is_empty-clause-listed : goal.returns-then-is_empty-clause-listed
returns-then-is_empty-clause-listed c =
    λ knows. nil_from_length _ (search (rules, c.is_empty.ensures, c.if-is_empty.true)) ∙ sym lists_nothing
