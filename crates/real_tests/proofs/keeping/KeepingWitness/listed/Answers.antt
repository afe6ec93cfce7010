use Rattle.std.proofs.Common.{rules}
use Rattle.std.proofs.lemmas.Slice.Eq.{bytes_eq-Decides, slice_eq-Decides}
use Rattle.real_tests.proofs.keeping.KeepingWitness.listed.Goals as goal
use Rattle.real_tests.proofs.keeping.KeepingWitness.listed.Goals.{in-Ok, in-Err}

pub returns-then-agrees-clause-listed : goal.returns-then-agrees-clause-listed
returns-then-agrees-clause-listed c knows = elim c.match-names_now.branch [
  | in-Ok w ↦ search (
    rules,
    slice_eq-Decides bytes_eq-Decides w.as_slice.result.now w.as_slice-in-Ok.result.now w.eq-agrees.result w.eq-agrees.ensures,
    w.agrees-is,
    c.if-agrees.true,
    w.as_slice.ensures,
    w.as_slice-in-Ok.ensures,
    c.names_now.ensures,
  )
  | in-Err w ↦ search (rules, w.agrees-is, c.if-agrees.true)
]
