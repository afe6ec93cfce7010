use Rattle.std.proofs.Common.{subst, sym, refl}
use Rattle.host_calls.specs.declared.damage.Damage.{Damage}
use Rattle.sequence_file.specs.Sequence.{IsFaultAt}
use Rattle.sequence_file.proofs.SequenceLemmas.{fault_at}
use Rattle.sequence_file.proofs.text.damage_of.Goals as goal

pub returns-clause-fault : goal.returns-clause-fault
returns-clause-fault c =
    let Breaks : Damage → Type 0 = λ damage. IsFaultAt c.args.bytes.now damage.offset damage.byte in
    subst Breaks (sym c.at.ensures) (rw c.max-offset.ensures
    (fault_at c.args.bytes.now c.fitting.result c.fitting-2.result _ c.requires c.fitting.ensures c.fitting-2.ensures refl))
