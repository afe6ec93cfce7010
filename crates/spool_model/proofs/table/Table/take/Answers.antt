use Rattle.spool_model.specs.contracts.table.Table as contract
use Rattle.spool_model.specs.declared.step.Step.TheVariants.{Remove, End, Interrupt, Forget}
use Rattle.spool_model.proofs.StepLemmas.{sound_after}
use Rattle.spool_model.proofs.table.Table.take.Goals as goal

pub invariant_of-self-in-Remove : goal.invariant_of-self-in-Remove
invariant_of-self-in-Remove c = rw c.decide.ensures (
    sound_after (contract.the_view c.self-in-Remove.inside) c.args.self.now (Remove c.in-Remove.number) c.args.step.now
    c.self-in-Remove.view_is c.in-Remove.is c.requires c.self-in-Remove.invariant)

pub invariant_of-self-in-End : goal.invariant_of-self-in-End
invariant_of-self-in-End c = rw c.decide-in-End.ensures (
    sound_after (contract.the_view c.self-in-End.inside) c.args.self.now (End c.in-End.number c.in-End.ending) c.args.step.now
    c.self-in-End.view_is c.in-End.is c.requires c.self-in-End.invariant)

pub invariant_of-self-in-Interrupt : goal.invariant_of-self-in-Interrupt
invariant_of-self-in-Interrupt c = rw c.decide-in-Interrupt.ensures (
    sound_after (contract.the_view c.self-in-Interrupt.inside) c.args.self.now (Interrupt c.in-Interrupt.number) c.args.step.now
    c.self-in-Interrupt.view_is c.in-Interrupt.is c.requires c.self-in-Interrupt.invariant)

pub invariant_of-self-in-Forget : goal.invariant_of-self-in-Forget
invariant_of-self-in-Forget c = rw c.remove.ensures (
    sound_after (contract.the_view c.self-in-Forget.inside) c.args.self.now (Forget c.in-Forget.number) c.args.step.now
    c.self-in-Forget.view_is c.in-Forget.is c.requires c.self-in-Forget.invariant)
