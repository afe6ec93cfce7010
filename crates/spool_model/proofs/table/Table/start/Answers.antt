use Rattle.std.proofs.Common.{refl}
use Rattle.spool_model.specs.contracts.table.Table as contract
use Rattle.spool_model.specs.declared.step.Step.TheVariants.{Start}
use Rattle.spool_model.proofs.StepLemmas.{sound_after}
use Rattle.spool_model.proofs.table.Table.start.Goals as goal

pub invariant_of-self : goal.invariant_of-self
invariant_of-self c = rw (c.set_state.ensures, c.last_batch_after-last_batch.ensures, ← c.self.view_is) (
    sound_after (contract.the_view c.self.inside) c.args.self.now (Start c.args.number _) (Start c.args.number _)
    c.self.view_is refl c.requires c.self.invariant)
