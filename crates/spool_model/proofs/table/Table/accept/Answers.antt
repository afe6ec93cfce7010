use Rattle.std.proofs.Common.{refl}
use Rattle.spool_model.specs.contracts.table.Table as contract
use Rattle.spool_model.specs.declared.step.Step.TheVariants.{Accept}
use Rattle.spool_model.proofs.StepLemmas.{sound_after}
use Rattle.spool_model.proofs.table.Table.accept.Goals as goal

pub invariant_of-self-2 : goal.invariant_of-self-2
invariant_of-self-2 c = rw c.in_ok-insert.ensures.ok (
    sound_after (contract.the_view c.self.inside) c.args.self.now (Accept c.args.number c.in_ok-job.job)
    (Accept c.args.number c.in_ok-job.job)
    c.self.view_is refl c.requires c.self.invariant)
