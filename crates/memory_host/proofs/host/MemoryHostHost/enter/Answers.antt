use Rattle.std.proofs.Common.{ap, is_some, sym, subst, ◌∙◌}
use Rattle.memory_host.specs.Host.{progress_of}
use Rattle.memory_host.specs.inside.Faults.{AreFaultsPlanned}
use Rattle.memory_host.proofs.FaultLemmas.{faults_failed, faults_passed, faults_taken, next_progress}
use Rattle.memory_host.proofs.host.MemoryHostHost.enter.Goals as goal

pub invariant_of-self-clause-faults : goal.invariant_of-self-clause-faults
invariant_of-self-clause-faults c =
    let host = c.args.self.now in
    let at = progress_of host in
    subst (λ next. AreFaultsPlanned next host.fuses.items host.file_faults host.start_faults c.saturating_add-self.result)
    (sym (next_progress at _ _ c.next-self.ensures.call c.next-self.ensures.since_reboot))
    (faults_taken at host.fuses.items host.file_faults host.start_faults host.taken host.faults _ c.saturating_add-self.ensures
    (sym c.finds_taken-is_taken.ensures ∙ c.if-is_taken.true))

pub invariant_of-self-then-fails-clause-faults : goal.invariant_of-self-then-fails-clause-faults
invariant_of-self-then-fails-clause-faults c =
    let host = c.args.self.now in
    let at = progress_of host in
    subst (λ next. AreFaultsPlanned next host.fuses.items c.saturating_add-self-then-fails.result host.start_faults host.taken)
    (sym (next_progress at _ _ c.next-self.ensures.call c.next-self.ensures.since_reboot))
    (faults_failed at host.fuses.items host.file_faults host.start_faults host.taken host.faults _ c.saturating_add-self-then-fails.ensures
    (ap is_some (sym c.next_part.ensures) ∙ sym c.is_some-fails.ensures ∙ c.if-fails.true))

pub invariant_of-self-2-clause-faults : goal.invariant_of-self-2-clause-faults
invariant_of-self-2-clause-faults c =
    let host = c.args.self.now in
    let at = progress_of host in
    subst (λ next. AreFaultsPlanned next host.fuses.items host.file_faults host.start_faults host.taken)
    (sym (next_progress at _ _ c.next-self.ensures.call c.next-self.ensures.since_reboot))
    (faults_passed at host.fuses.items host.file_faults host.start_faults host.taken host.faults)
