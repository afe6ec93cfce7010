use Rattle.std.proofs.Common.{sym, subst}
use Rattle.memory_host.specs.Host.{progress_of}
use Rattle.memory_host.specs.inside.Faults.{AreFaultsPlanned}
use Rattle.memory_host.proofs.FaultLemmas.{faults_failed, next_progress}
use Rattle.memory_host.proofs.memory_host.MemoryHost.fail.Goals as goal

pub invariant_of-self-clause-faults : goal.invariant_of-self-clause-faults
invariant_of-self-clause-faults g c =
    let host = c.args.self.now in
    let at = progress_of host in
    subst (λ next. AreFaultsPlanned next host.fuses.items c.saturating_add-self.result host.start_faults host.taken)
    (sym (next_progress at _ _ c.next-self.ensures.call c.next-self.ensures.since_reboot))
    (faults_failed at host.fuses.items host.file_faults host.start_faults host.taken host.faults _
    c.saturating_add-self.ensures c.requires.planned)
