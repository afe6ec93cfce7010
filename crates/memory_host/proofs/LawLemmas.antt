-- What holds of a host by what it was made as.
use Rattle.std.proofs.Common.{◌≡◌, [], ap, subst, sym, ◌∙◌}
use Rattle.std.specs.Prelude.{None}
use Rattle.memory_host.specs.Children.{AreAnswers}
use Rattle.memory_host.specs.Host.{memory_session, memory_world, progress_of}
use Rattle.memory_host.specs.Laws.{ChildrenAnswerAsPlanned, FaultsArePlanned, HasFewFaults, QuietHostsHaveNoFault}
use Rattle.memory_host.specs.Plan.{IsFaultless}
use Rattle.memory_host.specs.declared.plan.Plan.{Plan}
use Rattle.memory_host.proofs.FaultLemmas.{few_faults}
use Rattle.memory_host.proofs.SpellingLemmas.{spelled-one}

pub quiet_hosts_have_no_fault : QuietHostsHaveNoFault
quiet_hosts_have_no_fault host plan same quiet =
    let one = spelled-one host.plan plan host.fuses.items [] same in
    let own : IsFaultless host.plan = subst IsFaultless (sym one.0) quiet in
    record {
      file_faults = host.faults.no_file_fault own one.1;
      start_faults = host.faults.no_start_fault own one.1;
      taken = host.faults.not_taken own one.1;
    }

pub faults_are_planned : FaultsArePlanned
faults_are_planned host plan same no_fuse small =
    let one = spelled-one host.plan plan host.fuses.items [] same in
    let own : host.plan.fuse ≡ None = ap (λ (other : Plan). other.fuse) one.0 ∙ no_fuse in
    let few = few_faults (progress_of host) host.fuses.items host.file_faults host.start_faults host.taken host.faults
    (record { first = own; later = one.1 }) small in
    subst (λ other. HasFewFaults other (memory_session host)) one.0 (record { file_faults = few.0; start_faults = few.1; taken = few.2 })

pub children_answer_as_planned : ChildrenAnswerAsPlanned
children_answer_as_planned host plan fuses same =
    subst (λ one. AreAnswers one.children (memory_world host).asked)
    (spelled-one host.plan plan host.fuses.items fuses same).0 host.kin.answered
