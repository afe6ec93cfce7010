use Rattle.std.proofs.Common.{◌++◌, ◌∷◌, [], ◌==◌, ◌-◌, ap, cond, get_or, length, subst, sym, ◌∙◌}
use Rattle.std.specs.Prelude.{Some, None}
use Rattle.std.proofs.lemmas.List.{length-set}
use Rattle.memory_host.specs.Host.{progress_of, world_of}
use Rattle.memory_host.specs.inside.Faults.{AreFaultsPlanned}
use Rattle.memory_host.specs.inside.Kin.{AreChildrenAsPlanned}
use Rattle.memory_host.proofs.ChildLemmas.{ends_again, kin_asked}
use Rattle.memory_host.proofs.FaultLemmas.{asked_progress, faults_passed}
use Rattle.memory_host.proofs.host.MemoryHostHost.ended.Goals as goal

pub invariant_of-self-2 : goal.invariant_of-self-2
invariant_of-self-2 c =
    let host = c.args.self.now in
    let at = progress_of host in
    let wait = get_or host.waits.items c.args.child.now.id 0 in
    let asked = c.push_reserved.ensures.items
    ∙ ap (λ l. l ++ record { child = c.args.child.now; answer = c.ask-answer.result } ∷ []) c.reserve.ensures.items in
    record {
      faults = subst (λ next. AreFaultsPlanned next host.fuses.items host.file_faults host.start_faults host.taken)
          (sym (asked_progress at _ _ _ c.next-self.ensures.call c.next-self.ensures.since_reboot (ap length c.ask-answer.ensures.counted
          ∙ length-set host.waits.items c.args.child.now.id (wait - 1))))
          (faults_passed at host.fuses.items host.file_faults host.start_faults host.taken host.faults);
      kin = subst (λ l. AreChildrenAsPlanned host.plan.children l c.ask-answer.new.waits.items host.children.items) (sym asked)
          (kin_asked host.plan.children host.asked.items host.waits.items c.ask-answer.new.waits.items host.children.items
          (record { child = c.args.child.now; answer = c.ask-answer.result }) host.kin c.requires.started c.ask-answer.ensures.counted
          (c.ask-answer.ensures.answer ∙ ap (λ plan. cond (wait == 0) (Some plan.ending) None) c.plan-ending.ensures.plan));
    }

pub returns-clause-asked : goal.returns-clause-asked
returns-clause-asked c =
    let host = c.args.self.now in
    let wait = get_or host.waits.items c.args.child.now.id 0 in (
      ap (λ asked. world_of host.past asked) (c.push_reserved.ensures.items
          ∙ ap (λ l. l ++ record { child = c.args.child.now; answer = c.ask-answer.result } ∷ []) c.reserve.ensures.items),
      ends_again host.plan.children host.asked.items host.waits.items host.children.items
          c.args.child.now c.ask-answer.result host.kin c.requires.started (c.ask-answer.ensures.answer
          ∙ ap (λ plan. cond (wait == 0) (Some plan.ending) None) c.plan-ending.ensures.plan),
    )

pub returns-clause-count : goal.returns-clause-count
returns-clause-count c =
    let host = c.args.self.now in
    record {
      counted = λ some. asked_progress (progress_of host) _ _ _ c.next-self.ensures.call
          c.next-self.ensures.since_reboot (ap length c.ask-answer.ensures.counted
          ∙ length-set host.waits.items c.args.child.now.id (get_or host.waits.items c.args.child.now.id 0 - 1));
      uncounted = λ memory. cc;
    }
