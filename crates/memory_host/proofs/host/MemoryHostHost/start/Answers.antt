use Rattle.std.proofs.Common.{◌≡◌, ◌++◌, ◌∷◌, [], ap, arith, false, length, length-append, not, refl, rules, subst, sym, true, ◌∙◌}
use Rattle.memory_host.specs.Children.{plan_of}
use Rattle.memory_host.specs.Host.{progress_of, world_of}
use Rattle.memory_host.specs.Plan.{next_start_fails}
use Rattle.memory_host.specs.declared.past_call.PastCall.TheVariants.{HandedOver}
use Rattle.memory_host.specs.inside.Faults.{AreFaultsPlanned}
use Rattle.memory_host.specs.inside.Kin.{AreChildrenAsPlanned}
use Rattle.memory_host.specs.inside.Story.{with_next}
use Rattle.memory_host.proofs.ChildLemmas.{is_new, kin_failed, kin_started}
use Rattle.memory_host.proofs.FaultLemmas.{faults_start_failed, faults_started, start_fails, start_fine, start_progress}
use Rattle.memory_host.proofs.HostLemmas.{start_done, start_failed}
use Rattle.memory_host.proofs.host.MemoryHostHost.start.Goals as goal

pub invariant_of-self-then-fails : goal.invariant_of-self-then-fails
invariant_of-self-then-fails c =
    let host = c.args.self.now in
    let at = progress_of host in
    let waits = c.push_reserved.ensures.items ∙ ap (λ l. l ++ c.plan-asks.result.asks ∷ []) c.reserve-2.ensures.items in
    let asks = ap (λ plan. plan.asks) c.plan-asks.ensures.plan ∙ ap (λ n. (plan_of host.plan.children n).asks) c.next_start-id.ensures in
    record {
      faults = subst (λ next. AreFaultsPlanned next host.fuses.items host.file_faults c.saturating_add-self.result host.taken)
          (sym (start_progress at _ _ _ c.next-self.ensures.call c.next-self.ensures.since_reboot (ap length waits
          ∙ length-append host.waits.items (c.plan-asks.result.asks ∷ []))))
          (faults_start_failed at host.fuses.items host.file_faults host.start_faults host.taken host.faults _ c.saturating_add-self.ensures
          (sym c.next_start_fails-fails.ensures ∙ c.if-fails.true));
      kin = subst (AreChildrenAsPlanned host.plan.children host.asked.items c.push_reserved.new.self.items) (sym c.reserve.ensures.items)
          (kin_failed host.plan.children host.asked.items host.waits.items c.push_reserved.new.self.items host.children.items
          c.plan-asks.result.asks host.kin waits asks);
    }

pub returns-then-fails : goal.returns-then-fails
returns-then-fails c =
    let host = c.args.self.now in
    let at = progress_of host in
    let fails : next_start_fails at ≡ true = sym c.next_start_fails-fails.ensures ∙ c.if-fails.true in
    let waits = c.push_reserved.ensures.items ∙ ap (λ l. l ++ c.plan-asks.result.asks ∷ []) c.reserve-2.ensures.items in
    record {
      starts = search rules;
      cause = search rules;
      handed = start_failed c.args.number c.in_ok-hand_over.ensures.0 c.args.nice host.past host.asked.items c.args.name.now
          c.in_ok-hand_over.ensures.1 _
          (ap (λ story. world_of story host.asked.items) (c.in_ok-hand_over.ensures.2
          ∙ ap (λ b. with_next (HandedOver c.args.number c.in_ok-hand_over.ensures.0 c.args.nice (not b)) host.past) c.if-fails.true));
      answer = λ some. start_fails at fails;
      counted = λ some. start_progress at _ _ _ c.next-self.ensures.call c.next-self.ensures.since_reboot (ap length waits
          ∙ length-append host.waits.items (c.plan-asks.result.asks ∷ []));
      uncounted = λ memory. cc;
    }

pub invariant_of-self-2 : goal.invariant_of-self-2
invariant_of-self-2 c =
    let host = c.args.self.now in
    let at = progress_of host in
    let waits = c.push_reserved.ensures.items ∙ ap (λ l. l ++ c.plan-asks.result.asks ∷ []) c.reserve-2.ensures.items in
    let asks = ap (λ plan. plan.asks) c.plan-asks.ensures.plan ∙ ap (λ n. (plan_of host.plan.children n).asks) c.next_start-id.ensures in
    record {
      faults = subst (λ next. AreFaultsPlanned next host.fuses.items host.file_faults host.start_faults host.taken)
          (sym (start_progress at _ _ _ c.next-self.ensures.call c.next-self.ensures.since_reboot (ap length waits
          ∙ length-append host.waits.items (c.plan-asks.result.asks ∷ []))))
          (faults_started at host.fuses.items host.file_faults host.start_faults host.taken host.faults);
      kin = subst (AreChildrenAsPlanned host.plan.children host.asked.items c.push_reserved.new.self.items)
          (sym (c.push_reserved-2.ensures.items ∙ ap (λ l. l ++ record { id = c.next_start-id.result } ∷ []) c.reserve.ensures.items))
          (kin_started host.plan.children host.asked.items host.waits.items c.push_reserved.new.self.items host.children.items
          c.plan-asks.result.asks _ host.kin waits asks c.next_start-id.ensures);
    }

pub returns : goal.returns
returns c =
    let host = c.args.self.now in
    let at = progress_of host in
    let passes : next_start_fails at ≡ false = sym c.next_start_fails-fails.ensures ∙ c.if-fails.false in
    let waits = c.push_reserved.ensures.items ∙ ap (λ l. l ++ c.plan-asks.result.asks ∷ []) c.reserve-2.ensures.items in
    record {
      starts = record {
        inside = c.requires.inside;
        children = c.push_reserved-2.ensures.items ∙ ap (λ l. l ++ record { id = c.next_start-id.result } ∷ []) c.reserve.ensures.items;
        is_new = is_new host.plan.children host.asked.items host.waits.items host.children.items (record { id = c.next_start-id.result })
            host.kin c.next_start-id.ensures;
        counts = record { made_as = refl; file_faults = omega arith; start_faults = omega arith; taken = omega arith };
      };
      cause = search rules;
      handed = start_done c.args.number c.in_ok-hand_over.ensures.0 c.args.nice host.past host.asked.items c.args.name.now
          c.in_ok-hand_over.ensures.1 _ _
          (ap (λ story. world_of story host.asked.items) (c.in_ok-hand_over.ensures.2
          ∙ ap (λ b. with_next (HandedOver c.args.number c.in_ok-hand_over.ensures.0 c.args.nice (not b)) host.past) c.if-fails.false));
      answer = λ some. start_fine at _ c.next_start-id.ensures passes;
      counted = λ some. start_progress at _ _ _ c.next-self.ensures.call c.next-self.ensures.since_reboot (ap length waits
          ∙ length-append host.waits.items (c.plan-asks.result.asks ∷ []));
      uncounted = λ memory. cc;
    }
