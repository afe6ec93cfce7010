use Rattle.std.proofs.Common.{◌∙◌, List, inl, inr, refl, subst, sym, ℕ}
use Rattle.at_stat.specs.StatOutcome.{HasStatEnded, stat_outside, wait_of, wait_tells}
use Rattle.at_stat.specs.WaitSessions.{HasStopped, HasSeen}
use Rattle.at_stat.specs.inside.StateLines.{PutsStateLines}
use Rattle.at_stat.proofs.EndLemmas.{ended_shown, ended_stopped, ended_without}
use Rattle.at_stat.proofs.FrameLemmas.{seen_frame}
use Rattle.at_stat.proofs.program.stat_for.Goals as goal

pub show_states-requires-clause-outside : goal.show_states-requires-clause-outside
show_states-requires-clause-outside g c = (seen_frame _ _ _ _ _ _ _ _ c.in-Ok.ensures).left.outside

pub returns-in-Ok : goal.returns-in-Ok
returns-in-Ok g c =
    let request = c.args.request.now in
    let caller = c.args.caller.now in
    let old = stat_outside g.H.Host g.R.Readings g.O.Sink c.args.host.now c.args.readings.now c.args.out.now in
    let new = stat_outside g.H.Host g.R.Readings g.O.Sink c.final_result.new.host c.final_result.new.readings c.show_states.new.out in
    let sees = subst (λ (user : List ℕ).
    HasSeen (wait_tells old) user request.wait request.which (wait_of old) (wait_of new) c.in-Ok.sight.store c.in-Ok.sight.finished)
    (sym c.requires.user) c.in-Ok.ensures in
    elim c.show_states.ensures.puts [
      | inl lines ↦ ended_shown request caller old new c.in-Ok.sight sees c.requires.named (sym c.is_unreadable.ensures
          ∙ c.if-is_unreadable.false) c.show_states.result
          c.show_states.ensures.made_as c.show_states.ensures.output_fault c.show_states.ensures.code
          (subst (λ (user : List ℕ). PutsStateLines request user caller.zone c.in-Ok.sight old.tells.output old.holds.output
          new.holds.output c.show_states.result) (sym c.requires.user) lines)
      | inr without ↦ ended_without request caller old new c.in-Ok.sight sees c.requires.named (sym c.is_unreadable.ensures
          ∙ c.if-is_unreadable.false) c.show_states.result
          c.show_states.ensures.made_as c.show_states.ensures.output_fault c.show_states.ensures.code without
    ]

pub returns-in-Err : goal.returns-in-Err
returns-in-Err g c =
    let request = c.args.request.now in
    let caller = c.args.caller.now in
    let old = stat_outside g.H.Host g.R.Readings g.O.Sink c.args.host.now c.args.readings.now c.args.out.now in
    let new = stat_outside g.H.Host g.R.Readings g.O.Sink c.final_result.new.host c.final_result.new.readings c.args.out.now in
    subst (HasStatEnded _ caller old new) (sym c.of-in-Err.ensures)
    (ended_stopped request caller old new c.requires.named (sym c.is_unreadable.ensures ∙ c.if-is_unreadable.false)
    refl refl c.in-Err.stopped
    (subst (λ (user : List ℕ). HasStopped (wait_tells old) user request.wait request.which (wait_of old) (wait_of new) c.in-Err.stopped)
    (sym c.requires.user) c.in-Err.ensures))
