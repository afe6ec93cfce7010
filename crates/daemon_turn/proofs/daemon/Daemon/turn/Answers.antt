use Rattle.std.proofs.Common.{◌∙◌, refl, rules, subst, sym}
use Rattle.daemon_turn.specs.Daemons.{DaemonState}
use Rattle.daemon_turn.specs.Kids.{AreChildren}
use Rattle.daemon_turn.specs.TurnOutcome.{TurnsTo}
use Rattle.daemon_turn.specs.declared.turn_input.TurnInput.{TurnInput}
use Rattle.host_calls.specs.declared.turn_end.TurnEnd.{TurnEnd}
use Rattle.host_calls.specs.SessionEnds.{end_of_session}
use Rattle.daemon_turn.proofs.DaemonLemmas.{turn_of_session}
use Rattle.daemon_turn.proofs.daemon.Daemon.turn.Goals as goal

pub returns : goal.returns
returns g c =
    let at : TurnInput = record { now = c.args.now; load = c.args.load; mode = c.args.mode } in
    let daemon : DaemonState = record { kids = c.self.inside.kids.items; limit = c.self.inside.limit; interval = c.self.inside.interval } in
    let now : DaemonState =
    record { kids = c.turning-2-1.given.0.kids.items; limit = c.self.inside.limit; interval = c.self.inside.interval } in
    subst (λ (was : DaemonState). TurnsTo g.H.Host.tells g.H.Host.alone at
    (record { session = g.H.Host.session c.args.host.now; world = g.H.Host.world c.args.host.now; daemon = was })
    (record { session = g.H.Host.session c.in_session-worked.new.host; world = g.H.Host.world c.in_session-worked.new.host; daemon = now })
    c.turn_report.result.end c.turn_report.result.steps) c.self.view_is
    (subst (λ (end : TurnEnd). TurnsTo g.H.Host.tells g.H.Host.alone at
    (record { session = g.H.Host.session c.args.host.now; world = g.H.Host.world c.args.host.now; daemon = daemon })
    (record { session = g.H.Host.session c.in_session-worked.new.host; world = g.H.Host.world c.in_session-worked.new.host; daemon = now })
    end c.turn_report.result.steps) (sym (c.turn_report.ensures.end ∙ c.end_of_session.ensures))
    (subst (TurnsTo g.H.Host.tells g.H.Host.alone at
    (record { session = g.H.Host.session c.args.host.now; world = g.H.Host.world c.args.host.now; daemon = daemon })
    (record { session = g.H.Host.session c.in_session-worked.new.host; world = g.H.Host.world c.in_session-worked.new.host; daemon = now })
    (end_of_session c.in_session-worked.result)) (sym c.turn_report.ensures.steps)
    (turn_of_session g.H.Host _ _ _ _ _ at daemon now refl refl
    (subst (λ (is : DaemonState). AreChildren (g.H.Host.session c.args.host.now).children is.kids) (sym c.self.view_is) c.requires.children)
    c.self.invariant _
    (λ same. (search (rules, same, c.replace.ensures.value), search (rules, same, c.new-2.ensures.items)))
    (λ first last done did. search (rules, did)) c.in_session-worked.result c.in_session-worked.ensures.ends)))
