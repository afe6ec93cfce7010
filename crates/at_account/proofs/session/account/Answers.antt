use Rattle.std.proofs.Common.{List, rules, subst, ℕ}
use Rattle.tool_output.specs.Sinks.{sink_at}
use Rattle.tool_output.specs.Whole.{PutsWhole}
use Rattle.at_account.proofs.SessionLemmas.{Ends, put_leaves, session_ends, session_images, session_may_end, stopped_leaves}
use Rattle.at_account.proofs.session.account.Goals as goal

pub returns-in-Ok-clause-accounts : goal.returns-in-Ok-clause-accounts
returns-in-Ok-clause-accounts g c = record {
  images = session_images g.H.Host _ _ _ _ _ _ c.in-Ok.ensures.ends (λ first last did. search (rules, did));
  leaves = λ tells alone.
      put_leaves c.args.show g.O.Sink.tells (g.H.Host.world c.args.host.now) (g.H.Host.world c.in_command_session.new.host)
      (sink_at (g.O.Sink.content c.args.out.now) (g.O.Sink.outlet c.args.out.now))
      (sink_at (g.O.Sink.content c.put_whole.new.out) (g.O.Sink.outlet c.put_whole.new.out))
      c.in-Ok.text c.put_whole.result
      (subst (λ (of : List ℕ). PutsWhole g.O.Sink.tells of (sink_at (g.O.Sink.content c.args.out.now) (g.O.Sink.outlet c.args.out.now))
      (sink_at (g.O.Sink.content c.put_whole.new.out) (g.O.Sink.outlet c.put_whole.new.out)) c.put_whole.result) c.as_slice.ensures
      c.put_whole.ensures.puts)
      (subst (Ends c.args.show (g.H.Host.world c.args.host.now) (g.H.Host.world c.in_command_session.new.host)) c.in-Ok.is
      (session_ends g.H.Host _ _ _ _ _ c.in_command_session.result c.in_command_session.ensures.ends c.args.show
      (λ first last did. search (rules, did)) tells alone));
}

pub returns-in-Err-clause-accounts : goal.returns-in-Err-clause-accounts
returns-in-Err-clause-accounts g c = record {
  images = session_images g.H.Host _ _ _ _ _ _ c.in-Err.ensures.ends (λ first last did. search (rules, did));
  leaves = λ tells alone.
      stopped_leaves c.args.show g.O.Sink.tells (g.H.Host.world c.args.host.now) (g.H.Host.world c.in_command_session.new.host)
      (sink_at (g.O.Sink.content c.args.out.now) (g.O.Sink.outlet c.args.out.now)) c.in-Err.stopped.cause
      (session_may_end g.H.Host _ _ _ _ _ _ c.in-Err.ensures.ends (λ first last did. search (rules, did)))
      (session_ends g.H.Host _ _ _ _ _ _ c.in-Err.ensures.ends c.args.show (λ first last did. search (rules, did)) tells alone);
}
