use Rattle.std.proofs.Common.{refl, ◌∙◌, [], ◌∷◌, ◌++◌, length, ◌≡◌, ◌+◌, arith, false}
use Rattle.tool_output.specs.Sinks.{sink_at}
use Rattle.host_calls.proofs.SessionLemmas.{counts_on, no_counts}
use Rattle.serving.specs.Serves.{serve_at}
use Rattle.tool_output.specs.Outside.{telling}
use Rattle.serving.proofs.ProceedLemmas.{ended_made, nothing_served}
use Rattle.serving.proofs.ServeLemmas.{children_same, children_then, one_longer}
use Rattle.serving.proofs.serve_loop.make_turns.Goals as goal

pub loop-turn-init : goal.loop-turn-init
loop-turn-init g c = record {
  outside = c.requires.outside;
  children = c.requires.children;
  kept = children_same (g.H.Host.session c.args.host.now).children;
  counts = no_counts (g.H.Host.session c.args.host.now);
  readers_made = refl;
  out_made = refl;
  errors_made = refl;
  items = [];
  all = refl;
  has = nothing_served (telling g.H.Host.tells g.H.Host.alone g.R.Readings.tells false g.O.Sink.tells g.E.Sink.tells)
      c.args.once c.new-progress.result
      (serve_at (g.H.Host.session c.args.host.now) (g.H.Host.world c.args.host.now) c.args.daemon.now
      (g.R.Readings.answers c.args.readings.now) (g.R.Readings.readers c.args.readings.now))
      (sink_at (g.O.Sink.content c.args.out.now) (g.O.Sink.outlet c.args.out.now))
      (sink_at (g.E.Sink.content c.args.err.now) (g.E.Sink.outlet c.args.err.now)) c.new-progress.ensures;
}

pub next_turn-requires-clause-outside : goal.next_turn-requires-clause-outside
next_turn-requires-clause-outside g c = c.loop-turn.invariant.outside

pub next_turn-requires-clause-children : goal.next_turn-requires-clause-children
next_turn-requires-clause-children g c = c.loop-turn.invariant.children

pub loop-turn-preserved : goal.loop-turn-preserved
loop-turn-preserved g c =
    let more = c.in-None.ensures.proceeds c.loop-turn.invariant.items _ _ _ c.loop-turn.invariant.has in record {
      outside = c.next_turn.ensures.outside;
      children = c.next_turn.ensures.children;
      kept = children_then _ _ _ c.loop-turn.invariant.kept c.next_turn.ensures.kept;
      counts = counts_on _ _ _ c.loop-turn.invariant.counts c.next_turn.ensures.counts;
      readers_made = c.next_turn.ensures.readers_made ∙ c.loop-turn.invariant.readers_made;
      out_made = c.next_turn.ensures.out_made ∙ c.loop-turn.invariant.out_made;
      errors_made = c.next_turn.ensures.errors_made ∙ c.loop-turn.invariant.errors_made;
      items = c.loop-turn.invariant.items ++ more.0 ∷ [];
      all = (let longer : length (c.loop-turn.invariant.items ++ more.0 ∷ []) ≡ length c.loop-turn.invariant.items + 1 =
          one_longer c.loop-turn.invariant.items more.0 in
          let before : length c.loop-turn.invariant.items ≡ c.loop-turn._turn = c.loop-turn.invariant.all in omega arith);
      has = more.1;
    }

pub returns-in-Some-clause-outside : goal.returns-in-Some-clause-outside
returns-in-Some-clause-outside g c = c.next_turn.ensures.outside

pub returns-in-Some-clause-children : goal.returns-in-Some-clause-children
returns-in-Some-clause-children g c = c.next_turn.ensures.children

pub returns-in-Some-clause-kept : goal.returns-in-Some-clause-kept
returns-in-Some-clause-kept g c = children_then _ _ _ c.loop-turn.invariant.kept c.next_turn.ensures.kept

pub returns-in-Some-clause-counts : goal.returns-in-Some-clause-counts
returns-in-Some-clause-counts g c = counts_on _ _ _ c.loop-turn.invariant.counts c.next_turn.ensures.counts

pub returns-in-Some-clause-readers_made : goal.returns-in-Some-clause-readers_made
returns-in-Some-clause-readers_made g c = c.next_turn.ensures.readers_made ∙ c.loop-turn.invariant.readers_made

pub returns-in-Some-clause-out_made : goal.returns-in-Some-clause-out_made
returns-in-Some-clause-out_made g c = c.next_turn.ensures.out_made ∙ c.loop-turn.invariant.out_made

pub returns-in-Some-clause-errors_made : goal.returns-in-Some-clause-errors_made
returns-in-Some-clause-errors_made g c = c.next_turn.ensures.errors_made ∙ c.loop-turn.invariant.errors_made

pub returns-in-Some-clause-ends : goal.returns-in-Some-clause-ends
returns-in-Some-clause-ends g c =
    c.in-Some.ensures.proceeds c.loop-turn.invariant.items _ _ _ c.loop-turn.invariant.has c.args.turns
    (let before : length c.loop-turn.invariant.items ≡ c.loop-turn._turn = c.loop-turn.invariant.all in omega arith)

pub returns-clause-outside : goal.returns-clause-outside
returns-clause-outside g c = c.loop-turn.invariant.outside

pub returns-clause-children : goal.returns-clause-children
returns-clause-children g c = c.loop-turn.invariant.children

pub returns-clause-kept : goal.returns-clause-kept
returns-clause-kept g c = c.loop-turn.invariant.kept

pub returns-clause-counts : goal.returns-clause-counts
returns-clause-counts g c = c.loop-turn.invariant.counts

pub returns-clause-readers_made : goal.returns-clause-readers_made
returns-clause-readers_made g c = c.loop-turn.invariant.readers_made

pub returns-clause-out_made : goal.returns-clause-out_made
returns-clause-out_made g c = c.loop-turn.invariant.out_made

pub returns-clause-errors_made : goal.returns-clause-errors_made
returns-clause-errors_made g c = c.loop-turn.invariant.errors_made

pub returns-clause-ends : goal.returns-clause-ends
returns-clause-ends g c =
    ended_made (telling g.H.Host.tells g.H.Host.alone g.R.Readings.tells false g.O.Sink.tells g.E.Sink.tells) c.args.once
    c.loop-turn.invariant.items c.loop-turn.progress _ _ _ _ _ _
    c.loop-turn.invariant.has c.args.turns c.outcome.result
    (let before : length c.loop-turn.invariant.items ≡ c.loop-turn._turn = c.loop-turn.invariant.all in omega arith)
    (rw c.kids.ensures.kids at c.outcome.ensures)
