use Rattle.std.proofs.Common.{◌∙◌, List, ℕ, ap, subst, sym}
use Rattle.std.specs.List.{concat}
use Rattle.tool_output.specs.Sinks.{sink_at}
use Rattle.tool_output.specs.PutLines.{PutsLines}
use Rattle.at_day.proofs.LineLemmas.{lines_concat}
use Rattle.at_day.proofs.ProgramLemmas.{day_put, day_stopped}
use Rattle.at_day.proofs.made_day.put_day.Goals as goal

pub returns-in_err-counts-clause-puts : goal.returns-in_err-counts-clause-puts
returns-in_err-counts-clause-puts g c =
    day_stopped g.O.Sink.tells c.args.count (sink_at (g.O.Sink.content c.args.out.now) (g.O.Sink.outlet c.args.out.now))
    c.from_residual.result c.from_residual.ensures.1

pub returns-in_err-lines-clause-puts : goal.returns-in_err-lines-clause-puts
returns-in_err-lines-clause-puts g c =
    day_stopped g.O.Sink.tells c.args.count (sink_at (g.O.Sink.content c.args.out.now) (g.O.Sink.outlet c.args.out.now))
    c.from_residual-in_err-lines.result c.from_residual-in_err-lines.ensures.1

pub returns-clause-puts : goal.returns-clause-puts
returns-clause-puts g c =
    let old = sink_at (g.O.Sink.content c.args.out.now) (g.O.Sink.outlet c.args.out.now) in
    let new = sink_at (g.O.Sink.content c.put_lines.new.out) (g.O.Sink.outlet c.put_lines.new.out) in
    day_put g.O.Sink.tells c.args.count c.in_ok-counts.counts old new c.put_lines.result c.in_ok-counts.ensures
    (subst (λ (lines : List (List ℕ)). PutsLines g.O.Sink.tells (concat lines) old new c.put_lines.result)
    (c.as_slice.ensures.value ∙ c.in_ok-lines.ensures)
    (subst (λ (text : List ℕ). PutsLines g.O.Sink.tells text old new c.put_lines.result)
    (lines_concat c.as_slice.result.now) c.put_lines.ensures.puts))
