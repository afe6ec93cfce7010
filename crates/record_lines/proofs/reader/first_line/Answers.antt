use Rattle.std.proofs.Common.{◌+◌, take, drop, sym, subst}
use Rattle.std.proofs.lemmas.Bool.Decides.{not_from_Decides}
use Rattle.record_lines.specs.Lines.{no_newline, no_record}
use Rattle.record_lines.proofs.LineLemmas.{line_ends, no_line_ends}
use Rattle.record_lines.proofs.reader.first_line.Goals as goal

pub returns-in_err-end-clause-bad : goal.returns-in_err-end-clause-bad
returns-in_err-end-clause-bad g c =
    rw c.from_residual.ensures (λ before tells. no_newline (no_line_ends c.args.rest.now (sym c.in_err-end.ensures)))

pub returns-in_err-one-clause-bad : goal.returns-in_err-one-clause-bad
returns-in_err-one-clause-bad g c = rw c.from_residual-in_err-one.ensures (λ before tells.
    let ends = line_ends c.args.rest.now c.in_ok-end.end (sym c.in_ok-end.ensures) in
    no_record _ _ ends.whole ends.parted (λ one spelled may. c.in_err-one.ensures.none one spelled))

pub returns-then-not-allows-clause-bad : goal.returns-then-not-allows-clause-bad
returns-then-not-allows-clause-bad g c before tells =
    let ends = line_ends c.args.rest.now c.in_ok-end.end (sym c.in_ok-end.ensures) in
    no_record _ _ ends.whole ends.parted (λ one spelled may.
    not_from_Decides c.allows.result (c.allows.ensures before tells) c.if-not-allows.true
    (subst (g.K.Keeper.legal before) (g.met.R.LineRecord.spells_one _ one c.in_ok-one.one spelled c.in_ok-one.ensures.some) may))

pub returns-clause-good : goal.returns-clause-good
returns-clause-good g c before tells =
    let ends = line_ends c.args.rest.now c.in_ok-end.end (sym c.in_ok-end.ensures) in
    record {
      rest = drop (c.in_ok-end.end + 1) c.args.rest.now;
      begins = record {
        line = take c.in_ok-end.end c.args.rest.now;
        whole = ends.whole;
        parted = ends.parted;
        spelled = c.in_ok-one.ensures.some;
      };
      counted = ends.counted;
      may = (c.allows.ensures before tells).0 c.if-not-allows.false;
    }
