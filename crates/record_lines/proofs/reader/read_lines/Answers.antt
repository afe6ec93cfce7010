use Rattle.std.proofs.Common.{◌≡◌, drop, subst, arith, length-drop}
use Rattle.record_lines.specs.Lines.{HasBadFirstLine, IsFirstBadLine, IsGoodLine}
use Rattle.record_lines.proofs.FileLemmas.{good_more, range_left}
use Rattle.record_lines.proofs.reader.read_lines.Goals as goal

pub returns-in_default-clause-damaged : goal.returns-in_default-clause-damaged
returns-in_default-clause-damaged g c offset same =
    let spells = g.R.LineRecord.spells in
    let legal = g.K.Keeper.legal in
    let loop = c.loop-offset in
    let at : loop.offset ≡ offset = cc in
    subst (IsFirstBadLine spells legal c.args.bytes.now) at (record {
      records = loop.records.items;
      before = loop.invariant.1;
      inside = c.loop-offset-test.true;
      bad = subst (HasBadFirstLine spells legal loop.records.items) (range_left c.args.bytes.now loop.offset)
          (c.in_default.ensures.bad loop.records.items loop.invariant.2);
    })

pub loop-offset-preserved : goal.loop-offset-preserved
loop-offset-preserved g c =
    let spells = g.R.LineRecord.spells in
    let legal = g.K.Keeper.legal in
    let loop = c.loop-offset in
    let first = c.in-Some.first in
    let good : IsGoodLine spells legal loop.records.items (drop loop.offset c.args.bytes.now) first.one first.length =
    subst (λ rest. IsGoodLine spells legal loop.records.items rest first.one first.length) (range_left c.args.bytes.now loop.offset)
    (c.in-Some.ensures.good loop.records.items loop.invariant.2) in
    let counted = good.counted in
    rw c.in_ok-keep_record.ensures.records (
      omega (arith, length-drop loop.offset c.args.bytes.now),
      good_more spells legal c.args.bytes.now loop.offset loop.records.items first.one first.length loop.invariant.1 good,
      c.in_ok-keep_record.ensures.keeper loop.records.items loop.invariant.2 good.may,
    )
