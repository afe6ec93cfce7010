use Rattle.std.proofs.Common.{◌∙◌}
use Rattle.cron_minutes.specs.Commands.{pieces}
use Rattle.cron_minutes.proofs.PieceLemmas.{input-end, input-lines, input-more}
use Rattle.cron_minutes.proofs.commands.put_parts.Goals as goal

pub loop-piece-preserved : goal.loop-piece-preserved
loop-piece-preserved c =
    let loop = c.loop-piece in
    let more = input-more loop.text.items (pieces loop.rest.now) c.in-Some.piece (pieces c.in-Some.after.now) c.in-Some.ensures.piece in
    rw (c.in_ok-push.ensures.items, c.piece_byte.ensures) (more ∙ loop.invariant)

pub returns : goal.returns
returns c =
    let loop = c.loop-piece in
    let ended = input-end loop.text.items (pieces loop.rest.now) c.in_default.ensures.piece in
    rw (c.in_ok-push-2.ensures.items, ← input-lines (pieces c.args.command.now)) (ended ∙ loop.invariant)
