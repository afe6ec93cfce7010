use Rattle.std.proofs.Common.{◌∙◌, ◌∷◌, ap}
use Rattle.cron_minutes.specs.Commands.{pieces}
use Rattle.cron_minutes.proofs.PieceLemmas.{cut-here, cut-later, cut-none, part-cut, part-end, part-more}
use Rattle.cron_minutes.proofs.commands.put_part.Goals as goal

pub loop-piece-preserved : goal.loop-piece-preserved
loop-piece-preserved c =
    let loop = c.loop-piece in
    let same = c.in-Some.ensures.piece ∙ ap (λ p. p ∷ pieces c.in-Some.after.now) c.in-Byte.is in
    let part = part-more loop.text.items (pieces loop.rest.now) c.in-Byte.byte (pieces c.in-Some.after.now) same in
    let cut = cut-later (pieces loop.rest.now) c.in-Byte.byte (pieces c.in-Some.after.now) same in
    (rw c.in_ok-push-in-Byte.ensures.items (part ∙ loop.invariant.0), cut ∙ loop.invariant.1)

pub returns-in-Cut-clause-part : goal.returns-in-Cut-clause-part
returns-in-Cut-clause-part c =
    let loop = c.loop-piece in
    let same = c.in-Some.ensures.piece ∙ ap (λ p. p ∷ pieces c.in-Some.after.now) c.in-Cut.is in
    part-cut loop.text.items (pieces loop.rest.now) (pieces c.in-Some.after.now) same ∙ loop.invariant.0

pub returns-in-Cut-clause-rest : goal.returns-in-Cut-clause-rest
returns-in-Cut-clause-rest c =
    let loop = c.loop-piece in
    let same = c.in-Some.ensures.piece ∙ ap (λ p. p ∷ pieces c.in-Some.after.now) c.in-Cut.is in
    cut-here (pieces loop.rest.now) (pieces c.in-Some.after.now) same ∙ loop.invariant.1

pub returns-clause-part : goal.returns-clause-part
returns-clause-part c =
    let loop = c.loop-piece in part-end loop.text.items (pieces loop.rest.now) c.in_default.ensures.piece ∙ loop.invariant.0

pub returns-clause-rest : goal.returns-clause-rest
returns-clause-rest c =
    let loop = c.loop-piece in cut-none (pieces loop.rest.now) c.in_default.ensures.piece ∙ loop.invariant.1
