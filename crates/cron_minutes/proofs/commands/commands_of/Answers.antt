use Rattle.std.proofs.Common.{◌≡◌, ◌∙◌, Some, None}
use Rattle.cron_minutes.specs.Commands.{pieces}
use Rattle.cron_minutes.specs.inside.Lines.{after_cut, first_part}
use Rattle.cron_minutes.proofs.PieceLemmas.{commands-alone, commands-piped}
use Rattle.cron_minutes.proofs.commands.commands_of.Goals as goal

pub returns-in_ok-push-in-None : goal.returns-in_ok-push-in-None
returns-in_ok-push-in-None c =
    let command = c.args.entry.now.command in
    let first : c.put_part.new.text.items ≡ first_part (pieces command) =
    c.in_ok-put_part.ensures.part ∙ rw (c.new-first.ensures.items, c.as_slice.ensures) in
    let rest = rw c.in-None.is at c.in_ok-put_part.ensures.rest in
    let none : None ≡ after_cut (pieces command) = rw (← c.as_slice.ensures) rest in
    rw (c.from.ensures, c.in_ok-push-in-None.ensures.items) (commands-alone (pieces command) c.put_part.new.text.items none first)

pub returns-in-Some : goal.returns-in-Some
returns-in-Some c =
    let command = c.args.entry.now.command in
    let first : c.deref.result.now ≡ first_part (pieces command) =
    c.deref.ensures.value ∙ c.in_ok-put_part.ensures.part ∙ rw (c.new-first.ensures.items, c.as_slice.ensures) in
    let rest = rw c.in-Some.is at c.in_ok-put_part.ensures.rest in
    let some : Some (pieces c.in-Some.rest.now) ≡ after_cut (pieces command) = rw (← c.as_slice.ensures) rest in
    rw (← commands-piped (pieces command) (pieces c.in-Some.rest.now) c.deref.result.now some first) c.with_input.ensures
